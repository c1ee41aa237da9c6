use Rattle.std.proofs.Common.{◌<◌, [], Some, None, length, get_or, option_map, ap, sym, ◌∙◌, arith}
use Rattle.std.proofs.lemmas.List.{get_or_read}
use Rattle.journal_entries.proofs.Naming.{get-named}
use Rattle.journal_entries.proofs.globals.Globals.numbered.Goals as goal

pub returns-in-Some : goal.returns-in-Some
returns-in-Some c =
    let s = c.self.inside in
    let ns = s.names in
    let vs = s.values.items in
    let i = c.args.i in
    let within : i < length ns = omega (arith, ap (λ n. length n.names) c.self.view_is, c.requires) in
    let value = get-named ns vs i c.self.invariant.1 within c.self.invariant.0
    ∙ sym (get_or_read vs i _ (omega (arith, within, c.self.invariant.0)) c.index.ensures None) ∙ c.in-Some.is in
    let name = sym c.name.ensures in
    rw (← c.self.view_is)
    (sym (ap (option_map (λ v. (get_or ns i [], v))) value ∙ (λ x. Some (name x, c.in-Some.value))))

pub returns-in-None : goal.returns-in-None
returns-in-None c =
    let s = c.self.inside in
    let ns = s.names in
    let vs = s.values.items in
    let i = c.args.i in
    let within : i < length ns = omega (arith, ap (λ n. length n.names) c.self.view_is, c.requires) in
    let value = get-named ns vs i c.self.invariant.1 within c.self.invariant.0
    ∙ sym (get_or_read vs i _ (omega (arith, within, c.self.invariant.0)) c.index.ensures None) ∙ c.in-None.is in
    rw (← c.self.view_is) (sym (ap (option_map (λ v. (get_or ns i [], v))) value))

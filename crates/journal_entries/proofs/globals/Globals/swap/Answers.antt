use Rattle.std.proofs.Common.{◌≡◌, ◌<◌, [], None, length, get_or, ap, sym, ◌∙◌, refl, arith}
use Rattle.std.proofs.lemmas.List.{get_or_read}
use Rattle.std.specs.FinMap as finite
use Rattle.journal_entries.proofs.Naming.{get-named, named-set}
use Rattle.journal_entries.proofs.globals.Globals.swap.Goals as goal

pub returns-clause-value : goal.returns-clause-value
returns-clause-value c =
    let s = c.self.inside in
    let ns = s.names in
    let names : ns ≡ c.args.self.now.names = ap (λ n. n.names) c.self.view_is in
    let within : c.args.i < length ns = omega (arith, ap length names) in
    let there : c.args.i < length s.values.items = omega (arith, c.self.invariant.0) in
    c.swap.ensures.y_after
    ∙ get_or_read s.values.items _ _ there c.index_mut.ensures.value None
    ∙ sym (get-named ns s.values.items c.args.i c.self.invariant.1 within c.self.invariant.0)
    ∙ ap (λ n. finite.get n.texts (get_or n.names c.args.i [])) c.self.view_is

pub returns-clause-texts : goal.returns-clause-texts
returns-clause-texts c =
    let s = c.self.inside in
    let ns = s.names in
    let names : ns ≡ c.args.self.now.names = ap (λ n. n.names) c.self.view_is in
    let within : c.args.i < length ns = omega (arith, ap length names) in
    let written = named-set ns s.values.items c.args.i c.args.value.now c.self.invariant.1 within c.self.invariant.0 in
    rw (← c.self.view_is, c.swap.ensures.x_after, written) refl

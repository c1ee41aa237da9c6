use Rattle.std.proofs.Common.{◌≡◌, ◌≢◌, ℕ, ◌<◌, [], None, length, get_or, ap, sym, ◌∙◌, arith}
use Rattle.std.proofs.lemmas.List.{get_or_read}
use Rattle.std.specs.FinMap as finite
use Rattle.journal_entries.proofs.Naming.{get-named, get-new, IsNew-absent}
use Rattle.journal_entries.proofs.globals.Globals.get.Goals as goal

pub returns-in-Some : goal.returns-in-Some
returns-in-Some c =
    let s = c.self.inside in
    let ns = s.names in
    let vs = s.values.items in
    let i = c.in-Some.i in
    let names : ns ≡ c.args.self.now.names = ap (λ n. n.names) c.self.view_is in
    let within : i < length ns = omega (arith, ap length names, c.in-Some.ensures.0) in
    let name : get_or ns i [] ≡ c.args.name.now = ap (λ m. get_or m i []) names ∙ c.in-Some.ensures.1 in
    c.as_ref.ensures.value
    ∙ get_or_read vs i _ (omega (arith, within, c.self.invariant.0)) c.index.ensures None
    ∙ sym (get-named ns vs i c.self.invariant.1 within c.self.invariant.0)
    ∙ (λ k. finite.get (c.self.view_is k).texts (name k))

pub returns-in-None : goal.returns-in-None
returns-in-None c =
    let s = c.self.inside in
    let ns = s.names in
    let names : ns ≡ c.args.self.now.names = ap (λ n. n.names) c.self.view_is in
    let absent : (i : ℕ) → i < length ns → get_or ns i [] ≢ c.args.name.now = rw names c.in-None.ensures in
    sym (ap (λ n. finite.get n.texts c.args.name.now) (sym c.self.view_is)
    ∙ get-new c.args.name.now ns s.values.items (IsNew-absent c.args.name.now ns absent))

use Rattle.std.proofs.Common.{◌≡◌, ◌<◌, [], None, length, get_or, ap, sym, ◌∙◌, arith}
use Rattle.std.specs.FinMap as finite
use Rattle.journal_entries.proofs.Naming.{get-named}
use Rattle.journal_entries.proofs.globals.Globals.known_number.Goals as goal

pub returns-then-is_at : goal.returns-then-is_at
returns-then-is_at c =
    let s = c.self.inside in
    let ns = s.names in
    let vs = s.values.items in
    let names : ns ≡ c.args.self.now.names = ap (λ n. n.names) c.self.view_is in
    let there = c.is_at.ensures c.if-is_at.true in
    let within : s.last < length ns = omega (arith, ap length names, there.0) in
    let name : get_or ns s.last [] ≡ c.args.name.now = ap (λ m. get_or m s.last []) names ∙ there.1 in
    let value : get_or vs s.last None ≡ finite.get c.args.self.now.texts c.args.name.now =
    sym (get-named ns vs s.last c.self.invariant.1 within c.self.invariant.0)
    ∙ (λ k. finite.get (c.self.view_is k).texts (name k)) in
    rw value at c.self.invariant.3

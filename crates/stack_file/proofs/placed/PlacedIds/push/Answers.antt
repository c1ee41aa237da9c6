use Rattle.std.proofs.Common.{◌≡◌, ℕ, sym, ap, length, cond, arith, nat_eq, Option, Some, ◌∙◌}
use Rattle.std.specs.Cmp.{unsigned_tied}
use Rattle.std.specs.Map.{lookup}
use Rattle.std.specs.Ordering.{nat_cmp, eq_by_cmp}
use Rattle.stack_file.proofs.Places.{placed-first}
use Rattle.stack_file.proofs.placed.PlacedIds.push.Goals as goal

pub invariant_of-self-2 : goal.invariant_of-self-2
invariant_of-self-2 c =
    let ids = c.self.inside.ids.items in
    let old : ℕ → Option ℕ = λ q. lookup (eq_by_cmp nat_cmp q) c.self.inside.places.entries in
    let new : ℕ → Option ℕ = λ q. lookup (eq_by_cmp nat_cmp q) c.insert.new.self.entries in
    let size : c.len.result ≡ length ids = omega
    (arith, c.reserve.ensures.items, c.reserve.new.self.ok.0, c.len.ensures, ap length c.reserve.ensures.items) in
    let updates : (q : ℕ) → new q ≡ cond (nat_eq c.args.id q) (Some (length ids)) (old q) = λ q.
    c.in_ok-insert.ensures.updates.0 q ∙ (λ i. cond (unsigned_tied c.args.id q i) (Some c.len.result) (old q))
    ∙ ap (λ n. cond (nat_eq c.args.id q) (Some n) (old q)) size in
    rw (c.push_reserved.ensures.items, c.reserve.ensures.items)
    (placed-first old new ids c.args.id c.self.invariant (sym c.if-contains_key.ensures) updates)

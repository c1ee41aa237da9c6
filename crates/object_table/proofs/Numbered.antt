-- The number of an id leads back to it.
use Rattle.std.proofs.Common.{◌≡◌, ◌==◌, ℕ, ◌+◌, ◌-◌, true, cond, List, get_or, ap, ◌∙◌, arith, Option, Some, None}
use Rattle.std.proofs.Common.{position, slice_get}
use Rattle.std.proofs.lemmas.Bool.Decides.{nat_tests}
use Rattle.std.proofs.lemmas.List.Quantifiers.{position-Some}
use Rattle.std.proofs.lemmas.Option.{slice_get-get_or}
use Rattle.object_table.specs.Numbers.{at_number}

same_number : (a b : ℕ) → (a == b) ≡ true → a ≡ b
same_number a b h = grind (arith, nat_tests)

at_next : (i : ℕ) (o : ℕ → Option ℕ) → cond (i + 1 == 0) None (o (i + 1 - 1)) ≡ o i
at_next i o = grind (arith, nat_tests)

pub at_number-position : (ids : List ℕ) (id i : ℕ) → position (λ x. x == id) ids ≡ Some i
    → at_number ids (i + 1) ≡ Some id
at_number-position ids id i found =
    let there = position-Some (λ x. x == id) ids i 0 found in
    at_next i (λ k. slice_get ids k) ∙ slice_get-get_or ids i 0 there.0
    ∙ ap (λ x. Some x) (same_number (get_or ids i 0) id there.1)

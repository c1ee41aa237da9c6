-- A map that holds an entry isn't empty; and which ids a list without its first contains.
use Rattle.std.proofs.Common.{◌≡◌, ◌≢◌, ℕ, zero, suc, ◌≤◌, true, List, ◌∷◌, refl, sym, ap, ◌∙◌, arith, Option, None}
use Rattle.std.proofs.Common.{IsSome, is_some}
use Rattle.std.specs.Ordering.{nat_cmp}
use Rattle.std.specs.FinMap.{FinMap, get, len, empty_of_len, get-empty}
use Rattle.std.proofs.lemmas.Bool.{false≢true}
use Rattle.std.proofs.lemmas.Bool.Decides.{nat_tests}
use Rattle.object_table.specs.Objects.{contains_id}

pub contains_id-later : (id x : ℕ) (xs : List ℕ) → x ≢ id → contains_id id (x ∷ xs) ≡ true → contains_id id xs ≡ true
contains_id-later id x xs n h = grind (arith, nat_tests)

module _ {X : Type 0} where
  none_is_not_some : (o : Option X) → o ≡ None → IsSome o → ⊥
  none_is_not_some o e h = false≢true (ap (λ p. is_some p) (sym e) ∙ h)

  pub not_empty : (m : FinMap nat_cmp X) (x : ℕ) → IsSome (get m x) → 1 ≤ len m
  not_empty m x h = by (len m) refl
    where
      by : (n : ℕ) → len m ≡ n → 1 ≤ n
      by zero e = absurd (none_is_not_some (get m x) (ap (λ p. get p x) (empty_of_len m e) ∙ get-empty nat_cmp x) h)
      by (suc n) e = omega arith

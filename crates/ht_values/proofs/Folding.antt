-- Folded texts.
use Rattle.std.proofs.Common.{◌≡◌, ℕ, true, not, List, [], ◌∷◌, refl, arith}
use Rattle.std.specs.Char.{is_ascii_uppercase, to_ascii_lowercase}
use Rattle.std.proofs.lemmas.Bool.{and_parts}
use Rattle.std.proofs.lemmas.Bool.Decides.{nat_tests}
use Rattle.ht_values.specs.Text.{folded, is_folded}

not_upper : (b : ℕ) → not (is_ascii_uppercase (to_ascii_lowercase b)) ≡ true
not_upper b = grind (arith, nat_tests)

lower_stays : (b : ℕ) → not (is_ascii_uppercase b) ≡ true → to_ascii_lowercase b ≡ b
lower_stays b h = grind (arith, nat_tests)

-- what is folded is folded
pub folded_is_folded : (t : List ℕ) → is_folded (folded t) ≡ true
folded_is_folded [] = refl
folded_is_folded (b ∷ bs) = rw (not_upper b) (folded_is_folded bs)

-- a folded text is its folded form
pub folded_stays : (t : List ℕ) → is_folded t ≡ true → folded t ≡ t
folded_stays [] h = refl
folded_stays (b ∷ bs) h =
    let parts = and_parts (not (is_ascii_uppercase b)) (is_folded bs) h in
    rw (lower_stays b parts.0, folded_stays bs parts.1) refl

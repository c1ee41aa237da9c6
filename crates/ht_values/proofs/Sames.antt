-- Texts that are the same.
use Rattle.std.proofs.Common.{◌≡◌, ap, ℕ, Bool, cond, List}
use Rattle.std.specs.Prelude.{IsTrue, ◌↔◌}
use Rattle.std.proofs.lemmas.Bool.{false_from_ne_true}
use Rattle.std.proofs.lemmas.Bool.Decides.{same_from_decides}
use Rattle.std.proofs.lemmas.Slice.Eq.{bytes_eq-Decides}
use Rattle.std.specs.Ordering.{int_eq}
use Rattle.ht_values.specs.Number.{value_of}
use Rattle.ht_values.specs.Operators.{are_equal, are_numerals}
use Rattle.ht_values.specs.Text.{Same, folded, same}

pub same_by : (r : Bool) (a b : List ℕ) → (IsTrue r ↔ Same a b) → r ≡ same a b
same_by r a b h = same_from_decides r (same a b) h (bytes_eq-Decides (folded a) (folded b))

-- where one isn't a numeral, those that are equal are the same
pub equal_as_texts : (a b : List ℕ) → ¬ (IsTrue (are_numerals a b)) → are_equal a b ≡ same a b
equal_as_texts a b none =
    ap (λ v. cond v (int_eq (value_of a) (value_of b)) (same a b)) (false_from_ne_true (are_numerals a b) none)

-- Keys of names.
use Rattle.std.proofs.Common.{◌≡◌, ◌≢◌, ℕ, false, List, ap}
use Rattle.std.specs.List.{fold}
use Rattle.std.proofs.lemmas.Bool.{false_from_ne_true}
use Rattle.std.proofs.lemmas.Slice.Eq.{bytes_eq-Decides}
use Rattle.ht_values.specs.Text.{folded, same}
use Rattle.object_table.specs.Keys.{with_folded, key_of}

-- names with other keys are not the same
pub other_key : (a b : List ℕ) → key_of a ≢ key_of b → same a b ≡ false
other_key a b apart =
    false_from_ne_true (same a b) (λ e. apart (ap (fold with_folded 1) ((bytes_eq-Decides (folded a) (folded b)).0 e)))

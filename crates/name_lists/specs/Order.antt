-- The places of names in the order of their folded forms.
use Rattle.std.specs.Prelude.{◌≡◌, ◌<◌, ℕ, List, [], Bool, false, All, length, option_map, unwrap_or}
use Rattle.std.specs.Prelude.{slice_get, slice_index_or}
use Rattle.std.specs.Cmp.Lexicographic.{slice_cmp}
use Rattle.std.specs.List.Sorted.{IsSortedBy}
use Rattle.std.specs.Ordering.{is_lt, nat_cmp}
use Rattle.ht_values.specs.Text.{folded}

-- the folded form of the name at a place that is written where its argument stands; at no place it has no byte
abbrev pub form_by : List (List ℕ) → List ℕ → ℕ → List ℕ
form_by written arguments place =
    unwrap_or (option_map (λ a. folded (slice_index_or written a [])) (slice_get arguments place)) []

-- a name stands before another by the bytes of their forms
abbrev pub comes_before : List (List ℕ) → ℕ → ℕ → Bool
comes_before names p q = is_lt (slice_cmp nat_cmp (slice_index_or names p []) (slice_index_or names q []))

-- the places of all names stand in it, and no other, and the names rise
pub record IsOrderOf (names : List (List ℕ)) (order : List ℕ) : Type 0 where
  pub within : All (λ p. p < length names) order
  -- what no place that stands there passes, no place passes
  pub each : (t : ℕ → Bool) → All (λ p. t p ≡ false) order → (p : ℕ) → p < length names → t p ≡ false
  pub rising : IsSortedBy (comes_before names) order

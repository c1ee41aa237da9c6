-- Names whose places are kept beside them.
use Rattle.std.specs.Prelude.{◌≡◌, ◌+◌, ℕ, List, [], ◌∷◌, Option, None, map, take, position}
use Rattle.std.specs.Prelude.{option_map, unwrap_or}
use Rattle.std.specs.Map.{lookup}
use Rattle.std.specs.Ordering.{is_eq, nat_cmp}
use Rattle.std.specs.Cmp.Lexicographic.{slice_cmp}
use Rattle.ht_values.specs.Text.{folded, same}
use Rattle.name_lists.specs.Parameters.{bindings_of, names_bound}
use Rattle.name_lists.specs.declared.places.PlaceMap.{PlaceMap}
use Rattle.name_lists.specs.declared.places.TheConstants.{MOST_SCANNED}

-- where the first name stands that is the same
abbrev pub place_of_name : List ℕ → List (List ℕ) → Option ℕ
place_of_name name names = position (λ n. same n name) names

-- the place that is kept of a name, by its folded form
abbrev pub place_in : PlaceMap → List ℕ → Option ℕ
place_in places name = lookup (λ k. is_eq (slice_cmp nat_cmp (folded name) k.items)) places.entries.entries

-- the names of which places are kept, folded, with their places
abbrev pub pairs_in : PlaceMap → List (List ℕ × ℕ)
pairs_in places = map (λ e. (e.0.items, e.1)) places.entries.entries

-- names with their places, from this one on
abbrev pub placed_from : ℕ → List (List ℕ) → List (List ℕ × ℕ)
placed_from i [] = []
placed_from i (name ∷ names) = (name, i) ∷ placed_from (i + 1) names

-- the names of parameters that are shared, folded, with their places
abbrev pub pairs_shared : Option (List (List ℕ)) → List (List ℕ × ℕ)
pairs_shared shared = unwrap_or (option_map (λ names. placed_from 0 (names_bound (bindings_of names))) shared) []

-- the place that is kept of a name, among folded names
abbrev pub place_kept : List (List ℕ × ℕ) → List ℕ → Option ℕ
place_kept ps name = lookup (λ n. is_eq (slice_cmp nat_cmp (folded name) n)) ps

-- each name that isn't among the first few has its place kept, if it stands there
abbrev pub AreIndexed : (List ℕ → Option ℕ) → List (List ℕ) → Type 0
AreIndexed kept names = (name : List ℕ) → place_of_name name (take MOST_SCANNED names) ≡ None
    → kept name ≡ place_of_name name names

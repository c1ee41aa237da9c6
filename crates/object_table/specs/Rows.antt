-- Values at pairs of ids: a row for each card that has one, with a value or none at each part that is open there.
use Rattle.std.specs.Prelude.{◌≡◌, ℕ, ◌<◌, ◌≤◌, List, [], ◌∷◌, ◌++◌, length, map, slice_index_or, Option, false, nat_eq}
use Rattle.std.specs.Prelude.{Some, option_and_then}
use Rattle.std.specs.Map.{lookup}
use Rattle.object_table.specs.Objects.{contains_id}
use Rattle.object_table.specs.Pairs.{Pair}

-- what stands first at an id
abbrev pub entry_at : {Y : Type 0} → List (ℕ × Y) → ℕ → Option Y
entry_at es id = lookup (nat_eq id) es

-- what stands at an id that is open then: the value that stood there, or none
abbrev pub opened_at : {X : Type 0} → Option (Option X) → Option (Option X)
opened_at e = Some (option_and_then (λ v. v) e)

-- the ids of entries
abbrev pub ids_in : {Y : Type 0} → List (ℕ × Y) → List ℕ
ids_in es = map (λ e. e.0) es

-- the ids rise, so none comes twice
abbrev pub AreRising : List ℕ → Type 0
AreRising ids = (i j : ℕ) → i < j → j < length ids → slice_index_or ids i 0 < slice_index_or ids j 0

-- an id stands at a place
pub record IsAt (ids : List ℕ) (id i : ℕ) : Type 0 where
  pub within : i < length ids
  pub is : slice_index_or ids i 0 ≡ id

-- an id would go to a place: the ids before it are less, and those from it on are more
pub record IsGapFor (ids : List ℕ) (id i : ℕ) : Type 0 where
  pub within : i ≤ length ids
  pub less : (j : ℕ) → j < i → slice_index_or ids j 0 < id
  pub more : (j : ℕ) → i ≤ j → j < length ids → id < slice_index_or ids j 0

-- no id comes twice
abbrev pub AreApart : List ℕ → Type 0
AreApart [] = Unit {0}
AreApart (id ∷ ids) = (contains_id id ids ≡ false) × AreApart ids

-- the entries of the rows of cards, each at its part and its card
abbrev pub entries_of : {Y : Type 0} → List (ℕ × List (ℕ × Y)) → List (Pair × Y)
entries_of [] = []
entries_of (r ∷ rs) = map (λ e. ((e.0, r.0), e.1)) r.1 ++ entries_of rs

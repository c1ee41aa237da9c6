-- What changes and turns replace, and what that weighs.
use Rattle.std.specs.Prelude.{ℕ, ◌+◌, List, [], ◌∷◌, ◌++◌, map, sum_by, bytes_eq, if◌then◌else◌, Option, Some}
use Rattle.stack_places.specs.Places.{Value, size_of, text}
use Rattle.journal_entries.specs.State.{State}
use Rattle.journal_entries.specs.Places.{Place, Write, value_at, put, cell}
use Rattle.journal_entries.specs.Changes.{writes_of}
use Rattle.journal_entries.specs.declared.change.Change.{Change}

-- a place, the value that was there, and the one that is there now
pub record Replacement : Type 0 where
  pub place : Place
  pub old : Option Value
  pub new : Option Value

-- what writes replace, one after the other; an equal value counts
abbrev pub replaced_in_turn : State → List Write → List Replacement
replaced_in_turn s [] = []
replaced_in_turn s (w ∷ ws) =
    record { place = w.place; old = value_at s w.place; new = w.value } ∷ replaced_in_turn (put s w.place w.value) ws

-- what a change replaces, one member for each place, in order
abbrev pub replaced_by : State → Change → List Replacement
replaced_by s change = replaced_in_turn s (writes_of s change)

-- the places that are replaced
abbrev pub places_of : List Replacement → List Place
places_of = map (λ r. r.place)

-- a cell whose text differs
abbrev pub differing : ℕ → ℕ → List ℕ → List ℕ → List Replacement
differing i c t u =
    if bytes_eq t u then [] else record { place = cell i c; old = Some (text t); new = Some (text u) } ∷ []

-- what a turn of the i-th external replaces, where its cells from the c-th on were these and are those: each
-- cell that changed, in the order of their numbers
abbrev pub replaced_from : ℕ → ℕ → List (List ℕ) → List (List ℕ) → List Replacement
replaced_from i c [] new = []
replaced_from i c (t ∷ ts) [] = []
replaced_from i c (t ∷ ts) (u ∷ us) = differing i c t u ++ replaced_from i (c + 1) ts us

abbrev pub replaced_by_turn : ℕ → List (List ℕ) → List (List ℕ) → List Replacement
replaced_by_turn i old new = replaced_from i 0 old new

-- what going back over these weighs at most, and going forth
abbrev pub back_weight : List Replacement → ℕ
back_weight = sum_by (λ r. 32 + size_of r.old)

abbrev pub forth_weight : List Replacement → ℕ
forth_weight = sum_by (λ r. 32 + size_of r.new)

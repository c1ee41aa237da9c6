-- What a table of keys and values keeps in its cells, and what a turn of it does.
use Rattle.std.specs.Prelude.{ℕ, ◌+◌, false, nat_eq, List, [], ◌∷◌, codes, length, take, position, slice_set}
use Rattle.std.specs.Prelude.{if◌then◌else◌, Option, Some, None}
use Rattle.ht_values.specs.Text.{same}
use Rattle.externals.specs.Turns.{Turn}
use Rattle.externals.specs.declared.external.Input.{Input}
use Rattle.externals.specs.declared.external.Input.TheVariants.{Start}
use Rattle.externals.specs.declared.external.Ask.TheVariants.{Done}
use Rattle.xkit.specs.Steps.{cell, fails}

-- The first 32 cells are keys, and the value of the i-th is 32 cells further on. An empty key marks a free place.
abbrev pub value_at : ℕ → ℕ
value_at i = 32 + i

-- the first place with this key; case is ignored
abbrev pub place_of : List ℕ → List (List ℕ) → Option ℕ
place_of key cells = position (λ k. same k key) (take 32 cells)

abbrev pub done : List ℕ → List (List ℕ) → Turn
done text cells = (Done text false, cells)

-- a place gets a key with a value
abbrev pub with_entry : List (List ℕ) → ℕ → List ℕ → List ℕ → List (List ℕ)
with_entry cells i key value = slice_set (slice_set cells i key) (value_at i) value

-- a new key takes the first free place
abbrev pub entered : List (List ℕ) → List ℕ → List ℕ → Option ℕ → Turn
entered cells key value (Some i) = done [] (with_entry cells i key value)
entered cells key value None = fails cells

abbrev pub put_at : List (List ℕ) → List ℕ → List ℕ → Option ℕ → Turn
put_at cells key value (Some i) = done [] (slice_set cells (value_at i) value)
put_at cells key value None = entered cells key value (place_of [] cells)

abbrev pub put_turn : List (List ℕ) → List ℕ → List ℕ → Turn
put_turn cells key value = if nat_eq (length key) 0 then fails cells else put_at cells key value (place_of key cells)

abbrev pub get_turn : List (List ℕ) → Option ℕ → Turn
get_turn cells (Some i) = done (cell cells (value_at i)) cells
get_turn cells None = done [] cells

abbrev pub delete_turn : List (List ℕ) → Option ℕ → Turn
delete_turn cells (Some i) = done [] (with_entry cells i [] [])
delete_turn cells None = done [] cells

abbrev pub table_turn : List (List ℕ) → Input → Turn
table_turn cells (Start (verb ∷ key ∷ value ∷ [])) =
    if same verb (codes "put") then put_turn cells key value else fails cells
table_turn cells (Start (verb ∷ key ∷ [])) =
    if same verb (codes "get") then get_turn cells (place_of key cells)
    else if same verb (codes "delete") then delete_turn cells (place_of key cells)
    else fails cells
table_turn cells _ = fails cells

-- The places of a state, and values put there.
use Rattle.std.specs.Prelude.{ℕ, Bool, true, false, ◌&&◌, nat_eq, bytes_eq, List, Option, Some, None, option_map}
use Rattle.std.specs.Prelude.{option_and_then, unwrap_or, slice_get, slice_set, slice_index_or}
use Rattle.stack_places.specs.Places.{StackPlace, Value, as_text, as_number, text, number}
use Rattle.stack_places.specs.Places as stack
use Rattle.std.specs.FinMap.{get}
use Rattle.externals.specs.Cells.{Seen, none_seen}
use Rattle.object_table.specs.Maps.{put_option}
use Rattle.structural_changes.specs.Writes.{WriteAt, StackWrite, put_in_turn}
use Rattle.journal_entries.specs.State.{State}

-- A global goes by its folded name, a cell by its external's number and its own.
pub data Place : Type 0 where
  global : List ℕ → Place
  in_stack : StackPlace → Place
  current_card : Place
  cell : ℕ → ℕ → Place

-- whether two places are one
abbrev pub same_place : Place → Place → Bool
same_place (global m) (global n) = bytes_eq m n
same_place (in_stack p) (in_stack q) = stack.same_place p q
same_place current_card current_card = true
same_place (cell i c) (cell j d) = nat_eq i j && nat_eq c d
same_place _ _ = false

-- the value at a place, if there is one
abbrev pub value_at : State → Place → Option Value
value_at s (global name) = option_map (λ t. text t) (get s.globals name)
value_at s (in_stack p) = stack.value_at s.stack p
value_at s current_card = Some (number s.current)
value_at s (cell i c) = option_map (λ t. text t) (option_and_then (λ e. slice_get e.cells c) (slice_get s.externals i))

-- the externals with a text in a cell
abbrev pub with_cell : List Seen → ℕ → ℕ → Option (List ℕ) → List Seen
with_cell es i c None = es
with_cell es i c (Some t) =
    let e = slice_index_or es i none_seen in slice_set es i (record e { cells = slice_set e.cells c t })

-- The state with this value at the place, or with none. The current card and a cell always have one: none
-- leaves them.
unfoldable pub put : State → Place → Option Value → State
put s (global name) v = record s { globals = put_option s.globals name (as_text v) }
put s (in_stack p) v = record s { stack = stack.put s.stack p v }
put s current_card v = record s { current = unwrap_or (as_number v) s.current }
put s (cell i c) v = record s { externals = with_cell s.externals i c (as_text v) }

-- a write of a state
abbrev pub Write : Type 0
Write = WriteAt Place

-- a write of the stack as one of the state
abbrev pub in_the_stack : StackWrite → Write
in_the_stack w = record { place = in_stack w.place; value = w.value }

-- the state after writes, from the first to the last
abbrev pub put_all : State → List Write → State
put_all s ws = put_in_turn put s ws

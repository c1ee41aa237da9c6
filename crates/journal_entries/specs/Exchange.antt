-- Entries of a batch: exchanges of values in a state, and what they weigh.
use Rattle.std.specs.Prelude.{Bool, true, false, ℕ, ◌+◌, ◌<◌, nat_eq, List, [], ◌∷◌, length, map, sum_by, reverse}
use Rattle.std.specs.Prelude.{option_map, refl, slice_index_or, slice_set}
use Rattle.std.specs.FinMap.{get}
use Rattle.std.specs.Coded.{Coded, code_by, coded×, coded_ℕ, coded_list}
use Rattle.externals.specs.Cells.{Seen, none_seen, flipped, taken_out, IsProper}
use Rattle.externals.specs.Log.{Log, coded_log}
use Rattle.object_table.specs.Maps.{put_option}
use Rattle.object_table.specs.Table.{Room, coded_room}
use Rattle.stack_places.specs.Places.{size, size_of, text, number}
use Rattle.stack_places.specs.Exchange as stack
use Rattle.journal_entries.specs.State.{State, coded_state}
use Rattle.journal_entries.specs.Places.{global, in_stack, current_card}
use Rattle.journal_entries.specs.Trails.{Mark, at, turned, mark_at}
use Rattle.journal_entries.specs.declared.entry.Entry.{Entry}
use Rattle.journal_entries.specs.declared.entry.Entry.TheVariants.{Global, Current, Stack, External}

-- a state, with the names of globals that have numbers, each external's log and the stack's room
pub record PresentView : Type 0 where
  pub state : State
  pub names : List (List ℕ)
  pub logs : List Log
  pub room : Room

abbrev pub coded_present_view : Coded PresentView
coded_present_view = code_by (State × (List (List ℕ) × (List Log × Room)))
    (coded× coded_state (coded× (coded_list (coded_list coded_ℕ)) (coded× (coded_list coded_log) coded_room)))
    (λ h. (h.state, (h.names, (h.logs, h.room))))
    (λ p. record { state = p.0; names = p.1.0; logs = p.1.1.0; room = p.1.1.1 }) (λ _. refl)

-- a batch: the number of the line that it belongs to, and its entries
pub record BatchView : Type 0 where
  pub number : ℕ
  pub entries : List Entry

-- the name of a number
abbrev pub name_at : List (List ℕ) → ℕ → List ℕ
name_at names i = slice_index_or names i []

-- the external with these cells
abbrev pub with_cells : Seen → List (List ℕ) → Seen
with_cells e cells = record e { cells = cells }

-- the state after the exchange of a place's value with the entry's
unfoldable pub exchanged : List (List ℕ) → State → Entry → State
exchanged names s (Global i v) = record s { globals = put_option s.globals (name_at names i) v }
exchanged names s (Current c) = record s { current = c }
exchanged names s (Stack e) = record s { stack = stack.exchanged s.stack e }
exchanged names s (External i p) = let e = slice_index_or s.externals i none_seen in record s
    { externals = slice_set s.externals i (with_cells e (flipped e.cells p)) }

-- the entry after it
unfoldable pub taken : List (List ℕ) → State → Entry → Entry
taken names s (Global i v) = Global i (get s.globals (name_at names i))
taken names s (Current c) = Current s.current
taken names s (Stack e) = Stack (stack.taken s.stack e)
taken names s (External i p) = External i (taken_out (slice_index_or s.externals i none_seen).cells p)

-- the exchanges of a batch, from the first to the last
abbrev pub forth : List (List ℕ) → State → List Entry → State
forth names s [] = s
forth names s (e ∷ es) = forth names (exchanged names s e) es

abbrev pub forth_taken : List (List ℕ) → State → List Entry → List Entry
forth_taken names s [] = []
forth_taken names s (e ∷ es) = taken names s e ∷ forth_taken names (exchanged names s e) es

-- from the last to the first
abbrev pub back : List (List ℕ) → State → List Entry → State
back names s [] = s
back names s (e ∷ es) = exchanged names (back names s es) e

abbrev pub back_taken : List (List ℕ) → State → List Entry → List Entry
back_taken names s [] = []
back_taken names s (e ∷ es) = taken names (back names s es) e ∷ back_taken names s es

-- An entry weighs 32 and the size of its value; a patch counts as one entry for each cell that it names.
unfoldable pub entry_weight : Entry → ℕ
entry_weight (Global i v) = 32 + size_of (option_map (λ t. text t) v)
entry_weight (Current c) = 32 + size (number c)
entry_weight (Stack e) = stack.entry_weight e
entry_weight (External i p) = sum_by (λ e. 32 + length e.1) p

abbrev pub weight : List Entry → ℕ
weight = sum_by entry_weight

-- what an entry replaces
unfoldable pub mark_of : List (List ℕ) → Entry → Mark
mark_of names (Global i v) = at (global (name_at names i))
mark_of names (Current c) = at current_card
mark_of names (Stack e) = mark_at (in_stack (stack.place_of e))
mark_of names (External i p) = turned

abbrev pub trail_of : List (List ℕ) → List Entry → List Mark
trail_of names es = reverse (map (mark_of names) es)

-- whether two entries are of one place, which neither a structural entry nor one of an external has
unfoldable pub of_one_place : Entry → Entry → Bool
of_one_place (Global i v) (Global j w) = nat_eq i j
of_one_place (Current c) (Current d) = true
of_one_place (Stack e) (Stack f) = stack.of_one_place e f
of_one_place _ _ = false

-- whether an entry makes or removes an object
unfoldable pub is_structural : Entry → Bool
is_structural (Stack e) = stack.is_structural e
is_structural _ = false

-- how many names have numbers, how many cells each external has, and the stack's room
pub record Shape : Type 0 where
  pub names : ℕ
  pub counts : List ℕ
  pub room : Room

abbrev pub counts_of : List Seen → List ℕ
counts_of = map (λ e. length e.cells)

abbrev pub shape_of : PresentView → Shape
shape_of h = record { names = length h.names; counts = counts_of h.state.externals; room = h.room }

-- there is room for the value at the entry's place, and a patch is proper
unfoldable pub IsReady : Shape → Entry → Type 0
IsReady h (Global i v) = i < h.names
IsReady h (Current c) = Unit {0}
IsReady h (Stack e) = stack.IsReady h.room e
IsReady h (External i p) = (i < length h.counts) × IsProper (slice_index_or h.counts i 0) p

abbrev pub AreReady : Shape → List Entry → Type 0
AreReady h [] = Unit {0}
AreReady h (e ∷ es) = IsReady h e × AreReady h es

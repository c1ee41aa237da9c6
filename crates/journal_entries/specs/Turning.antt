-- Turns of externals, and changes that have grown what they need.
use Rattle.std.specs.Prelude.{◌≡◌, ◌<◌, ◌+◌, ℕ, List, [], ◌∷◌, ◌++◌, length, slice_index_or, slice_set}
use Rattle.externals.specs.Log.{Log}
use Rattle.externals.specs.declared.external.Input.{Input}
use Rattle.externals.specs.declared.external.Ask.{Ask}
use Rattle.stack_places.specs.Exchange.{IsWider}
use Rattle.stack_places.specs.Places.{size_of}
use Rattle.journal_entries.specs.Named.{Extends}
use Rattle.journal_entries.specs.State.{State, seen_at}
use Rattle.journal_entries.specs.Changes.{writes_of}
use Rattle.journal_entries.specs.Places.{Write, put, value_at}
use Rattle.journal_entries.specs.Trails.{mark_at}
use Rattle.journal_entries.specs.Exchange.{PresentView, name_at, with_cells, AreReady, shape_of, exchanged, taken}
use Rattle.journal_entries.specs.Exchange.{entry_weight, mark_of}
use Rattle.journal_entries.specs.declared.entry.Entry.{Entry}
use Rattle.journal_entries.specs.declared.entry.Entry.TheVariants.{Global, Current, Stack, External}
use Rattle.journal_entries.specs.declared.entry.Prepared.{Prepared}
use Rattle.journal_entries.specs.declared.entry.Prepared.TheVariants.{One, Several}
use Rattle.journal_entries.specs.declared.change.Change.{Change}

-- the state in which the i-th external has these cells
abbrev pub with_cells_at : State → ℕ → List (List ℕ) → State
with_cells_at s i cells = record s { externals = slice_set s.externals i (with_cells (seen_at s i) cells) }

-- the logs after a turn of the i-th external, which led from the old state to the new one: its own has this turn more
-- at its end, the others stay
abbrev pub logs_after : List Log → State → State → ℕ → Input → Ask → List Log
logs_after logs old new i input ask = slice_set logs i (slice_index_or logs i [] ++ (record {
  before = (seen_at old i).cells;
  input = input;
  ask = ask;
  cells = (seen_at new i).cells;
}) ∷ [])

-- a turn of the i-th external leads from the old state to the new one: it has as many cells, and nothing else changes
pub record Turns (old new : State) (i : ℕ) : Type 0 where
  pub count : length (seen_at new i).cells ≡ length (seen_at old i).cells
  pub state : new ≡ with_cells_at old i (seen_at new i).cells

-- only the names and the stack's room grow
pub record Grows (old new : PresentView) : Type 0 where
  pub state : new.state ≡ old.state
  pub logs : new.logs ≡ old.logs
  pub names : Extends old.names new.names
  pub room : IsWider old.room new.room

-- no other number has the name of the entry's
unfoldable pub IsNumbered : List (List ℕ) → Entry → Type 0
IsNumbered names (Global i v) = (j : ℕ) → j < length names → name_at names j ≡ name_at names i → j ≡ i
IsNumbered names (Current c) = Unit {0}
IsNumbered names (Stack e) = Unit {0}
IsNumbered names (External i p) = Unit {0}

-- the exchange of an entry is this write of one place, and it weighs as much
pub record Carries (names : List (List ℕ)) (s : State) (w : Write) (e : Entry) : Type 0 where
  pub mark : mark_of names e ≡ mark_at w.place
  pub state : exchanged names s e ≡ put s w.place w.value
  pub forth : entry_weight e ≡ 32 + size_of w.value
  pub back : entry_weight (taken names s e) ≡ 32 + size_of (value_at s w.place)

-- an entry for each write, in order
abbrev pub AreCarried : List (List ℕ) → State → List Write → List Entry → Type 0
AreCarried names s [] [] = Unit {0}
AreCarried names s (w ∷ ws) (e ∷ es) =
    IsNumbered names e × Carries names s w e × AreCarried names (put s w.place w.value) ws es
AreCarried names s _ _ = ⊥

abbrev pub entries_of : Prepared → List Entry
entries_of (One e) = e ∷ []
entries_of (Several es) = es.items

-- the entries are ready to make the change
pub record Prepares (h : PresentView) (change : Change) (es : List Entry) : Type 0 where
  pub ready : AreReady (shape_of h) es
  pub carried : AreCarried h.names h.state (writes_of h.state change) es

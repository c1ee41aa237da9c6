-- A history: whole states with a cursor, and each call's move.
use Rattle.std.specs.Prelude.{◌≡◌, ℕ, ◌+◌, ◌<◌, List, [], ◌∷◌, ◌++◌, length, map, take, drop, Option, Some}
use Rattle.std.specs.Prelude.{None, slice_index_or, refl}
use Rattle.std.specs.Coded.{Coded, code_by, coded×, coded_list, coded_ℕ, coded_option}
use Rattle.externals.specs.Cells.{Seen}
use Rattle.externals.specs.Turns.{TurnTable}
use Rattle.externals.specs.Log.{Log, Follows, coded_log}
use Rattle.journal_entries.specs.State.{State, IsState, coded_state, seen_at, titles_of, index_of}
use Rattle.journal_entries.specs.Trails.{Mark, IsOnce}
use Rattle.change_journal.specs.Marks.{coded_trail}

-- A neighbouring state, with the number of the line that added it, and of the batch between that state and the
-- one nearer to the cursor: what it weighs as undoable and as redoable, and its trail.
pub record Neighbour : Type 0 where
  pub state : State
  pub stamp : ℕ
  pub undo : ℕ
  pub redo : ℕ
  pub trail : List Mark

-- an open batch: the state that it began with, the number of its line, and so far its weights and its trail
pub record Open : Type 0 where
  pub state : State
  pub number : ℕ
  pub undo : ℕ
  pub redo : ℕ
  pub trail : List Mark

-- The states before the cursor and after it, the nearest first, and the present one with its number. Where a
-- batch is open, past and future stand round the state that it began with, whose number it is. At most depth
-- states stand before the cursor. The logs of the externals are beside the states, and no undo
-- takes a turn out of them.
pub record History : Type 0 where
  pub past : List Neighbour
  pub now : State
  pub stamp : ℕ
  pub future : List Neighbour
  pub start : Option Open
  pub depth : ℕ
  pub logs : List Log

abbrev pub coded_neighbour : Coded Neighbour
coded_neighbour = code_by (State × (ℕ × (ℕ × (ℕ × List Mark))))
    (coded× coded_state (coded× coded_ℕ (coded× coded_ℕ (coded× coded_ℕ coded_trail))))
    (λ s. (s.state, (s.stamp, (s.undo, (s.redo, s.trail)))))
    (λ p. record { state = p.0; stamp = p.1.0; undo = p.1.1.0; redo = p.1.1.1.0; trail = p.1.1.1.1 }) (λ _. refl)

abbrev pub coded_open : Coded Open
coded_open = code_by (State × (ℕ × (ℕ × (ℕ × List Mark))))
    (coded× coded_state (coded× coded_ℕ (coded× coded_ℕ (coded× coded_ℕ coded_trail))))
    (λ s. (s.state, (s.number, (s.undo, (s.redo, s.trail)))))
    (λ p. record { state = p.0; number = p.1.0; undo = p.1.1.0; redo = p.1.1.1.0; trail = p.1.1.1.1 }) (λ _. refl)

abbrev pub coded_history : Coded History
coded_history = code_by (List Neighbour × (State × (ℕ × (List Neighbour × (Option Open × (ℕ × List Log))))))
    (coded× (coded_list coded_neighbour)
    (coded× coded_state (coded× coded_ℕ
    (coded× (coded_list coded_neighbour) (coded× (coded_option coded_open) (coded× coded_ℕ (coded_list coded_log)))))))
    (λ h. (h.past, (h.now, (h.stamp, (h.future, (h.start, (h.depth, h.logs)))))))
    (λ p. record {
      past = p.0;
      now = p.1.0;
      stamp = p.1.1.0;
      future = p.1.1.1.0;
      start = p.1.1.1.1.0;
      depth =
          p.1.1.1.1.1.0;
      logs = p.1.1.1.1.1.1;
    }) (λ _. refl)

-- the number of the state i before the cursor
abbrev pub stamp_at : History → ℕ → ℕ
stamp_at h i = slice_index_or (h.stamp ∷ map (λ step. step.stamp) h.past) i 0

-- a history of one state
abbrev pub alone : State → ℕ → ℕ → List Log → History
alone s stamp depth logs =
    record { past = []; now = s; stamp = stamp; future = []; start = None; depth = depth; logs = logs }

-- ---- moves

-- a batch begins, for the line of this number
abbrev pub begun : History → ℕ → History
begun h number = record h { start = Some (record { state = h.now; number = number; undo = 0; redo = 0; trail = [] }) }

-- Where a batch is open the present state joins the list with its line's number, what stood after the
-- cursor goes, and so does the oldest state where more than depth would stand before it.
abbrev pub committed_from : History → Option Open → History
committed_from h None = h
committed_from h (Some o) = record h {
  past = take h.depth (record { state = o.state; stamp = h.stamp; undo = o.undo; redo = o.redo; trail = o.trail }
      ∷ h.past);
  stamp = o.number;
  future = [];
  start = None;
}

abbrev pub committed : History → History
committed h = committed_from h h.start

-- the batch is given up
abbrev pub rolled_back_from : History → Option Open → History
rolled_back_from h None = h
rolled_back_from h (Some o) = record h { now = o.state; start = None }

abbrev pub rolled_back : History → History
rolled_back h = rolled_back_from h h.start

-- the cursor moves to a neighbour, and the batch between keeps its weights and its trail
abbrev pub flipped_back_from : History → List Neighbour → History
flipped_back_from h [] = h
flipped_back_from h (step ∷ rest) = record h {
  past = rest;
  now = step.state;
  stamp = step.stamp;
  future = record step { state = h.now; stamp = h.stamp }
      ∷ h.future;
}

abbrev pub flipped_back : History → History
flipped_back h = flipped_back_from h h.past

abbrev pub flipped_forth_from : History → List Neighbour → History
flipped_forth_from h [] = h
flipped_forth_from h (step ∷ rest) = record h {
  past = record step { state = h.now; stamp = h.stamp }
      ∷ h.past;
  now = step.state;
  stamp = step.stamp;
  future = rest;
}

abbrev pub flipped_forth : History → History
flipped_forth h = flipped_forth_from h h.future

-- one more external, with its log, in each state of the list
abbrev pub with_external : Seen → State → State
with_external x s = record s { externals = s.externals ++ x ∷ [] }

abbrev pub step_with_external : Seen → Neighbour → Neighbour
step_with_external x step = record step { state = with_external x step.state }

abbrev pub plugged : History → Seen → Log → History
plugged h x log = record h {
  past = map (step_with_external x) h.past;
  now = with_external x h.now;
  future = map
      (step_with_external x) h.future;
  logs = h.logs ++ log ∷ [];
}

-- the present state alone, without the external of a name; where none has it nothing changes
abbrev pub without_at : {A : Type 0} → ℕ → List A → List A
without_at i xs = take i xs ++ drop (i + 1) xs

abbrev pub unplugged_at : History → Option ℕ → History
unplugged_at h None = h
unplugged_at h (Some i) =
    alone (record h.now { externals = without_at i h.now.externals }) h.stamp h.depth (without_at i h.logs)

abbrev pub unplugged : List ℕ → History → History
unplugged name h = unplugged_at h (index_of name (titles_of h.now.externals))

-- ---- what holds of a history

-- a state whose externals have these names
pub record IsStateOf (names : List (List ℕ)) (s : State) : Type 0 where
  pub state : IsState s
  pub titles : titles_of s.externals ≡ names

abbrev pub AreStates : List (List ℕ) → List Neighbour → Type 0
AreStates titles [] = Unit {0}
AreStates titles (step ∷ steps) = IsStateOf titles step.state × AreStates titles steps

abbrev pub IsStart : List (List ℕ) → Option Open → Type 0
IsStart titles None = Unit {0}
IsStart titles (Some o) = IsStateOf titles o.state × IsOnce o.trail

-- Each state of it is one, all have the same externals, and the open batch has each place once in each segment.
pub record IsHistory (h : History) : Type 0 where
  pub titles : List (List ℕ)
  pub past : AreStates titles h.past
  pub now : IsStateOf titles h.now
  pub future : AreStates titles h.future
  pub start : IsStart titles h.start

-- each turn of each log is the one that the table has for the external's kind, where it has one
abbrev pub FollowTable : TurnTable → History → Type 0
FollowTable table h = (i : ℕ) → i < length h.now.externals
    → Follows table (seen_at h.now i).sort (slice_index_or h.logs i [])

-- A history as World shows it, beside it the globals that have a value in an order of their own: nothing that
-- is said of histories speaks of that order.
pub record WorldView : Type 0 where
  pub history : History
  pub names : List (List ℕ)

abbrev pub coded_world_view : Coded WorldView
coded_world_view = code_by (History × List (List ℕ)) (coded× coded_history (coded_list (coded_list coded_ℕ)))
    (λ j. (j.history, j.names)) (λ p. record { history = p.0; names = p.1 }) (λ _. refl)

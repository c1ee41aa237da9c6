-- The headline: a list of whole states with a cursor, and what each line and each call does to it.
use Rattle.std.specs.Prelude.{◌≡◌, ◌⊎◌, ℕ, suc, ◌+◌, ◌-◌, min, Bool, List, [], ◌∷◌, ◌++◌, length, map, take, drop}
use Rattle.std.specs.Prelude.{decimal, Option, Some, None, option_map, Result, IsOk, IsErrOf, ◌==◌, ◌<◌, slice_get}
use Rattle.std.specs.Prelude.{slice_index_or, nat_le, nat_lt, if◌then◌else◌, MatchBool}
use Rattle.devices.specs.Desks.{SeenDesk}
use Rattle.externals.specs.Cells.{Seen}
use Rattle.externals.specs.Log.{Log, Follows}
use Rattle.externals.specs.Turns.{TurnTable}
use Rattle.object_table.specs.Content.{Content}
use Rattle.journal_entries.specs.State.{State, first_state, seen_at}
use Rattle.change_journal.specs.History.{with_external, without_at}
use Rattle.meaning.specs.Actions.{Action}
use Rattle.session.specs.Commands.{is_dot_line, command_in, behind_name, second, words, ReadsAction}
use Rattle.headline.specs.Answering.{Session}
use Rattle.session.specs.Meaning.{Moment, Fresh, Locked}
use Rattle.session.specs.Replies.{ended, Refuses, Obeys, Moves, Looks, ShowsStack, ShowsCells, Saves, cells_named}
use Rattle.session.specs.Replies.{global_lines, history_line}
use Rattle.headline.specs.Saving.{Settles}
use Rattle.session.specs.SessionView.{next_number}
use Rattle.session.specs.declared.command.Command.{Command}
use Rattle.session.specs.declared.command.Command.TheVariants.{Undo, Redo, UndoTo, Show, Globals, Where, Cells}
use Rattle.session.specs.declared.command.Command.TheVariants.{History, Save, Act, Quit}
use Rattle.session.specs.declared.command.Reading.{Reading}
use Rattle.session.specs.declared.command.Reading.TheVariants.{Lines}
use Rattle.session.specs.declared.limits.TheConstants.{LONGEST_LINE}
use Rattle.session.specs.declared.reply.Refusal.{Refusal}
use Rattle.session.specs.declared.reply.Refusal.TheVariants.{NothingToUndo, NothingToRedo, BadCommand, NoMemory}
use Rattle.session.specs.declared.reply.Refusal.TheVariants.{LineTooLong, FieldLocked}
use Rattle.session.specs.declared.reply.Ending.TheVariants as endings
use Rattle.session.specs.declared.reply.Reply.{Reply}

-- a whole state (the stack, the globals, the current card, and the externals with their cells), and the number of the
-- line that added it
pub record Snapshot : Type 0 where
  pub state : State
  pub number : ℕ

-- The states from the oldest on, and a cursor that stands on one of them. At most depth states stand before the
-- cursor. Beside them, how many lines were taken, how many steps a command may take, and the log of each external: the
-- turns that it took, none of which undo takes back.
pub record Timeline : Type 0 where
  pub snapshots : List Snapshot
  pub cursor : ℕ
  pub depth : ℕ
  pub lines : ℕ
  pub steps : ℕ
  pub logs : List Log

-- the state at the cursor
abbrev pub IsPresent : State → Timeline → Type 0
IsPresent state t = (number : ℕ) × (slice_get t.snapshots t.cursor ≡ Some (record { state = state; number = number }))

-- ---- a fresh command

-- A state takes the place of all after the cursor, and the cursor stands on it; the logs are those that come with it.
-- Where more than depth states would then stand before the cursor, the oldest falls away.
abbrev pub followed_by : Timeline → Moment → Timeline
followed_by t after = record t {
  snapshots = drop (t.cursor + 1 - t.depth)
      (take (t.cursor + 1) t.snapshots ++ record { state = after.state; number = t.lines } ∷ []);
  cursor = min t.depth (t.cursor + 1);
  logs = after.logs;
}

-- the state of now with the logs, from which a command goes on
abbrev pub moment_in : State → Timeline → Moment
moment_in state t = record { state = state; logs = t.logs }

-- A fresh command, however it ended, replaces all after the cursor by a state that its meaning allows.
pub record Replaces (does : Action) (state : State) (old : Timeline) (reply : Reply) (new : Timeline) : Type 0 where
  pub after : Moment
  pub allowed : Fresh (moment_in state old) old.steps does reply after
  pub list : new ≡ followed_by old after

-- Typing into a field that is locked changes nothing, but for the turns that externals took to find the field.
pub record KeepsOut (does : Action) (state : State) (old : Timeline) (reply : Reply) (new : Timeline) : Type 0 where
  pub logs : List Log
  pub locked : Locked (moment_in state old) old.steps does logs
  pub refuses : Refuses FieldLocked (record old { logs = logs }) reply new

-- a command that is refused for memory changes nothing, but for the turns that externals took
abbrev pub GivesUp : Timeline → Reply → Timeline → Type 0
GivesUp old reply new = Refuses NoMemory (record old { logs = new.logs }) reply new

-- what a user does
abbrev pub Commands : Reading → List ℕ → State → Timeline → Reply → Timeline → Type 0
Commands reading text state old reply new = Obeys (ReadsAction reading)
    (λ does. Replaces does state old reply new ⊎ KeepsOut does state old reply new) (GivesUp old reply new)
    text old reply new

-- ---- undo and redo

-- the cursor stands on another place
abbrev pub at_cursor : Timeline → ℕ → Timeline
at_cursor t place = record t { cursor = place }

-- where it stands after so many places back or forth, if there are as many
abbrev pub cursor_back : ℕ → Timeline → Option ℕ
cursor_back k t = if nat_le k t.cursor then Some (t.cursor - k) else None

abbrev pub cursor_forth : ℕ → Timeline → Option ℕ
cursor_forth k t = if nat_lt (t.cursor + k) (length t.snapshots) then Some (t.cursor + k) else None

-- the place of the last of these that is numbered at most n
abbrev pub later_or_here : Bool → Option ℕ → Option ℕ
later_or_here here (Some place) = Some (suc place)
later_or_here here None = if here then Some 0 else None

abbrev pub last_numbered : ℕ → List Snapshot → Option ℕ
last_numbered n [] = None
last_numbered n (s ∷ ss) = later_or_here (nat_le s.number n) (last_numbered n ss)

abbrev pub before : ℕ → Option ℕ → Option ℕ
before cursor None = None
before cursor (Some place) = if nat_lt place cursor then Some place else None

-- where it stands after it goes back to line n: on the last state, up to the cursor, that is numbered at most n, unless
-- that is the cursor's own
abbrev pub cursor_back_to : ℕ → Timeline → Option ℕ
cursor_back_to n t = before t.cursor (last_numbered n (take (t.cursor + 1) t.snapshots))

-- ---- lines

-- what a dot line does by what it says, and by the state at the cursor
abbrev pub Does : List ℕ → Option Command → State → Timeline → Reply → Timeline → Type 0
Does line None state old reply new = Refuses BadCommand old reply new
Does line (Some (Undo k)) state old reply new =
    Moves (option_map (at_cursor old) (cursor_back k old)) NothingToUndo old reply new
Does line (Some (Redo k)) state old reply new =
    Moves (option_map (at_cursor old) (cursor_forth k old)) NothingToRedo old reply new
Does line (Some (UndoTo n)) state old reply new =
    Moves (option_map (at_cursor old) (cursor_back_to n old)) NothingToUndo old reply new
Does line (Some Show) state old reply new = ShowsStack state old reply new ⊎ Refuses NoMemory old reply new
Does line (Some Globals) state old reply new = Looks (global_lines state) old reply new ⊎ Refuses NoMemory old reply new
Does line (Some Where) state old reply new =
    Looks (decimal state.current ∷ []) old reply new ⊎ Refuses NoMemory old reply new
Does line (Some History) state old reply new =
    Looks (history_line old.cursor (length old.snapshots - (old.cursor + 1)) ∷ []) old reply new
    ⊎ Refuses NoMemory old reply new
Does line (Some Cells) state old reply new = ShowsCells (cells_named state (second (words line))) old reply new
Does line (Some Save) state old reply new = Saves state old reply new
Does line (Some (Act reading)) state old reply new = Commands reading (behind_name line) state old reply new
Does line (Some Quit) state old reply new = (reply ≡ ended endings.Quit) × (new ≡ old)

-- each other line is a fresh command where it is HyperTalk
abbrev pub DoesLine : List ℕ → State → Timeline → Reply → Timeline → Type 0
DoesLine line state old reply new = MatchBool (is_dot_line line) (Does line (command_in line) state old reply new)
    (Commands Lines line state old reply new)

-- the line is counted
abbrev pub line_counted : Timeline → Timeline
line_counted t = record t { lines = next_number t.lines }

-- what a line does; one over 30,000 bytes is refused
pub record LineMoves (line : List ℕ) (old : Timeline) (reply : Reply) (new : Timeline) : Type 0 where
  pub state : State
  pub present : IsPresent state old
  pub does : MatchBool (nat_lt LONGEST_LINE (length line)) (Refuses LineTooLong (line_counted old) reply new)
      (DoesLine line state (line_counted old) reply new)

-- ---- calls beside lines

-- a call moves the cursor as its line does, and tells a refusal as an error
abbrev pub Moved : Option ℕ → Refusal → Timeline → Result (Unit {0}) Refusal → Timeline → Type 0
Moved (Some place) refusal old result new = IsOk result × (new ≡ at_cursor old place)
Moved None refusal old result new = IsErrOf result refusal × (new ≡ old)

-- no place at all is a bad command
abbrev pub Undoes : ℕ → Timeline → Result (Unit {0}) Refusal → Timeline → Type 0
Undoes k old result new = MatchBool (k == 0) (IsErrOf result BadCommand × (new ≡ old))
    (Moved (cursor_back k old) NothingToUndo old result new)

abbrev pub Redoes : ℕ → Timeline → Result (Unit {0}) Refusal → Timeline → Type 0
Redoes k old result new = MatchBool (k == 0) (IsErrOf result BadCommand × (new ≡ old))
    (Moved (cursor_forth k old) NothingToRedo old result new)

abbrev pub UndoesTo : ℕ → Timeline → Result (Unit {0}) Refusal → Timeline → Type 0
UndoesTo n old result new = Moved (cursor_back_to n old) NothingToUndo old result new

-- a session begins with one state: the stack, no global, its first card, and the externals with their cells and logs of
-- now
abbrev pub beginning : Content → List Seen → List Log → ℕ → ℕ → Timeline
beginning stack externals logs steps depth = record {
  snapshots = record { state = first_state stack externals; number = 0 } ∷ [];
  cursor = 0;
  depth = depth;
  lines = 0;
  steps = steps;
  logs = logs;
}

-- an external that is plugged in joins each state, with its cells of now, and its log joins the others
abbrev pub with_one_more : Seen → Snapshot → Snapshot
with_one_more x s = record s { state = with_external x s.state }

abbrev pub with_plugged : Seen → Log → Timeline → Timeline
with_plugged x log t = record t { snapshots = map (with_one_more x) t.snapshots; logs = t.logs ++ log ∷ [] }

-- one that is unplugged leaves the state at the cursor alone, without it; the state keeps its number, and each other
-- external its log
abbrev pub without_one : ℕ → Snapshot → Snapshot
without_one i s = record s { state = record s.state { externals = without_at i s.state.externals } }

abbrev pub without_plugged : ℕ → Timeline → Timeline
without_plugged i t = record t {
  snapshots = map (without_one i) (take 1 (drop t.cursor t.snapshots));
  cursor = 0;
  logs = without_at i t.logs;
}

-- each turn in the log of an external of the state at the cursor is the one that the table has, where it has one
abbrev pub FollowsTable : TurnTable → Timeline → Type 0
FollowsTable table t = (state : State) → IsPresent state t → (i : ℕ) → i < length state.externals
    → Follows table (seen_at state i).sort (slice_index_or t.logs i [])

-- ---- the headline

-- For every list of input lines, the answers and the stack's saved bytes, globals, current card and externals' cells
-- are those of a list of whole states with a cursor: a fresh command, however it ended, replaces all after the cursor
-- by a state that the written meaning of HyperTalk allows; undo and redo only move the cursor; a command refused for
-- memory changes nothing.
-- Beside it stands a desk: it hears of each message that a line sent, and a line that saves is answered by whether the
-- desk kept its text.
abbrev pub Headline : Timeline × SeenDesk → List (List ℕ) → List ℕ → Timeline × SeenDesk → Type 0
Headline old lines text new = Session (Settles LineMoves) old lines text new

-- How a session takes a line.
use Rattle.std.specs.Prelude.{◌≡◌, ◌⊎◌, ℕ, ◌≤◌, List, [], ◌∷◌, length, decimal, Option, Some, None, nat_lt, MatchBool}
use Rattle.journal_entries.specs.Replaced.{places_of, back_weight, forth_weight}
use Rattle.journal_entries.specs.Trails.{IsOnce, IsShort, different}
use Rattle.change_journal.specs.History.{History, Open, begun, committed}
use Rattle.meaning.specs.Actions.{Action}
use Rattle.meaning.specs.State.{RunState, fresh_run}
use Rattle.preservation.specs.Replaced.{replaced_acts}
use Rattle.preservation.specs.Rising.{TrailAfter}
use Rattle.session.specs.Commands.{is_dot_line, command_in, behind_name, second, words, ReadsAction}
use Rattle.session.specs.Meaning.{Runs}
use Rattle.session.specs.Moves.{undone, redone, undone_to}
use Rattle.session.specs.Replies.{ended, refused, Refuses, Obeys, Moves, Looks, ShowsStack, ShowsCells, Saves}
use Rattle.session.specs.Replies.{cells_named, global_lines, history_line}
use Rattle.session.specs.SessionView.{SessionView, next_number}
use Rattle.session.specs.declared.command.Command.{Command}
use Rattle.session.specs.declared.command.Command.TheVariants as commands
use Rattle.session.specs.declared.command.Command.TheVariants.{Undo, Redo, UndoTo, Show, Globals, Where, Cells, Save}
use Rattle.session.specs.declared.command.Command.TheVariants.{Act, Quit}
use Rattle.session.specs.declared.command.Reading.{Reading}
use Rattle.session.specs.declared.command.Reading.TheVariants.{Lines}
use Rattle.session.specs.declared.limits.TheConstants.{LONGEST_LINE}
use Rattle.session.specs.declared.reply.Refusal.TheVariants.{NothingToUndo, NothingToRedo, BadCommand, NoMemory}
use Rattle.session.specs.declared.reply.Refusal.TheVariants.{LineTooLong, FieldLocked}
use Rattle.session.specs.declared.reply.Ending.TheVariants as endings
use Rattle.session.specs.declared.reply.Reply.{Reply}
use Rattle.meaning.specs.Locked.{MeetsLock}

-- A fresh command adds the state that it leaves, in place of all after the cursor. The step to it weighs no more than
-- what the command replaced, and has each place once between what is made, removed or an external's: so with t turns
-- and s entries that make or remove an object it has at most t + s + (s + 1) * p entries, where p is how many different
-- places were replaced.
pub record Adds (steps : ℕ) (does : Action) (number : ℕ) (old : History) (reply : Reply) (new : History) : Type 0 where
  pub end : History
  pub runs : Runs (begun old number) steps does reply end
  pub batch : Open
  pub began : batch.state ≡ old.now
  pub numbered : batch.number ≡ number
  pub back : batch.undo ≤ back_weight (replaced_acts runs.means)
  pub forth : batch.redo ≤ forth_weight (replaced_acts runs.means)
  pub trail : TrailAfter (replaced_acts runs.means) [] batch.trail
  pub once : IsOnce batch.trail
  pub few : IsShort batch.trail (different (places_of (replaced_acts runs.means)))
  pub joined : new ≡ committed (record old { now = end.now; start = Some batch; logs = end.logs })

-- A command that is given up leaves all as it was, but for the logs of externals, which keep the turns that they took.
pub record GivesUp (old : History) (reply : Reply) (new : History) : Type 0 where
  pub answer : reply ≡ refused NoMemory
  pub same : new ≡ record old { logs = new.logs }

-- Typing into a field that is locked is refused, and what its reference did is taken back, but for the turns that
-- externals took.
pub record KeepsOut (steps : ℕ) (does : Action) (number : ℕ) (old : History) (reply : Reply) (new : History) : Type 0
  where
    pub answer : reply ≡ refused FieldLocked
    pub end : History
    pub run : RunState
    pub meets : MeetsLock (begun old number) (fresh_run steps) does end run
    pub same : new ≡ record old { logs = end.logs }

-- what a user does is a fresh command, but for typing into a locked field
abbrev pub Does : ℕ → Action → ℕ → History → Reply → History → Type 0
Does steps does number old reply new = Adds steps does number old reply new ⊎ KeepsOut steps does number old reply new

-- a text that is read so is done
abbrev pub Commands : ℕ → Reading → List ℕ → ℕ → History → Reply → History → Type 0
Commands steps reading text number old reply new = Obeys (ReadsAction reading)
    (λ does. Does steps does number old reply new) (GivesUp old reply new) text old reply new

-- what a dot line does by what it says
abbrev pub Performs : ℕ → List ℕ → ℕ → Option Command → History → Reply → History → Type 0
Performs steps line number None old reply new = Refuses BadCommand old reply new
Performs steps line number (Some (Undo k)) old reply new = Moves (undone k old) NothingToUndo old reply new
Performs steps line number (Some (Redo k)) old reply new = Moves (redone k old) NothingToRedo old reply new
Performs steps line number (Some (UndoTo n)) old reply new = Moves (undone_to n old) NothingToUndo old reply new
Performs steps line number (Some Show) old reply new = ShowsStack old.now old reply new ⊎ Refuses NoMemory old reply new
Performs steps line number (Some Globals) old reply new =
    Looks (global_lines old.now) old reply new ⊎ Refuses NoMemory old reply new
Performs steps line number (Some Where) old reply new =
    Looks (decimal old.now.current ∷ []) old reply new ⊎ Refuses NoMemory old reply new
Performs steps line number (Some commands.History) old reply new =
    Looks (history_line (length old.past) (length old.future) ∷ []) old reply new ⊎ Refuses NoMemory old reply new
Performs steps line number (Some Cells) old reply new =
    ShowsCells (cells_named old.now (second (words line))) old reply new
Performs steps line number (Some Save) old reply new = Saves old.now old reply new
Performs steps line number (Some (Act reading)) old reply new =
    Commands steps reading (behind_name line) number old reply new
Performs steps line number (Some Quit) old reply new = (reply ≡ ended endings.Quit) × (new ≡ old)

-- What a dot line may be refused for memory: no move of the cursor, and neither `.save`, `.quit` nor one that says
-- nothing.
abbrev pub MayRunOut : Option Command → Type 0
MayRunOut (Some Show) = Unit {0}
MayRunOut (Some Globals) = Unit {0}
MayRunOut (Some Where) = Unit {0}
MayRunOut (Some Cells) = Unit {0}
MayRunOut (Some commands.History) = Unit {0}
MayRunOut (Some (Act reading)) = Unit {0}
MayRunOut _ = ⊥

-- each other line may be
abbrev pub LineMayRunOut : List ℕ → Type 0
LineMayRunOut line = MatchBool (is_dot_line line) (MayRunOut (command_in line)) (Unit {0})

abbrev pub Says : ℕ → List ℕ → ℕ → History → Reply → History → Type 0
Says steps line number old reply new = MatchBool (is_dot_line line)
    (Performs steps line number (command_in line) old reply new) (Commands steps Lines line number old reply new)

-- a line over 30,000 bytes is refused unread
abbrev pub PerformsLine : ℕ → List ℕ → ℕ → History → Reply → History → Type 0
PerformsLine steps line number old reply new = MatchBool (nat_lt LONGEST_LINE (length line))
    (Refuses LineTooLong old reply new) (Says steps line number old reply new)

-- A session takes a line: it is counted, answered, and the history goes on.
pub record TakesLine (line : List ℕ) (old : SessionView) (reply : Reply) (new : SessionView) : Type 0 where
  pub number : new.lines ≡ next_number old.lines
  pub steps : new.steps ≡ old.steps
  pub performed : PerformsLine old.steps line new.lines old.history reply new.history

-- That each state of the list is whole, all along a run, and that what is saved of one spells its stack.
use Rattle.std.specs.Prelude.{◌≡◌, ℕ, List, [], ◌∷◌, Option, Ok}
use Rattle.std.specs.Io.KnownBytes.{IsAtEnd}
use Rattle.devices.specs.Desks.{SeenDesk}
use Rattle.journal_entries.specs.State.{State, IsState}
use Rattle.headline.specs.Answering.{Session}
use Rattle.headline.specs.Headline.{Snapshot, Timeline, LineMoves}
use Rattle.headline.specs.InputLines.{AreLines}
use Rattle.headline.specs.Saving.{Settles, Takes}
use Rattle.headline.specs.Stops.{Ended, Stopped}
use Rattle.headline.specs.Unzipped.{timeline_beside}
use Rattle.headline.specs.declared.transcript.Ran.{Ran}
use Rattle.headline.specs.declared.transcript.RunFault.{RunFault}
use Rattle.stack_text.specs.Laws.{Spells, stack_in}
use Rattle.session.specs.Replies.{ended, Saves}
use Rattle.session.specs.SessionView.{SessionView}
use Rattle.session.specs.declared.reply.Ending.TheVariants.{Save}
use Rattle.session.specs.declared.reply.Reply.{Reply}

-- each state of these is whole
abbrev pub AreWhole : List Snapshot → Type 0
AreWhole [] = Unit {0}
AreWhole (s ∷ ss) = IsState s.state × AreWhole ss

-- a line does to the list what the headline says, and each state of it is whole before the line and after it
pub record MovesWhole (line : List ℕ) (old : Timeline) (reply : Reply) (new : Timeline) : Type 0 where
  pub moves : LineMoves line old reply new
  pub before : AreWhole old.snapshots
  pub after : AreWhole new.snapshots

-- Along a run that ended each state of the list is whole, before each line and after it: what is written is the answers
-- to the lines that are read, those of such lists.
abbrev pub RunsStayWhole : Type 0
RunsStayWhole =
    (left : Option (List ℕ)) (ran : Ran) (old : SessionView × SeenDesk) (read written : List ℕ)
    (new : SessionView × SeenDesk)
    →
    Ended Takes (IsAtEnd left) ran old read written new →
    Ended (Settles MovesWhole) (IsAtEnd left) ran (timeline_beside old) read written (timeline_beside new) ×
    ((lines : List (List ℕ)) × AreLines read lines
    × Session (Settles MovesWhole) (timeline_beside old) lines written (timeline_beside new))

-- and along a run that stopped, as far as it came
abbrev pub StopsStayWhole : Type 0
StopsStayWhole =
    (left : Option (List ℕ)) (fault : RunFault) (old : SessionView × SeenDesk) (read written : List ℕ)
    (new : SessionView × SeenDesk) →
    Stopped Takes (IsAtEnd left) fault old read written new →
    Stopped (Settles MovesWhole) (IsAtEnd left) fault (timeline_beside old) read written (timeline_beside new)

-- what a line saves of a whole state spells its stack, and is read back as it
abbrev pub SavesSpell : Type 0
SavesSpell =
    (state : State) (old : Timeline) (reply : Reply) (new : Timeline) → IsState state → Saves state old reply new →
    (text : List ℕ) × (reply ≡ ended (Save text)) × Spells text state.stack × (stack_in text ≡ Ok state.stack)

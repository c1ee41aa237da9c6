-- A whole run of the program, from the bytes of a stack.
use Rattle.std.specs.Prelude.{◌≡◌, ℕ, List, [], Err}
use Rattle.devices.specs.Desks.{SeenDesk}
use Rattle.externals.specs.Turns.{TurnTable}
use Rattle.object_table.specs.Content.{Content}
use Rattle.stack_text.specs.Laws.{Spells}
use Rattle.stack_text.specs.Reading.{document_at}
use Rattle.headline.specs.Headline.{Timeline, FollowsTable, Headline}
use Rattle.headline.specs.Saving.{Settles}
use Rattle.headline.specs.InputLines.{AreLines}
use Rattle.headline.specs.Stops.{Ended, Stopped}
use Rattle.headline.specs.Whole.{MovesWhole}
use Rattle.headline.specs.declared.transcript.Ran.{Ran}
use Rattle.headline.specs.declared.transcript.RunFault.{RunFault}
use Rattle.headline.specs.declared.transcript.RunFault.TheVariants as runs
use Rattle.command_line.specs.declared.fault.CliFault.{CliFault}
use Rattle.command_line.specs.declared.fault.CliFault.TheVariants.{Usage, CannotRead, Refused, Read, Write}
use Rattle.command_line.specs.declared.fault.CliFault.TheVariants.{TooManyLines, Memory}

-- The bytes spell a stack, and a session that begins with it runs to this end beside a desk: what is written is the
-- answers to the lines that are read, those of a list of states with a cursor, each of which is whole before each line
-- and after it. The turns of the externals follow a table.
pub record Plays (ends : Type 0) (ran : Ran) (bytes : List ℕ) (beginning : Content → Timeline) (table : TurnTable)
    (old : SeenDesk) (read written : List ℕ) (new : SeenDesk) : Type 0 where
  pub stack : Content
  pub spelled : Spells bytes stack
  pub last : Timeline
  pub finish : Ended (Settles MovesWhole) ends ran (beginning stack, old) read written (last, new)
  pub lines : List (List ℕ)
  pub input : AreLines read lines
  pub headline : Headline (beginning stack, old) lines written (last, new)
  pub follows : FollowsTable table last

-- the bytes spell a stack, and a session that begins with it stopped by this fault; so far each state was whole, and
-- the turns of the externals follow a table
pub record Stops (ends : Type 0) (fault : RunFault) (bytes : List ℕ) (beginning : Content → Timeline)
    (table : TurnTable) (old : SeenDesk) (read written : List ℕ) (new : SeenDesk) : Type 0 where
  pub stack : Content
  pub spelled : Spells bytes stack
  pub last : Timeline
  pub stopped : Stopped (Settles MovesWhole) ends fault (beginning stack, old) read written (last, new)
  pub follows : FollowsTable table last

-- nothing is read, written or kept
pub record Idles (old : SeenDesk) (read written : List ℕ) (new : SeenDesk) : Type 0 where
  pub unread : read ≡ []
  pub unwritten : written ≡ []
  pub same : new ≡ old

-- no stack was read: the bytes are no stack text, or memory was refused
abbrev pub IsRefusal : List ℕ → CliFault → Type 0
IsRefusal bytes (Refused error) = document_at bytes ≡ Err error
IsRefusal bytes Memory = Unit {0}
IsRefusal bytes _ = ⊥

abbrev pub fault_of_run : RunFault → CliFault
fault_of_run runs.Memory = Memory
fault_of_run runs.Read = Read
fault_of_run runs.Write = Write
fault_of_run runs.TooManyLines = TooManyLines

-- how a whole run ends by a fault; what it means that the input ended
abbrev pub Ends : Type 0 → CliFault → List ℕ → (Content → Timeline) → TurnTable → SeenDesk → List ℕ → List ℕ → SeenDesk
    → Type 0
Ends ends (Usage text) bytes beginning table old read written new = ⊥
Ends ends CannotRead bytes beginning table old read written new = ⊥
Ends ends (Refused error) bytes beginning table old read written new =
    (document_at bytes ≡ Err error) × Idles old read written new
Ends ends Read bytes beginning table old read written new =
    Stops ends runs.Read bytes beginning table old read written new
Ends ends Write bytes beginning table old read written new =
    Stops ends runs.Write bytes beginning table old read written new
Ends ends TooManyLines bytes beginning table old read written new =
    Stops ends runs.TooManyLines bytes beginning table old read written new
Ends ends Memory bytes beginning table old read written new = Idles old read written new

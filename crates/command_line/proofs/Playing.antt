-- From a session that ran to the whole run.
use Rattle.std.proofs.Common.{◌≡◌, ℕ, List, Option, Err, IsErrOf, refl, ap, subst}
use Rattle.std.specs.Io.KnownBytes.{IsAtEnd}
use Rattle.devices.specs.Desks.{SeenDesk}
use Rattle.externals.specs.Cells.{Seen}
use Rattle.externals.specs.Log.{Log}
use Rattle.externals.specs.Turns.{TurnTable}
use Rattle.object_table.specs.Content.{Content}
use Rattle.change_journal.specs.History.{FollowTable}
use Rattle.stack_text.specs.Laws.{Spells}
use Rattle.headline.specs.Headline.{beginning}
use Rattle.session.specs.Opening.{opened}
use Rattle.headline.specs.Saving.{Takes}
use Rattle.session.specs.SessionView.{SessionView}
use Rattle.headline.specs.Stops.{Ended, Stopped}
use Rattle.headline.specs.Unzipped.{timeline_of, TablesFollow, RunsFollow}
use Rattle.headline.specs.Whole.{RunsStayWhole, StopsStayWhole}
use Rattle.headline.specs.declared.transcript.Ran.{Ran}
use Rattle.headline.specs.declared.transcript.RunFault.{RunFault}
use Rattle.headline.specs.declared.transcript.RunFault.TheVariants as runs
use Rattle.command_line.specs.declared.fault.CliFault.TheVariants.{Read, Write}
use Rattle.command_line.specs.Plays.{Plays, Stops, Ends, fault_of_run}

module _ (bytes : List ℕ) (stack : Content) (externals : List Seen) (logs : List Log) (steps depth : ℕ)
    (left : Option (List ℕ)) (old : SessionView) (desk : SeenDesk) (read written : List ℕ)
    (last : SessionView × SeenDesk) (table : TurnTable) (tables : TablesFollow)
    (turns : FollowTable table last.0.history) (spelled : Spells bytes stack)
    (is : old ≡ opened stack externals logs steps depth) where
  pub plays : (ran : Ran) → RunsFollow → RunsStayWhole → Ended Takes (IsAtEnd left) ran (old, desk) read written last
      → Plays (IsAtEnd left) ran bytes (λ s. beginning s externals logs steps depth) table desk read written last.1
  plays ran follow stay e =
      let first : Ended Takes (IsAtEnd left) ran (opened stack externals logs steps depth, desk) read written last =
      subst (λ (s : SessionView). Ended Takes (IsAtEnd left) ran (s, desk) read written last) is e in
      let followed = follow left ran (opened stack externals logs steps depth, desk) read written last first in
      let whole = stay left ran (opened stack externals logs steps depth, desk) read written last first in
      record {
        stack = stack;
        spelled = spelled;
        last = timeline_of last.0;
        finish = whole.0;
        lines = followed.1.0;
        input = followed.1.1;
        headline = followed.1.2;
        follows = tables table last.0 turns;
      }

  stops : (fault : RunFault) → StopsStayWhole → Stopped Takes (IsAtEnd left) fault (old, desk) read written last
      → Stops (IsAtEnd left) fault bytes (λ s. beginning s externals logs steps depth) table desk read written last.1
  stops fault law e =
      let first : Stopped Takes (IsAtEnd left) fault (opened stack externals logs steps depth, desk) read written
      last = subst (λ (s : SessionView). Stopped Takes (IsAtEnd left) fault (s, desk) read written last) is e in
      record {
        stack = stack;
        spelled = spelled;
        last = timeline_of last.0;
        stopped = law left fault
            (opened stack externals logs steps depth, desk) read written last first;
        follows = tables table last.0 turns;
      }

  pub ends : (fault : RunFault) → StopsStayWhole → Stopped Takes (IsAtEnd left) fault (old, desk) read written last
      → Ends (IsAtEnd left) (fault_of_run fault) bytes (λ s. beginning s externals logs steps depth) table desk read
      written last.1
  ends runs.Memory law e =
      record { unread = e.unread; unwritten = e.unwritten; same = ap (λ (s : SessionView × SeenDesk). s.1) e.same }
  ends runs.Read law e = stops runs.Read law e
  ends runs.Write law e = stops runs.Write law e
  ends runs.TooManyLines law e = stops runs.TooManyLines law e

-- A device's fault of the program is that of its run.
pub only_read : (fault : RunFault) → IsErrOf {T = Ran} (Err (fault_of_run fault)) Read → fault ≡ runs.Read
only_read runs.Memory e = cc
only_read runs.Read e = refl
only_read runs.Write e = cc
only_read runs.TooManyLines e = cc

pub only_write : (fault : RunFault) → IsErrOf {T = Ran} (Err (fault_of_run fault)) Write → fault ≡ runs.Write
only_write runs.Memory e = cc
only_write runs.Read e = cc
only_write runs.Write e = refl
only_write runs.TooManyLines e = cc

pub as_read : (fault : RunFault) → IsErrOf {T = Ran} (Err fault) runs.Read
    → IsErrOf {T = Ran} (Err (fault_of_run fault)) Read
as_read runs.Memory e = cc
as_read runs.Read e = refl
as_read runs.Write e = cc
as_read runs.TooManyLines e = cc

pub as_write : (fault : RunFault) → IsErrOf {T = Ran} (Err fault) runs.Write
    → IsErrOf {T = Ran} (Err (fault_of_run fault)) Write
as_write runs.Memory e = cc
as_write runs.Read e = cc
as_write runs.Write e = refl
as_write runs.TooManyLines e = cc

-- Where a session stands, as a list of whole states with a cursor; and the laws that each line, each call and each run
-- does to it what the headline says.
use Rattle.std.specs.Prelude.{◌≡◌, ◌≢◌, ◌⊎◌, ◌≤◌, ◌-◌, ◌^◌, ℕ, List, ◌∷◌, ◌++◌, length, map, reverse, Option, Some}
use Rattle.std.specs.Prelude.{None, Result, IsErrOf, ◌==◌, MatchBool}
use Rattle.std.specs.Io.KnownBytes.{IsAtEnd}
use Rattle.devices.specs.Desks.{SeenDesk, HearsOrForgets}
use Rattle.devices.specs.Watching.{Rose}
use Rattle.externals.specs.Cells.{Seen}
use Rattle.externals.specs.Log.{Log}
use Rattle.externals.specs.Turns.{TurnTable}
use Rattle.object_table.specs.Content.{Content}
use Rattle.journal_entries.specs.State.{titles_of, index_of}
use Rattle.change_journal.specs.History.{History, Neighbour, FollowTable, plugged, unplugged}
use Rattle.headline.specs.Answering.{Session}
use Rattle.headline.specs.Headline.{Snapshot, Timeline, LineMoves, Headline, Undoes, Redoes, UndoesTo, beginning}
use Rattle.headline.specs.Headline.{with_plugged, without_plugged, FollowsTable}
use Rattle.session.specs.Moves.{MovesTo, undone, redone, undone_to}
use Rattle.session.specs.Opening.{opened}
use Rattle.headline.specs.Saving.{Kept, Beside, Settles, SettlesHeard, Takes}
use Rattle.headline.specs.InputLines.{AreLines}
use Rattle.session.specs.SessionView.{SessionView}
use Rattle.headline.specs.Stops.{Ended, Stopped}
use Rattle.session.specs.TakesLine.{TakesLine}
use Rattle.headline.specs.declared.transcript.Ran.{Ran}
use Rattle.headline.specs.declared.transcript.RunFault.{RunFault}
use Rattle.session.specs.declared.reply.Refusal.{Refusal}
use Rattle.session.specs.declared.reply.Refusal.TheVariants.{NothingToUndo, NothingToRedo, BadCommand}
use Rattle.session.specs.declared.reply.Reply.{Reply}

abbrev pub snapshots_of : List Neighbour → List Snapshot
snapshots_of = map (λ step. record { state = step.state; number = step.stamp })

-- the states before the cursor, turned round, the present one, and those after it
abbrev pub all_snapshots : History → List Snapshot
all_snapshots h = reverse (snapshots_of h.past) ++ record { state = h.now; number = h.stamp } ∷ snapshots_of h.future

abbrev pub timeline_of : SessionView → Timeline
timeline_of s = record {
  snapshots = all_snapshots s.history;
  cursor = length s.history.past;
  depth = s.history.depth;
  lines = s.lines;
  steps = s.steps;
  logs = s.history.logs;
}

-- a session whose history is this one
abbrev pub with_history : SessionView → History → SessionView
with_history s h = record s { history = h }

-- ---- laws

-- each line that a session takes does so to the list of its states
abbrev pub LinesFollow : Type 0
LinesFollow = (line : List ℕ) (old : SessionView) (reply : Reply) (new : SessionView) → TakesLine line old reply new
    → LineMoves line (timeline_of old) reply (timeline_of new)

-- and so do `undo`, `redo` and `undo_to`
abbrev pub MovesFollow : Type 0
MovesFollow = (s : SessionView) (k : ℕ) (result : Result (Unit {0}) Refusal) (h : History)
    → (MatchBool (k == 0) (IsErrOf result BadCommand × (with_history s h ≡ s))
    (MovesTo (undone k s.history) NothingToUndo s.history result h)
    → Undoes k (timeline_of s) result (timeline_of (with_history s h)))
    × (MatchBool (k == 0) (IsErrOf result BadCommand × (with_history s h ≡ s))
    (MovesTo (redone k s.history) NothingToRedo s.history result h)
    → Redoes k (timeline_of s) result (timeline_of (with_history s h)))
    × (MovesTo (undone_to k s.history) NothingToUndo s.history result h
    → UndoesTo k (timeline_of s) result (timeline_of (with_history s h)))

-- a session that is opened, plugged and unplugged has the list that these give
abbrev pub without_if : Option ℕ → Timeline → Timeline
without_if None t = t
without_if (Some i) t = without_plugged i t

abbrev pub PlugsFollow : Type 0
PlugsFollow = (s : SessionView) (x : Seen) (log : Log) (name : List ℕ)
    → (timeline_of (with_history s (plugged s.history x log)) ≡ with_plugged x log (timeline_of s))
    × (timeline_of (with_history s (unplugged name s.history))
    ≡ without_if (index_of name (titles_of s.history.now.externals)) (timeline_of s))

abbrev pub OpensFollow : Type 0
OpensFollow = (stack : Content) (externals : List Seen) (logs : List Log) (steps depth : ℕ)
    → timeline_of (opened stack externals logs steps depth) ≡ beginning stack externals logs steps depth

-- where the turns of a session's externals follow a table, those of the list do
abbrev pub TablesFollow : Type 0
TablesFollow =
    (table : TurnTable) (s : SessionView) → FollowTable table s.history → FollowsTable table (timeline_of s)

-- a session beside a desk
abbrev pub timeline_beside : SessionView × SeenDesk → Timeline × SeenDesk
timeline_beside s = (timeline_of s.0, s.1)

-- A run that ended, with this left to read where that is known, did what the headline says to the list of the
-- session's states, beside the desk.
abbrev pub RunsFollow : Type 0
RunsFollow = (left : Option (List ℕ)) (ran : Ran) (old : SessionView × SeenDesk) (read written : List ℕ)
    (new : SessionView × SeenDesk) → Ended Takes (IsAtEnd left) ran old read written new
    → Ended (Settles LineMoves) (IsAtEnd left) ran (timeline_beside old) read written (timeline_beside new)
    × ((lines : List (List ℕ)) × AreLines read lines
    × Headline (timeline_beside old) lines written (timeline_beside new))

-- and so did a run that stopped, as far as it came
abbrev pub StopsFollow : Type 0
StopsFollow = (left : Option (List ℕ)) (fault : RunFault) (old : SessionView × SeenDesk) (read written : List ℕ)
    (new : SessionView × SeenDesk) → Stopped Takes (IsAtEnd left) fault old read written new
    → Stopped (Settles LineMoves) (IsAtEnd left) fault (timeline_beside old) read written (timeline_beside new)

-- Beside a desk whose count of failures didn't rise all that was saved is kept: each line that saves is answered `ok`,
-- and the desk has its text until another line saves.
abbrev pub SavesFollow : Type 0
SavesFollow = (old : Timeline × SeenDesk) (lines : List (List ℕ)) (text : List ℕ) (new : Timeline × SeenDesk)
    → old.1.failures ≤ 2 ^ 64 - 1 → Headline old lines text new
    → Session (Beside HearsOrForgets Kept LineMoves) old lines text new ⊎ Rose old.1.failures new.1.failures

-- A desk that tells in the end what it heard has heard of each message of each line, in their order, once, and of no
-- others.
abbrev pub MessagesFollow : Type 0
MessagesFollow = (old : Timeline × SeenDesk) (lines : List (List ℕ)) (text : List ℕ) (new : Timeline × SeenDesk)
    → new.1.heard ≢ None → Headline old lines text new
    → Session (SettlesHeard LineMoves) old lines text new

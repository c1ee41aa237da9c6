-- Laws of transcripts: what lines are answered, from a list of whole states and a desk on.
use Rattle.std.specs.Prelude.{◌≡◌, ◌≢◌, ℕ, ◌<◌, List, [], ◌∷◌, length, slice_index_or, IfSome}
use Rattle.std.specs.List.{All, AllByRecursion}
use Rattle.devices.specs.Desks.{SeenDesk}
use Rattle.externals.specs.Log.{Log, Follows}
use Rattle.externals.specs.Turns.{TurnTable, no_table}
use Rattle.externals.specs.declared.external.Input.{Input}
use Rattle.journal_entries.specs.State.{IsState}
use Rattle.change_journal.specs.Logs.{HaveLogs, log_at}
use Rattle.preservation.specs.Laws.{IsPrefix}
use Rattle.definitional_interpreter.specs.Turns.{sorts_of, AreDeterministic}
use Rattle.totality.specs.Laws.{Behaviour, IsBehaviour}
use Rattle.session.specs.declared.reply.Ending.TheVariants.{Refused}
use Rattle.session.specs.declared.reply.Refusal.TheVariants.{NoMemory, SaveFailed}
use Rattle.session.specs.declared.reply.Reply.{Reply}
use Rattle.headline.specs.Answering.{Session}
use Rattle.headline.specs.Headline.{Snapshot, Timeline, FollowsTable, LineMoves}
use Rattle.headline.specs.InputLines.{AreLines}
use Rattle.headline.specs.Saving.{SettlesHeard}
use Rattle.xkit.specs.Table.{kit_table}
use Rattle.transcripts.specs.Replies.{GrowsBy, LogsFollow, AreToldBy}

-- a line is taken with the memory that it needs, and what it saves is kept
pub record Succeeds {S : Type 0} (takes : List ℕ → S → Reply → S → Type 0) (line : List ℕ) (old : S) (reply : Reply)
    (new : S) : Type 0 where
  pub taken : takes line old reply new
  pub memory : reply.ending ≢ Refused NoMemory
  pub kept : reply.ending ≢ Refused SaveFailed

-- the answers to lines, none of which is refused for memory or for its file, beside a desk that goes on telling what it
-- hears
abbrev pub Transcript : Timeline × SeenDesk → List (List ℕ) → List ℕ → Timeline × SeenDesk → Type 0
Transcript = Session (Succeeds (SettlesHeard LineMoves))

-- the answers to all lines of these bytes
abbrev pub Output : Timeline × SeenDesk → List ℕ → List ℕ → Timeline × SeenDesk → Type 0
Output old read text new = (lines : List (List ℕ)) × (AreLines read lines × Transcript old lines text new)

-- the cursor stands on a state
abbrev pub HasPresent : Timeline → Type 0
HasPresent t = t.cursor < length t.snapshots

-- each state is whole
abbrev pub AreWholeStates : Timeline → Type 0
AreWholeStates t = AllByRecursion (λ (s : Snapshot). IsState s.state) t.snapshots

abbrev pub AreBytes : List ℕ → Type 0
AreBytes = All (λ b. b < 256)

-- Each list of lines has a transcript.
abbrev pub TranscriptsExist : Type 0
TranscriptsExist =
    (old : Timeline × SeenDesk) (lines : List (List ℕ)) → HasPresent old.0 →
    (text : List ℕ) × ((new : Timeline × SeenDesk) × Transcript old lines text new)

-- And so an input has an output.
abbrev pub OutputsExist : Type 0
OutputsExist =
    (old : Timeline × SeenDesk) (read : List ℕ) → HasPresent old.0 →
    (text : List ℕ) × ((new : Timeline × SeenDesk) × Output old read text new)

-- ---- for each behaviour of the externals

-- lines have a transcript by the behaviour, which gives each turn by which a log grows
pub record HasTranscriptBy (behaviour : Behaviour) (old : Timeline × SeenDesk) (lines : List (List ℕ)) : Type 0 where
  pub text : List ℕ
  pub new : Timeline × SeenDesk
  pub transcript : Transcript old lines text new
  pub followed : LogsFollow behaviour old.0.logs new.0.logs

-- and an input has an output by it
pub record HasOutputBy (behaviour : Behaviour) (old : Timeline × SeenDesk) (read : List ℕ) : Type 0 where
  pub text : List ℕ
  pub new : Timeline × SeenDesk
  pub output : Output old read text new
  pub followed : LogsFollow behaviour old.0.logs new.0.logs

-- each state is whole, and each of its externals has a log
abbrev pub AreWholeWithLogs : Timeline → Type 0
AreWholeWithLogs t = AllByRecursion (λ (s : Snapshot). IsState s.state × HaveLogs s.state t.logs) t.snapshots

-- Whatever behaviour the externals have, from whole states each list of lines of bytes has a transcript by it.
abbrev pub TranscriptsExistBy : Type 0
TranscriptsExistBy =
    (behaviour : Behaviour) (old : Timeline × SeenDesk) (lines : List (List ℕ)) →
    IsBehaviour behaviour → HasPresent old.0 → AreWholeWithLogs old.0 → AllByRecursion AreBytes lines →
    HasTranscriptBy behaviour old lines

-- And so each input has an output by it.
abbrev pub OutputsExistBy : Type 0
OutputsExistBy =
    (behaviour : Behaviour) (old : Timeline × SeenDesk) (read : List ℕ) →
    IsBehaviour behaviour → HasPresent old.0 → AreWholeWithLogs old.0 → AreBytes read → HasOutputBy behaviour old read

-- By a behaviour that is as a table says, where this has a turn, logs that follow the table go on to follow it.
abbrev pub BehavioursFollowTables : Type 0
BehavioursFollowTables =
    (table : TurnTable) (behaviour : Behaviour) (kind i : ℕ) (old new : Log) →
    ((log : Log) (cells : List (List ℕ)) (input : Input) →
    IfSome (table kind cells input) (λ turn. behaviour i log cells input ≡ turn)) →
    GrowsBy (behaviour i) old new → Follows table kind old → Follows table kind new

-- ---- by the turns of the externals

-- the externals of each state have these kinds, and each has a log
pub record HasKinds (kinds : List ℕ) (t : Timeline) : Type 0 where
  pub sorts : AllByRecursion (λ (s : Snapshot). sorts_of s.state.externals ≡ kinds) t.snapshots
  pub logs : length t.logs ≡ length kinds

-- Along a transcript the externals stay, and each log only grows; the cursor stands on a state.
abbrev pub TranscriptsGoOn : Type 0
TranscriptsGoOn =
    (kinds : List ℕ) (old : Timeline × SeenDesk) (lines : List (List ℕ)) (text : List ℕ)
    (new : Timeline × SeenDesk) → HasPresent old.0 → HasKinds kinds old.0 → Transcript old lines text new →
    HasPresent new.0 × HasKinds kinds new.0 × ((i : ℕ) → IsPrefix (log_at old.0.logs i) (log_at new.0.logs i))

-- Two transcripts of the same lines, whose turns are told by one table and the same turns beside it, are the same.
abbrev pub TranscriptsAreOne : Type 0
TranscriptsAreOne =
    (table : TurnTable) (turns : ℕ → Log) (kinds : List ℕ) (old : Timeline × SeenDesk) (lines : List (List ℕ))
    (text text2 : List ℕ) (new new2 : Timeline × SeenDesk) →
    HasKinds kinds old.0 → AreToldBy table turns kinds new.0.logs → AreToldBy table turns kinds new2.0.logs →
    Transcript old lines text new → Transcript old lines text2 new2 → (text ≡ text2) × (new ≡ new2)

-- And so are two outputs of the same input.
abbrev pub OutputsAreOne : Type 0
OutputsAreOne =
    (table : TurnTable) (turns : ℕ → Log) (kinds : List ℕ) (old : Timeline × SeenDesk) (read text text2 : List ℕ)
    (new new2 : Timeline × SeenDesk) →
    HasKinds kinds old.0 → AreToldBy table turns kinds new.0.logs → AreToldBy table turns kinds new2.0.logs →
    Output old read text new → Output old read text2 new2 → (text ≡ text2) × (new ≡ new2)

-- Where the table has each turn of each kind, logs that follow it are told by it alone.
abbrev pub TablesTellTurns : Type 0
TablesTellTurns =
    (table : TurnTable) (kinds : List ℕ) (logs : List Log) → AreDeterministic table kinds →
    ((i : ℕ) → i < length kinds → Follows table (slice_index_or kinds i 0) (log_at logs i)) →
    AreToldBy table (λ i. []) kinds logs

-- So lines have one transcript that follows such a table.
abbrev pub TablesTellTranscripts : Type 0
TablesTellTranscripts =
    (table : TurnTable) (kinds : List ℕ) (old : Timeline × SeenDesk) (lines : List (List ℕ)) (text text2 : List ℕ)
    (new new2 : Timeline × SeenDesk) →
    AreDeterministic table kinds → HasPresent old.0 → HasKinds kinds old.0 → FollowsTable table new.0 →
    FollowsTable table new2.0 → Transcript old lines text new → Transcript old lines text2 new2 →
    (text ≡ text2) × (new ≡ new2)

-- Each external of the kit is deterministic.
abbrev pub KitIsDeterministic : Type 0
KitIsDeterministic = AreDeterministic kit_table (1 ∷ 2 ∷ 3 ∷ 4 ∷ [])

-- Whatever the externals are, their logs tell their turns.
abbrev pub LogsTellTurns : Type 0
LogsTellTurns =
    (kinds : List ℕ) (logs : List Log) → AreToldBy no_table (log_at logs) kinds logs

-- ---- whole states

-- Where each state is whole, each state is after lines of bytes, whatever the externals do.
abbrev pub TranscriptsStayWhole : Type 0
TranscriptsStayWhole =
    (old : Timeline × SeenDesk) (lines : List (List ℕ)) (text : List ℕ) (new : Timeline × SeenDesk) →
    AllByRecursion AreBytes lines → AreWholeStates old.0 → Transcript old lines text new → AreWholeStates new.0

-- And so it is after an input.
abbrev pub OutputsStayWhole : Type 0
OutputsStayWhole =
    (old : Timeline × SeenDesk) (read text : List ℕ) (new : Timeline × SeenDesk) →
    AreBytes read → AreWholeStates old.0 → Output old read text new → AreWholeStates new.0

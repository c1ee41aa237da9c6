-- Replies to one fresh command: for each behaviour of the externals there is one, and two whose turns are told alike
-- are the same.
use Rattle.std.specs.Prelude.{◌≡◌, ◌⊎◌, ℕ, ◌<◌, List, [], ◌∷◌, ◌++◌, length, slice_index_or}
use Rattle.externals.specs.Log.{Log, Follows}
use Rattle.externals.specs.Turns.{Turn, TurnTable}
use Rattle.externals.specs.declared.external.Input.{Input}
use Rattle.journal_entries.specs.State.{IsState}
use Rattle.change_journal.specs.Logs.{HaveLogs, log_at}
use Rattle.meaning.specs.Actions.{Action}
use Rattle.preservation.specs.Laws.{IsPrefix}
use Rattle.definitional_interpreter.specs.Turns.{sorts_of, nondeterministic}
use Rattle.whole_states.specs.Texts.{ActionTexts}
use Rattle.totality.specs.Laws.{Behaviour, IsBehaviour}
use Rattle.session.specs.declared.reply.Reply.{Reply}
use Rattle.session.specs.Meaning.{Moment, Fresh, Locked}

-- A command has a reply, at any moment and with any number of steps, unless it types into a locked field.
abbrev pub RepliesExist : Type 0
RepliesExist =
    (old : Moment) (steps : ℕ) (does : Action) →
    ((reply : Reply) × ((new : Moment) × Fresh old steps does reply new)) ⊎
    ((logs : List Log) × Locked old steps does logs)

-- ---- for each behaviour of the externals

-- each of these turns is the one that is given by the log and the cells before it
abbrev pub AreTurnsOf : (Log → List (List ℕ) → Input → Turn) → Log → Log → Type 0
AreTurnsOf gives log [] = Unit {0}
AreTurnsOf gives log (turn ∷ turns) =
    (gives log turn.before turn.input ≡ (turn.ask, turn.cells)) × AreTurnsOf gives (log ++ turn ∷ []) turns

-- a log with turns more at its end, each of which is the one that is given
pub record GrowsBy (gives : Log → List (List ℕ) → Input → Turn) (old new : Log) : Type 0 where
  pub turns : Log
  pub log : new ≡ old ++ turns
  pub given : AreTurnsOf gives old turns

-- each log grows by turns of the behaviour
pub record LogsFollow (behaviour : Behaviour) (old new : List Log) : Type 0 where
  pub count : length new ≡ length old
  pub each : (i : ℕ) → i < length old → GrowsBy (behaviour i) (log_at old i) (log_at new i)

-- a command has a reply by the behaviour
pub record HasReplyBy (behaviour : Behaviour) (old : Moment) (steps : ℕ) (does : Action) : Type 0 where
  pub reply : Reply
  pub new : Moment
  pub fresh : Fresh old steps does reply new
  pub followed : LogsFollow behaviour old.logs new.logs

-- or it types into a field that is locked, and that is found by the behaviour
pub record IsLockedBy (behaviour : Behaviour) (old : Moment) (steps : ℕ) (does : Action) : Type 0 where
  pub logs : List Log
  pub locked : Locked old steps does logs
  pub followed : LogsFollow behaviour old.logs logs

-- Whatever behaviour the externals have, in a whole state each command whose texts are texts has a reply by it, unless
-- it types into a locked field.
abbrev pub RepliesExistBy : Type 0
RepliesExistBy =
    (behaviour : Behaviour) (old : Moment) (steps : ℕ) (does : Action) →
    IsBehaviour behaviour → IsState old.state → HaveLogs old.state old.logs → ActionTexts does →
    HasReplyBy behaviour old steps does ⊎ IsLockedBy behaviour old steps does

-- ---- by the turns of the externals

-- the externals have these kinds, and each has a log
pub record IsOfKinds (kinds : List ℕ) (m : Moment) : Type 0 where
  pub sorts : sorts_of m.state.externals ≡ kinds
  pub logs : length m.logs ≡ length kinds

-- The turns in the log of an external of this kind are told: each is that of the table, where this has one, and the
-- others are the head of these.
pub record IsToldBy (table : TurnTable) (turns : Log) (kind : ℕ) (log : Log) : Type 0 where
  pub follows : Follows table kind log
  pub beside : IsPrefix (nondeterministic table kind log) turns

-- and so are the turns of each external
abbrev pub AreToldBy : TurnTable → (ℕ → Log) → List ℕ → List Log → Type 0
AreToldBy table turns kinds logs =
    (i : ℕ) → i < length kinds → IsToldBy table (turns i) (slice_index_or kinds i 0) (log_at logs i)

-- Two replies to one fresh command, at one moment, whose turns are told by one table and the same turns beside it, are
-- the same. So is what they leave.
abbrev pub RepliesAreOne : Type 0
RepliesAreOne =
    (table : TurnTable) (turns : ℕ → Log) (kinds : List ℕ) (old : Moment) (steps : ℕ) (does : Action)
    (reply reply2 : Reply) (new new2 : Moment) →
    IsOfKinds kinds old → AreToldBy table turns kinds new.logs → AreToldBy table turns kinds new2.logs →
    Fresh old steps does reply new → Fresh old steps does reply2 new2 → (reply ≡ reply2) × (new ≡ new2)

-- ---- whole states

-- Whatever the externals do, a fresh command whose texts are texts leads from a whole state to a whole one.
abbrev pub RepliesStayWhole : Type 0
RepliesStayWhole =
    (old : Moment) (steps : ℕ) (does : Action) (reply : Reply) (new : Moment) →
    IsState old.state → ActionTexts does → Fresh old steps does reply new → IsState new.state

-- Laws of outcomes that exist.
use Rattle.std.specs.Prelude.{◌≡◌, ◌⊎◌, ℕ, ◌≤◌, ◌<◌, List, [], ◌∷◌, ◌++◌, length, All, IfSome, IsSome}
use Rattle.std.specs.Prelude.{Result}
use Rattle.ht_values.specs.Text.{IsText}
use Rattle.ht_grammar.specs.Statements as stm
use Rattle.ht_grammar.specs.Trees as tree
use Rattle.externals.specs.Log.{Log}
use Rattle.externals.specs.Turns.{AskTexts, Turn, TurnTable}
use Rattle.externals.specs.declared.external.Ask.{Ask}
use Rattle.externals.specs.declared.external.Input.{Input}
use Rattle.journal_entries.specs.State.{seen_at}
use Rattle.journal_entries.specs.declared.change.Change.{Change}
use Rattle.change_journal.specs.History.{History, IsHistory}
use Rattle.change_journal.specs.Logs.{HaveLogs, FollowSince, log_at, turns_since}
use Rattle.change_journal.specs.Rising.{Made, TookTurn}
use Rattle.meaning.specs.declared.end.Stop.{Stop}
use Rattle.meaning.specs.declared.frame.Frame.{Frame}
use Rattle.meaning.specs.Actions.{Action}
use Rattle.meaning.specs.Meaning.{Val, Line, Message, Refers, Acts}
use Rattle.meaning.specs.State.{RunState}
use Rattle.preservation.specs.Laws.{HasMemory}
use Rattle.meaning.specs.Locked.{MeetsLock}
use Rattle.whole_states.specs.Texts.{AreTexts, RunTexts, FrameTexts, ExprTexts, PartTexts, StmtsTexts, ActionTexts}
use Rattle.whole_states.specs.Texts.{InputTexts}

-- an end that a rule allows and that isn't out of memory, with the history and the run after it
pub data HasOutcome {A : Type 0} (Rule : Result A Stop → History → RunState → Type 0) : Type 0 where
  outcome : (o : Result A Stop) (w : History) (r : RunState) → HasMemory o → Rule o w r → HasOutcome Rule

-- Lines have an outcome while a batch is open, whatever they are and whatever the state.
abbrev pub LinesHaveAnOutcome : Type 0
LinesHaveAnOutcome = (w : History) (r : RunState) (ss : stm.Stmts) → IsSome w.start → HasOutcome (Line w r ss)

-- and so has a message
abbrev pub MessagesHaveAnOutcome : Type 0
MessagesHaveAnOutcome = (w : History) (r : RunState) (i : ℕ) (n : List ℕ) (vs : List (List ℕ)) → IsSome w.start →
    HasOutcome (Message w r i n vs)

-- and the reference of a dot line
abbrev pub ReferencesHaveAnOutcome : Type 0
ReferencesHaveAnOutcome = (w : History) (r : RunState) (pa : tree.Part) → IsSome w.start → HasOutcome (Refers w r pa)

-- and the value of an expression, at most a hundred calls deep
abbrev pub ValuesHaveAnOutcome : Type 0
ValuesHaveAnOutcome = (w : History) (r : RunState) (f : Frame) (d : ℕ) (e : tree.Expr) → IsSome w.start → d ≤ 100 →
    HasOutcome (Val w r f d e)

-- and an action, unless it types into a locked field
abbrev pub ActionsHaveAnOutcome : Type 0
ActionsHaveAnOutcome =
    (w : History) (r : RunState) (ac : Action) → IsSome w.start →
    HasOutcome (Acts w r ac) ⊎ ((w2 : History) × ((r2 : RunState) × MeetsLock w r ac w2 r2))

-- ---- outcomes for each behaviour of the externals

-- What externals do: what the one of a number asks, and its cells after that, by its log so far, its cells and what it
-- is handed.
abbrev pub Behaviour : Type 0
Behaviour = ℕ → Log → List (List ℕ) → Input → Turn

-- a behaviour that externals may have: as many cells are left as there were, and of texts it makes texts
pub record IsBehaviour (behaviour : Behaviour) : Type 0 where
  pub counts : (i : ℕ) (log : Log) (cells : List (List ℕ)) (input : Input) →
      length (behaviour i log cells input).1 ≡ length cells
  pub texts : (i : ℕ) (log : Log) (cells : List (List ℕ)) (input : Input) → All IsText cells → InputTexts input →
      AskTexts (behaviour i log cells input).0 × All IsText (behaviour i log cells input).1

-- this turn of the i-th external is that of the behaviour
abbrev pub IsTurnBy : Behaviour → History → History → ℕ → Input → Ask → Type 0
IsTurnBy behaviour old new i input ask =
    behaviour i (log_at old.logs i) (seen_at old.now i).cells input ≡ (ask, (seen_at new.now i).cells)

-- Changes and turns, one after the other, lead from a history to this one, and each turn is that of the behaviour.
pub data Behaves (behaviour : Behaviour) (begin : History) : History → Type 0 where
  begins : Behaves behaviour begin begin
  made : {old new : History} {change : Change} → Behaves behaviour begin old → Made old new change →
      Behaves behaviour begin new
  took_turn : {old new : History} {i : ℕ} {input : Input} {ask : Ask} → Behaves behaviour begin old →
      i < length old.now.externals → TookTurn old new i input ask → IsTurnBy behaviour old new i input ask →
      Behaves behaviour begin new

-- a batch is open, each state of the history is whole, each external has a log, and the run has texts
pub record IsReady (w : History) (r : RunState) : Type 0 where
  pub batch : IsSome w.start
  pub whole : IsHistory w
  pub logs : HaveLogs w.now w.logs
  pub run : RunTexts r

-- an end that a rule allows and that isn't out of memory, where each turn is that of the behaviour; each state of the
-- history after it is whole
pub data HasOutcomeBy {A : Type 0} (behaviour : Behaviour) (begin : History)
    (Rule : Result A Stop → History → RunState → Type 0) : Type 0 where
  outcome_by : (o : Result A Stop) (w : History) (r : RunState) → HasMemory o → Rule o w r → IsHistory w →
      Behaves behaviour begin w → HasOutcomeBy behaviour begin Rule

-- For each behaviour lines that have texts have such an outcome.
abbrev pub LinesHaveAnOutcomeBy : Type 0
LinesHaveAnOutcomeBy = (behaviour : Behaviour) (w : History) (r : RunState) (ss : stm.Stmts) →
    IsBehaviour behaviour → IsReady w r → StmtsTexts ss → HasOutcomeBy behaviour w (Line w r ss)

-- and so has a message
abbrev pub MessagesHaveAnOutcomeBy : Type 0
MessagesHaveAnOutcomeBy = (behaviour : Behaviour) (w : History) (r : RunState) (i : ℕ) (n : List ℕ) (vs : List (List ℕ))
    →
    IsBehaviour behaviour → IsReady w r → AreTexts vs → HasOutcomeBy behaviour w (Message w r i n vs)

-- and the reference of a dot line
abbrev pub ReferencesHaveAnOutcomeBy : Type 0
ReferencesHaveAnOutcomeBy = (behaviour : Behaviour) (w : History) (r : RunState) (pa : tree.Part) →
    IsBehaviour behaviour → IsReady w r → PartTexts pa → HasOutcomeBy behaviour w (Refers w r pa)

-- and the value of an expression, at most a hundred calls deep
abbrev pub ValuesHaveAnOutcomeBy : Type 0
ValuesHaveAnOutcomeBy = (behaviour : Behaviour) (w : History) (r : RunState) (f : Frame) (d : ℕ) (e : tree.Expr) →
    IsBehaviour behaviour → IsReady w r → FrameTexts f → ExprTexts e → d ≤ 100 →
    HasOutcomeBy behaviour w (Val w r f d e)

-- an action is to type into a locked field, up to which each turn is that of the behaviour
pub record IsLockedBy (behaviour : Behaviour) (w : History) (r : RunState) (ac : Action) : Type 0 where
  pub history : History
  pub run : RunState
  pub meets : MeetsLock w r ac history run
  pub whole : IsHistory history
  pub behaves : Behaves behaviour w history

-- and an action, unless it types into a locked field
abbrev pub ActionsHaveAnOutcomeBy : Type 0
ActionsHaveAnOutcomeBy = (behaviour : Behaviour) (w : History) (r : RunState) (ac : Action) →
    IsBehaviour behaviour → IsReady w r → ActionTexts ac →
    HasOutcomeBy behaviour w (Acts w r ac) ⊎ IsLockedBy behaviour w r ac

-- ---- what a behaviour leaves in the logs

-- each of these turns is the one that is given by the log and the cells before it
abbrev pub AreTurnsBy : (Log → List (List ℕ) → Input → Turn) → Log → List (List ℕ) → Log → Type 0
AreTurnsBy gives log cells [] = Unit {0}
AreTurnsBy gives log cells (turn ∷ turns) =
    (turn.before ≡ cells) × (gives log cells turn.input ≡ (turn.ask, turn.cells)) ×
    AreTurnsBy gives (log ++ turn ∷ []) turn.cells turns

-- Where a behaviour leads from a history to another, the log of each external is the one before with turns more, each
-- of which is that of the behaviour.
abbrev pub BehavioursAreLogged : Type 0
BehavioursAreLogged = (behaviour : Behaviour) (w w2 : History) (i : ℕ) → i < length w.logs →
    Behaves behaviour w w2 →
    (log_at w2.logs i ≡ log_at w.logs i ++ turns_since w.logs w2.logs i) ×
    AreTurnsBy (behaviour i) (log_at w.logs i) (seen_at w.now i).cells (turns_since w.logs w2.logs i)

-- the behaviour is as the table says of the externals of a history, where it has a turn
abbrev pub IsByTable : TurnTable → Behaviour → History → Type 0
IsByTable table behaviour w = (i : ℕ) (log : Log) (cells : List (List ℕ)) (input : Input) →
    IfSome (table (seen_at w.now i).sort cells input) (λ turn. behaviour i log cells input ≡ turn)

-- Such a behaviour leaves turns that follow the table.
abbrev pub BehavioursFollowTables : Type 0
BehavioursFollowTables = (table : TurnTable) (behaviour : Behaviour) (w w2 : History) → HaveLogs w.now w.logs →
    IsByTable table behaviour w → Behaves behaviour w w2 → FollowSince table w.now w.logs w2.logs

-- What the function gives is what the rules allow.
use Rattle.std.specs.Prelude.{◌≡◌, ℕ, ◌<◌, ◌≤◌, List, [], length, Result}
use Rattle.ht_grammar.specs.Statements as stm
use Rattle.ht_grammar.specs.Trees as tree
use Rattle.externals.specs.Log.{Log}
use Rattle.externals.specs.Turns.{TurnTable, no_table}
use Rattle.journal_entries.specs.State.{seen_at}
use Rattle.change_journal.specs.History.{History}
use Rattle.change_journal.specs.Logs.{HaveLogs, FollowSince, turns_since}
use Rattle.meaning.specs.declared.end.Stop.{Stop}
use Rattle.meaning.specs.declared.frame.Frame.{Frame}
use Rattle.meaning.specs.Actions.{Action}
use Rattle.meaning.specs.Meaning.{Val, Line, Message, Refers, Acts}
use Rattle.meaning.specs.State.{RunState}
use Rattle.preservation.specs.Laws.{HasMemory, IsPrefix}
use Rattle.definitional_interpreter.specs.Told.{seen_since, told}
use Rattle.definitional_interpreter.specs.Turns.{IsDeterministic, nondeterministic}
use Rattle.definitional_interpreter.specs.Families.{Meanings}
use Rattle.definitional_interpreter.specs.Meanings.{meanings}

-- The turns of a run from one history to another are told: each external has a log, each turn that it took is that of
-- the table, where this has one, and the others are the head of those beside it.
pub record AreTold (table : TurnTable) (turns : ℕ → Log) (w w2 : History) : Type 0 where
  pub logs : HaveLogs w.now w.logs
  pub follow : FollowSince table w.now w.logs w2.logs
  pub beside : (i : ℕ) → i < length w.now.externals
      → IsPrefix (nondeterministic table (seen_at w.now i).sort (turns_since w.logs w2.logs i)) (turns i)

-- ---- the function gives what the rules allow

-- with so many nested parts, and with more
abbrev pub Enough : (Meanings → Type 0) → Type 0
Enough Holds = (least : ℕ) × ((parts : ℕ) → least ≤ parts → Holds (meanings parts))

-- Where lines don't end out of memory, and the turns of their externals are told, the function gives their end, state,
-- run and turns.
abbrev pub LinesAreComputed : Type 0
LinesAreComputed =
    (table : TurnTable) (turns : ℕ → Log) (w w2 : History) (r r2 : RunState) (ss : stm.Stmts)
    (o : Result (Unit {0}) Stop) →
    AreTold table turns w w2 → Line w r ss o w2 r2 → HasMemory o →
    Enough (λ m. m.line (seen_since table turns w.logs w) r ss ≡ told o (seen_since table turns w.logs w2) r2)

-- and so it does of a message
abbrev pub MessagesAreComputed : Type 0
MessagesAreComputed =
    (table : TurnTable) (turns : ℕ → Log) (w w2 : History) (r r2 : RunState) (i : ℕ) (n : List ℕ) (vs : List (List ℕ))
    (o : Result (Unit {0}) Stop) →
    AreTold table turns w w2 → Message w r i n vs o w2 r2 → HasMemory o →
    Enough (λ m. m.message (seen_since table turns w.logs w) r i n vs ≡ told o (seen_since table turns w.logs w2) r2)

-- and of an action
abbrev pub ActionsAreComputed : Type 0
ActionsAreComputed =
    (table : TurnTable) (turns : ℕ → Log) (w w2 : History) (r r2 : RunState) (ac : Action)
    (o : Result (Unit {0}) Stop) →
    AreTold table turns w w2 → Acts w r ac o w2 r2 → HasMemory o →
    Enough (λ m. m.acts (seen_since table turns w.logs w) r ac ≡ told o (seen_since table turns w.logs w2) r2)

-- and of the reference of a dot line
abbrev pub ReferencesAreComputed : Type 0
ReferencesAreComputed =
    (table : TurnTable) (turns : ℕ → Log) (w w2 : History) (r r2 : RunState) (pa : tree.Part) (o : Result ℕ Stop) →
    AreTold table turns w w2 → Refers w r pa o w2 r2 → HasMemory o →
    Enough (λ m. m.refers (seen_since table turns w.logs w) r pa ≡ told o (seen_since table turns w.logs w2) r2)

-- and of the value of an expression
abbrev pub ValuesAreComputed : Type 0
ValuesAreComputed =
    (table : TurnTable) (turns : ℕ → Log) (w w2 : History) (r r2 : RunState) (f : Frame) (d : ℕ) (e : tree.Expr)
    (o : Result (List ℕ) Stop) →
    AreTold table turns w w2 → Val w r f d e o w2 r2 → HasMemory o →
    Enough (λ m. m.val (seen_since table turns w.logs w) r f d e ≡ told o (seen_since table turns w.logs w2) r2)

-- ---- special cases

-- A table that has each turn of a kind leaves none to be told: where each external is deterministic, each run is
-- computed by the table alone.
abbrev pub DeterministicKindsHaveNoTurnsToTell : Type 0
DeterministicKindsHaveNoTurnsToTell =
    (table : TurnTable) (sort : ℕ) (log : Log) → IsDeterministic table sort → nondeterministic table sort log ≡ []

-- Where nothing is known of the externals, each turn has to be told: each run is computed by its logs.
abbrev pub WithNoTableAllTurnsHaveToBeTold : Type 0
WithNoTableAllTurnsHaveToBeTold = (sort : ℕ) (log : Log) → nondeterministic no_table sort log ≡ log

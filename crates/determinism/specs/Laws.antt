-- Two runs of one thing have one outcome.
use Rattle.std.specs.Prelude.{◌≡◌, ℕ, ◌<◌, List, length, Result}
use Rattle.ht_grammar.specs.Statements as stm
use Rattle.ht_grammar.specs.Trees as tree
use Rattle.externals.specs.Turns.{TurnTable}
use Rattle.journal_entries.specs.State.{seen_at}
use Rattle.change_journal.specs.History.{History}
use Rattle.change_journal.specs.Logs.{HaveLogs, FollowSince, turns_since}
use Rattle.meaning.specs.declared.end.Stop.{Stop}
use Rattle.meaning.specs.declared.frame.Frame.{Frame}
use Rattle.meaning.specs.Actions.{Action}
use Rattle.meaning.specs.Meaning.{Val, Line, Message, Refers, Acts}
use Rattle.meaning.specs.State.{RunState}
use Rattle.preservation.specs.Laws.{HasMemory}
use Rattle.definitional_interpreter.specs.Turns.{nondeterministic}

-- Two runs, from w to w2 and from v to v2, begin with the same state, their externals follow the table, and took the
-- same turns of those that the table doesn't have. Where each external is deterministic by the table there are none of
-- these; with no table they are all turns.
pub record AreAlike (table : TurnTable) (w v w2 v2 : History) : Type 0 where
  pub state : v.now ≡ w.now
  pub logs : HaveLogs w.now w.logs
  pub other_logs : HaveLogs v.now v.logs
  pub follow : FollowSince table w.now w.logs w2.logs
  pub others_follow : FollowSince table v.now v.logs v2.logs
  pub beside : (i : ℕ) → i < length w.now.externals
      → nondeterministic table (seen_at w.now i).sort (turns_since v.logs v2.logs i)
      ≡ nondeterministic table (seen_at w.now i).sort (turns_since w.logs w2.logs i)

-- They end alike, with the same state and run, and each external took the same turns; so the logs are the same where
-- they were the same.
pub record SameOutcome {A : Type 0} (w v w2 v2 : History) (r2 q2 : RunState) (o p : Result A Stop) : Type 0 where
  pub ends : o ≡ p
  pub state : w2.now ≡ v2.now
  pub run : r2 ≡ q2
  pub turns : (i : ℕ) → turns_since w.logs w2.logs i ≡ turns_since v.logs v2.logs i
  pub logs : v.logs ≡ w.logs → w2.logs ≡ v2.logs

-- Two such runs of the same lines, neither of which is out of memory, have one outcome.
abbrev pub LinesHaveOneOutcome : Type 0
LinesHaveOneOutcome =
    (table : TurnTable) (w v w2 v2 : History) (r r2 q2 : RunState) (ss : stm.Stmts) (o p : Result (Unit {0}) Stop) →
    AreAlike table w v w2 v2 → Line w r ss o w2 r2 → Line v r ss p v2 q2 → HasMemory o → HasMemory p →
    SameOutcome w v w2 v2 r2 q2 o p

-- and so have two runs of the same message
abbrev pub MessagesHaveOneOutcome : Type 0
MessagesHaveOneOutcome =
    (table : TurnTable) (w v w2 v2 : History) (r r2 q2 : RunState) (i : ℕ) (n : List ℕ) (vs : List (List ℕ))
    (o p : Result (Unit {0}) Stop) →
    AreAlike table w v w2 v2 → Message w r i n vs o w2 r2 → Message v r i n vs p v2 q2 → HasMemory o → HasMemory p →
    SameOutcome w v w2 v2 r2 q2 o p

-- and of the same action
abbrev pub ActionsHaveOneOutcome : Type 0
ActionsHaveOneOutcome =
    (table : TurnTable) (w v w2 v2 : History) (r r2 q2 : RunState) (ac : Action) (o p : Result (Unit {0}) Stop) →
    AreAlike table w v w2 v2 → Acts w r ac o w2 r2 → Acts v r ac p v2 q2 → HasMemory o → HasMemory p →
    SameOutcome w v w2 v2 r2 q2 o p

-- and two lookups of the same reference
abbrev pub ReferencesHaveOneOutcome : Type 0
ReferencesHaveOneOutcome =
    (table : TurnTable) (w v w2 v2 : History) (r r2 q2 : RunState) (pa : tree.Part) (o p : Result ℕ Stop) →
    AreAlike table w v w2 v2 → Refers w r pa o w2 r2 → Refers v r pa p v2 q2 → HasMemory o → HasMemory p →
    SameOutcome w v w2 v2 r2 q2 o p

-- and two computations of the same expression
abbrev pub ValuesHaveOneOutcome : Type 0
ValuesHaveOneOutcome =
    (table : TurnTable) (w v w2 v2 : History) (r r2 q2 : RunState) (f : Frame) (d : ℕ) (e : tree.Expr)
    (o p : Result (List ℕ) Stop) →
    AreAlike table w v w2 v2 → Val w r f d e o w2 r2 → Val v r f d e p v2 q2 → HasMemory o → HasMemory p →
    SameOutcome w v w2 v2 r2 q2 o p

-- Laws over the rules: a run whose trees are of texts leads from whole states to whole states, whatever its externals
-- do.
use Rattle.std.specs.Prelude.{ℕ, List, Result, IfOk, All}
use Rattle.ht_values.specs.Text.{IsText}
use Rattle.ht_grammar.specs.Statements as stm
use Rattle.ht_grammar.specs.Trees as tree
use Rattle.change_journal.specs.History.{History, IsHistory}
use Rattle.change_journal.specs.Logs.{turns_since}
use Rattle.meaning.specs.Actions.{Action}
use Rattle.meaning.specs.Meaning.{Val, Line, Message, Refers, Acts}
use Rattle.meaning.specs.State.{RunState}
use Rattle.meaning.specs.declared.end.Stop.{Stop}
use Rattle.meaning.specs.declared.frame.Frame.{Frame}
use Rattle.preservation.specs.Laws.{HasMemory}
use Rattle.whole_states.specs.Texts.{AreTexts, RunTexts, FrameTexts, ExprTexts, PartTexts, StmtsTexts, ActionTexts}
use Rattle.whole_states.specs.Texts.{LoggedTexts}

-- Each state of the history after a run is whole, and the turns that externals took in it are of texts.
pub record LeadsToWhole (w w2 : History) : Type 0 where
  pub whole : IsHistory w2
  pub turns : (i : ℕ) → All LoggedTexts (turns_since w.logs w2.logs i)

-- The lines of a command, whatever the handlers and externals that they reach: each state of the history after them is
-- whole.
abbrev pub LinesLeadToWhole : Type 0
LinesLeadToWhole =
    (w w2 : History) (r r2 : RunState) (ss : stm.Stmts) (o : Result (Unit {0}) Stop) →
    Line w r ss o w2 r2 → HasMemory o → IsHistory w → RunTexts r → StmtsTexts ss → LeadsToWhole w w2 × RunTexts r2

-- and so of a message that is sent by itself
abbrev pub MessagesLeadToWhole : Type 0
MessagesLeadToWhole =
    (w w2 : History) (r r2 : RunState) (i : ℕ) (n : List ℕ) (vs : List (List ℕ)) (o : Result (Unit {0}) Stop) →
    Message w r i n vs o w2 r2 → HasMemory o → IsHistory w → RunTexts r → AreTexts vs →
    LeadsToWhole w w2 × RunTexts r2

-- of what a user does
abbrev pub ActionsLeadToWhole : Type 0
ActionsLeadToWhole =
    (w w2 : History) (r r2 : RunState) (ac : Action) (o : Result (Unit {0}) Stop) →
    Acts w r ac o w2 r2 → HasMemory o → IsHistory w → RunTexts r → ActionTexts ac → LeadsToWhole w w2 × RunTexts r2

-- of the reference of a dot line
abbrev pub ReferencesLeadToWhole : Type 0
ReferencesLeadToWhole =
    (w w2 : History) (r r2 : RunState) (pa : tree.Part) (o : Result ℕ Stop) →
    Refers w r pa o w2 r2 → HasMemory o → IsHistory w → RunTexts r → PartTexts pa → LeadsToWhole w w2 × RunTexts r2

-- and of an expression, whose value is a text then
abbrev pub ValuesLeadToWhole : Type 0
ValuesLeadToWhole =
    (w w2 : History) (r r2 : RunState) (f : Frame) (d : ℕ) (e : tree.Expr) (o : Result (List ℕ) Stop) →
    Val w r f d e o w2 r2 → HasMemory o → IsHistory w → RunTexts r → FrameTexts f → ExprTexts e →
    LeadsToWhole w w2 × RunTexts r2 × IfOk o IsText

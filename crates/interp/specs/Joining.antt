-- Operators of a chain, each with its right operand.
use Rattle.std.specs.Prelude.{ℕ, List, Result, Ok}
use Rattle.ht_values.specs.declared.operator.Op.{Op}
use Rattle.ht_grammar.specs.Trees as tree
use Rattle.change_journal.specs.History.{History}
use Rattle.meaning.specs.declared.end.Stop.{Stop}
use Rattle.meaning.specs.declared.frame.Frame.{Frame}
use Rattle.meaning.specs.Meaning.{Val}
use Rattle.meaning.specs.State.{RunState}

-- what an operator makes of a value and of an operand, whatever expression has that value
pub data JoinsOperand : History → RunState → Frame → ℕ → Op → List ℕ → tree.Expr → Result (List ℕ) Stop → History
    → RunState → Type 0 where
  joins_operand : {w1 w2 : History} {r1 r2 : RunState} {f : Frame} {d : ℕ} {op : Op} {v : List ℕ} {y : tree.Expr}
      {o : Result (List ℕ) Stop} →
      ((w : History) (r : RunState) (x : tree.Expr) → Val w r f d x (Ok v) w1 r1
      → Val w r f d (tree.binary op x y) o w2 r2) →
      JoinsOperand w1 r1 f d op v y o w2 r2

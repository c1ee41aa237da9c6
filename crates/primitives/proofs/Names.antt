-- Operators between names.
use Rattle.std.proofs.Common.{◌≡◌, ℕ, List, Result, refl}
use Rattle.ht_values.specs.declared.operator.Op.{Op}
use Rattle.ht_values.specs.Operators.{binary}
use Rattle.ht_grammar.specs.Trees as tree
use Rattle.change_journal.specs.History.{History}
use Rattle.containers.specs.Places.{read_name}
use Rattle.meaning.specs.declared.end.Stop.{Stop}
use Rattle.meaning.specs.declared.frame.Frame.{Frame}
use Rattle.meaning.specs.Meaning.{Val}
use Rattle.meaning.specs.State.{RunState}
use Rattle.meaning.specs.Values.{Yields}

module _ {w : History} {r : RunState} {f : Frame} {d : ℕ} {op : Op} {x y : tree.Expr} {n m : List ℕ} where
  pub binary_of_names : {o : Result (List ℕ) Stop}
      → Yields (binary op (read_name w.now f.variables n) (read_name w.now f.variables m)) o
      → x ≡ tree.name n → y ≡ tree.name m → Val w r f d (tree.binary op x y) o w r
  binary_of_names is left right = Val.two_operands refl (Val.name left refl) (Val.name right refl) is

pub ruleset names_rules = (Val.memory, binary_of_names)

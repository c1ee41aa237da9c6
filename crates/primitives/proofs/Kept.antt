-- Names and literals that are numbers.
use Rattle.std.proofs.Common.{◌≡◌, ℕ, ℤ, List, ◌∷◌, Bool, Result, Ok, Err, refl, sym}
use Rattle.std.specs.Prelude.{IfSome}
use Rattle.std.specs.Result.{result_ok}
use Rattle.ht_values.specs.declared.fault.Fault.{Fault}
use Rattle.ht_values.specs.Number.{number_of}
use Rattle.ht_values.specs.Operators.{binary, word_of}
use Rattle.ht_values.specs.Text.{numeral}
use Rattle.ht_values.specs.declared.operator.Op.{Op}
use Rattle.ht_values.proofs.Spellings.{word_is_true}
use Rattle.ht_grammar.specs.Trees as tree
use Rattle.ht_tree.specs.declared.operators.Joined.{Joined}
use Rattle.ht_tree.specs.View.{joined_to}
use Rattle.change_journal.specs.History.{History}
use Rattle.meaning.specs.declared.frame.Frame.{Frame}
use Rattle.meaning.specs.Meaning.{NumberVal, TruthVal, Val}
use Rattle.meaning.specs.State.{RunState}
use Rattle.meaning.specs.Values.{Yields}

-- an expression that is a number in every run, and changes nothing
abbrev pub IsNumber : History → Frame → tree.Expr → ℤ → Type 0
IsNumber w f e z = (r : RunState) (d : ℕ) → Val w r f d e (Ok (numeral z)) w r

-- operators make one number of another, whatever expression that is of
abbrev pub Computes : History → Frame → ℤ → List Joined → ℤ → Type 0
Computes w f z js n = (e : tree.Expr) → IsNumber w f e z → IsNumber w f (joined_to e js) n

module _ {w : History} {f : Frame} where
  number_is : {e : tree.Expr} (z u : ℤ) → IsNumber w f e z → number_of (numeral z) ≡ Ok u
      → (r : RunState) (d : ℕ) → NumberVal w r f d e (Ok u) w r
  number_is z u h read r d = NumberVal.a_number (h r d) (Yields.yields read)

  pub known_is : {e : tree.Expr} (z : ℤ) → IsNumber w f e z → (o : Result ℤ Fault) → o ≡ number_of (numeral z)
      → IfSome (result_ok o) (λ u. (r : RunState) (d : ℕ) → NumberVal w r f d e (Ok u) w r)
  known_is z h (Ok u) is = number_is z u h (sym is)
  known_is z h (Err n) is = tt

  module _ {op : Op} {x y : tree.Expr} (p q : ℤ) (left : IsNumber w f x p) (right : IsNumber w f y q) where
    pub binary_is : {t : List ℕ} → binary op (numeral p) (numeral q) ≡ Ok t
        → (r : RunState) (d : ℕ) → Val w r f d (tree.binary op x y) (Ok t) w r
    binary_is h r d = Val.two_operands refl (left r d) (right r d) (Yields.yields h)

    pub truth_is : {e : tree.Expr} (b : Bool) → e ≡ tree.binary op x y
        → binary op (numeral p) (numeral q) ≡ Ok (word_of b)
        → (r : RunState) (d : ℕ) → TruthVal w r f d e (Ok b) w r
    truth_is b is h r d =
        TruthVal.a_truth (Val.two_operands is (left r d) (right r d) (Yields.yields h)) (Yields.yields (word_is_true b))

  pub computes_more : (z q u : ℤ) (j : Joined) (js : List Joined) (n : ℤ) → IsNumber w f j.operand q
      → binary j.op (numeral z) (numeral q) ≡ Ok (numeral u) → Computes w f u js n → Computes w f z (j ∷ js) n
  computes_more z q u j js n right is rest e h =
      rest (tree.binary j.op e j.operand) (λ r d. Val.two_operands refl (h r d) (right r d) (Yields.yields is))

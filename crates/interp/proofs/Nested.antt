-- Operators that stand together, messages with no argument or with one, and texts that are met.
use Rattle.std.proofs.Common.{◌≡◌, ℕ, ◌+◌, List, [], ◌∷◌, ◌++◌, Some, None, Result, Ok, Err, refl}
use Rattle.ht_values.specs.declared.operator.Op.{Op}
use Rattle.ht_values.specs.Operators.{binary}
use Rattle.ht_grammar.specs.declared.vocabulary.HandlerKind.{HandlerKind}
use Rattle.ht_grammar.specs.Trees as tree
use Rattle.ht_tree.specs.declared.operators.Joined.{Joined}
use Rattle.ht_tree.specs.View.{joined_to}
use Rattle.change_journal.specs.History.{History}
use Rattle.containers.specs.Places.{read_name}
use Rattle.meaning.specs.declared.end.Stop.{Stop}
use Rattle.meaning.specs.declared.frame.Frame.{Frame}
use Rattle.meaning.specs.Meaning.{Val, Vals, TextVal, Calls, Sends}
use Rattle.meaning.specs.State.{RunState}
use Rattle.meaning.specs.Values.{Yields}
use Rattle.one_pass.specs.Meeting.{MeetsText}
use Rattle.interp.specs.Joining.{JoinsOperand}

-- the first operator joins the left operand of the second
module _ {w w1 : History} {r r1 : RunState} {f : Frame} {d : ℕ} {x y z : tree.Expr} {op op1 : Op} where
  pub left_nested_stops : {s : Stop} → Val w r f d x (Err s) w1 r1
      → Val w r f d (tree.binary op1 (tree.binary op x y) z) (Err s) w1 r1
  left_nested_stops h = Val.left_stops refl (Val.left_stops refl h)

  pub left_nested_middle_stops : {w2 : History} {r2 : RunState} {p : List ℕ} {s : Stop} → Val w r f d x (Ok p) w1 r1
      → JoinsOperand w1 r1 f d op p y (Err s) w2 r2
      → Val w r f d (tree.binary op1 (tree.binary op x y) z) (Err s) w2 r2
  left_nested_middle_stops h (JoinsOperand.joins_operand join) = Val.left_stops refl (join w r x h)

  pub left_nested : {w2 w3 : History} {r2 r3 : RunState} {p v : List ℕ} {o : Result (List ℕ) Stop}
      → Val w r f d x (Ok p) w1 r1 → JoinsOperand w1 r1 f d op p y (Ok v) w2 r2
      → JoinsOperand w2 r2 f d op1 v z o w3 r3 → Val w r f d (tree.binary op1 (tree.binary op x y) z) o w3 r3
  left_nested h (JoinsOperand.joins_operand join) (JoinsOperand.joins_operand join1) =
      join1 w r (tree.binary op x y) (join w r x h)

-- the right operand is joined to what the left one gives
module _ {w w1 w2 : History} {r r1 r2 : RunState} {f : Frame} {d : ℕ} {x y : tree.Expr} {op : Op} {p : List ℕ} where
  pub operands : {o : Result (List ℕ) Stop} → Val w r f d x (Ok p) w1 r1 → JoinsOperand w1 r1 f d op p y o w2 r2
      → Val w r f d (tree.binary op x y) o w2 r2
  operands h (JoinsOperand.joins_operand join) = join w r x h

-- operators make this of a value, whatever expression that is of
abbrev pub Joins : History → RunState → Frame → ℕ → List ℕ → List Joined → Result (List ℕ) Stop → History → RunState
    → Type 0
Joins w r f d v js o w1 r1 =
    (e : tree.Expr) (w0 : History) (r0 : RunState) → Val w0 r0 f d e (Ok v) w r → Val w0 r0 f d (joined_to e js) o w1 r1

module _ {w w1 : History} {r r1 : RunState} {f : Frame} {d : ℕ} {s : Stop} where
  pub joined_stops : (e : tree.Expr) (js : List Joined) → Val w r f d e (Err s) w1 r1
      → Val w r f d (joined_to e js) (Err s) w1 r1
  joined_stops e [] h = h
  joined_stops e (j ∷ js) h = joined_stops (tree.binary j.op e j.operand) js (Val.left_stops refl h)

module _ {w : History} {r : RunState} {f : Frame} {d : ℕ} where
  pub joins_none : (v : List ℕ) → Joins w r f d v [] (Ok v) w r
  joins_none v e w0 r0 h = h

module _ {w w1 : History} {r r1 : RunState} {f : Frame} {d : ℕ} where
  pub joins_end : {s : Stop} (v : List ℕ) (j : Joined) (js : List Joined)
      → JoinsOperand w r f d j.op v j.operand (Err s) w1 r1 → Joins w r f d v (j ∷ js) (Err s) w1 r1
  joins_end v j js (JoinsOperand.joins_operand h) e w0 r0 before =
      joined_stops (tree.binary j.op e j.operand) js (h w0 r0 e before)

  pub joins_more : {w2 : History} {r2 : RunState} {o : Result (List ℕ) Stop} (v t : List ℕ) (j : Joined)
      (js : List Joined) → JoinsOperand w r f d j.op v j.operand (Ok t) w1 r1 → Joins w1 r1 f d t js o w2 r2
      → Joins w r f d v (j ∷ js) o w2 r2
  joins_more v t j js (JoinsOperand.joins_operand h) rest e w0 r0 before =
      rest (tree.binary j.op e j.operand) w0 r0 (h w0 r0 e before)

module _ {w : History} {r : RunState} {f : Frame} {d : ℕ} {op : Op} {v : List ℕ} {y : tree.Expr} where
  pub name_joins : {n : List ℕ} {o : Result (List ℕ) Stop} → Yields (binary op v (read_name w.now f.variables n)) o
      → y ≡ tree.name n → JoinsOperand w r f d op v y o w r
  name_joins is name =
      JoinsOperand.joins_operand (λ w0 r0 x before. Val.two_operands refl before (Val.name name refl) is)

module _ {w w1 : History} {r r1 : RunState} {f : Frame} {d : ℕ} {op : Op} {v : List ℕ} {y : tree.Expr} where
  pub operand_stops : {s : Stop} → Val w r f d y (Err s) w1 r1 → JoinsOperand w r f d op v y (Err s) w1 r1
  operand_stops h = JoinsOperand.joins_operand (λ w0 r0 x before. Val.right_stops refl before h)

  pub operand_joins : {u : List ℕ} {o : Result (List ℕ) Stop} → Val w r f d y (Ok u) w1 r1 → Yields (binary op v u) o
      → JoinsOperand w r f d op v y o w1 r1
  operand_joins h is = JoinsOperand.joins_operand (λ w0 r0 x before. Val.two_operands refl before h is)

pub ruleset join_rules = (name_joins, operand_stops, operand_joins)

pub ruleset left_nested_rules = (Val.memory, left_nested_stops, left_nested_middle_stops, left_nested)

pub ruleset operands_rules = (Val.memory, Val.left_stops, operands)

module _ {w w1 : History} {r r1 : RunState} {f : Frame} {d i : ℕ} {n : List ℕ} {k : HandlerKind} where
  pub bare_sent : {vs : List (List ℕ)} {o : Result (List ℕ) Stop} → vs ≡ [] → Sends w r f d i n vs k o w1 r1
      → Calls w r f d i n tree.none k o w1 r1
  bare_sent none h = Calls.calls (Vals.vals_done refl) (rw none at h)

  pub only_stops : {x : tree.Expr} {s : Stop} → Val w r f d x (Err s) w1 r1
      → Calls w r f d i n (tree.more x tree.none) k (Err s) w1 r1
  only_stops h = Calls.calls_stop (Vals.vals_stop refl h)

  pub only_sent : {w2 : History} {r2 : RunState} {x : tree.Expr} {v : List ℕ} {vs vs1 : List (List ℕ)}
      {o : Result (List ℕ) Stop} → vs ≡ [] → vs1 ≡ vs ++ v ∷ [] → Val w r f d x (Ok v) w1 r1
      → Sends w1 r1 f d i n vs1 k o w2 r2 → Calls w r f d i n (tree.more x tree.none) k o w2 r2
  only_sent none is h h1 = Calls.calls (Vals.vals_more refl h (Vals.vals_done refl)) (rw (is, none) at h1)

pub ruleset bare_rules = (Calls.calls_memory, bare_sent)

pub ruleset only_rules = (Calls.calls_memory, only_stops, only_sent)

-- a text of `value` that is met, and its tree where one is left
module _ {w w1 : History} {r r1 : RunState} {f : Frame} {d : ℕ} {t v : List ℕ} where
  pub met_stops : {s : Stop} → MeetsText w r f d t (Err s) v w1 r1 → TextVal w r f d t (Err s) w1 r1
  met_stops (MeetsText.stops h) = h

  pub met_value : MeetsText w r f d t (Ok None) v w1 r1 → TextVal w r f d t (Ok v) w1 r1
  met_value (MeetsText.has_value h) = h

  pub met_tree : {w2 : History} {r2 : RunState} {x : tree.Expr} {o : Result (List ℕ) Stop}
      → MeetsText w r f d t (Ok (Some x)) v w1 r1 → Val w1 r1 f (d + 1) x o w2 r2 → TextVal w r f d t o w2 r2
  met_tree {w2 = w2} {r2 = r2} {o = o} (MeetsText.has_tree go) h = go o w2 r2 h

pub ruleset text_rules = (TextVal.value_memory, met_stops, met_value, met_tree)

-- Worked derivations, which check the rules.
use Rattle.std.proofs.Common.{ℕ, ◌-◌, ◌<◌, List, codes, Ok, Err, refl}
use Rattle.std.specs.Fmt.{digits}
use Rattle.ht_values.specs.declared.fault.Fault.TheVariants.{DivideByZero, NotLogical}
use Rattle.ht_values.specs.declared.operator.Op.TheVariants.{And, Div}
use Rattle.ht_values.specs.Number.{number_of}
use Rattle.ht_values.specs.Operators.{binary}
use Rattle.ht_lex.specs.declared.key.Constant.TheVariants as constant
use Rattle.ht_grammar.specs.Statements as stm
use Rattle.ht_grammar.specs.Trees as tree
use Rattle.change_journal.specs.History.{History}
use Rattle.meaning.specs.declared.end.How.TheVariants.{Next}
use Rattle.meaning.specs.declared.end.Stop.TheVariants.{Fault as Faults, Exited}
use Rattle.meaning.specs.Meaning.{Val, NumberVal, TruthVal, Form, Block, Endless, Counts, Line}
use Rattle.meaning.specs.declared.frame.Frame.{Frame}
use Rattle.meaning.specs.State.{RunState, Step, shows}
use Rattle.meaning.specs.Values.{Yields}

-- `unfolding computing` opens the definitions that a literal computes through
unfoldable pub computing : Unit {0}
unfolding binary number_of digits
computing = tt

abbrev number : List ℕ → tree.Expr
number t = tree.number t

-- a run with a step less
abbrev less : RunState → RunState
less r = record r { left = r.left - 1 }

put_shows_a_line : (w : History) (r : RunState) (f : Frame) → 0 < r.left →
    Block w r f 0 (stm.also (stm.put (number (codes "1"))) stm.stop) (Ok Next) w (shows (less r) (codes "1")) f
put_shows_a_line w r f h =
    Block.block_goes_on refl (Step.taken h refl) (Form.show refl (Val.number refl) refl) (Block.block_end refl)

-- `false and (1 div 0)` computes its second operand
and_computes_both : (w : History) (r : RunState) (f : Frame) →
    Val w r f 0 (tree.binary And (tree.constant constant.False)
    (tree.binary Div (number (codes "1")) (number (codes "0")))) (Err (Faults DivideByZero)) w r
unfolding computing
and_computes_both w r f = Val.right_stops refl (Val.constant refl refl)
    (Val.two_operands refl (Val.number refl) (Val.number refl) (Yields.faults refl))

-- `if 1 then` has no logical condition
condition_has_to_be_logical : (w : History) (r : RunState) (f : Frame) (ss os : stm.Stmts) →
    Form w r f 0 (stm.when (number (codes "1")) ss os) (Err (Faults NotLogical)) w r f
condition_has_to_be_logical w r f ss os = Form.if_stops refl (TruthVal.a_truth (Val.number refl) (Yields.faults refl))

-- `repeat 0` takes a step for its one test, after that of the statement
no_turns_take_a_test : (w : History) (r : RunState) (f : Frame) (ss : stm.Stmts) → 0 < r.left →
    Form w r f 0 (stm.repeat (stm.times (number (codes "0"))) ss) (Ok Next) w (less r) f
unfolding computing
no_turns_take_a_test w r f ss h = Form.times refl (NumberVal.a_number (Val.number refl) (Yields.yields refl)) refl
    (Counts.counts_end (Step.taken h refl) refl)

-- `exit to HyperCard` in a repeat ends the line
exit_ends_the_line : (w : History) (r : RunState) → 0 < r.left → 0 < (less r).left → 0 < (less (less r)).left →
    Line w r (stm.also (stm.repeat stm.forever (stm.also stm.exit_to_hypercard stm.stop)) stm.stop) (Err Exited) w
    (less (less (less r)))
exit_ends_the_line w r a b c =
    Line.line_stops refl (Block.block_stops refl (Step.taken a refl)
    (Form.forever refl (Endless.endless_stops (Step.taken b refl)
    (Block.block_stops refl (Step.taken c refl) (Form.exit_to_hypercard refl)))))

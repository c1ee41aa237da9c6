use Rattle.std.proofs.Common.{◌≡◌, ◌<◌, ◌+◌, ℕ, List, [], drop, get_or, length, rules, arith, refl, sym, ap, ◌∙◌, drop_of_length-le, SFits, w64}
use Rattle.std.proofs.lemmas.Grind.{common_steps}
use Rattle.std.proofs.lemmas.Int.{to_z-of_z}
use Rattle.std.proofs.lemmas.Result.{err_from_is_err_and}
use Rattle.ht_tree.specs.ContainerView.{container_of}
use Rattle.ht_tree.specs.StatementView.{form_of, stmt_of, stmts_of}
use Rattle.ht_tree.specs.View.{chunk_of, count_of, expr_of}
use Rattle.ht_tree.proofs.Chains.{deep_operand, joined_deep}
use Rattle.ht_grammar.specs.Trees as tree
use Rattle.meaning.specs.declared.frame.Frame.{Frame}
use Rattle.meaning.specs.Messages.{lines_of, parameters_of}
use Rattle.meaning.specs.Meaning.{Val, Vals, Form, Block, Resolves, Along, Talks, Systems}
use Rattle.meaning.specs.State.{handler_frame}
use Rattle.primitives.proofs.Lists.{cut_at, cut_lent}
use Rattle.interp.proofs.Blocks.{block_ends, block_goes_on, counts_turn, endless_turns, while_turns}
use Rattle.interp.proofs.Loops.{cut_exprs, no_exprs, deep_expr, cut_stmts, no_stmts, deep_stmt}
use Rattle.interp.proofs.Nested.{joined_stops, joins_end, joins_more, joins_none}
use Rattle.interp.proofs.Operands.{computed, counted, nth_taken, taken_part}
use Rattle.interp.proofs.+run.Goals as goal

pub conversation::converse-returns-in-Fail-clause-meaning : goal.conversation::converse-returns-in-Fail-clause-meaning
conversation::converse-returns-in-Fail-clause-meaning g t c = c.loop-next.invariant.rest _ _ _
    (Talks.talk_fails c.in_ok-step.ensures.meaning c.in_ok-ask.ensures.ok c.in-Fail.is)

pub conversation::converse-returns-in_err-next-in_default : goal.conversation::converse-returns-in_err-next-in_default
conversation::converse-returns-in_err-next-in_default g t c =
    let p = err_from_is_err_and c.from_residual-in_err-next-in_default.result
    c.from_residual-in_err-next-in_default.ensures.1 in
    record {
      meaning = rw (p.1, p.2) (c.loop-next.invariant.rest _ _ _
          (Talks.talk_stops c.in_ok-step.ensures.meaning c.in_ok-ask.ensures.ok
          c.in_err-next-in_default.ensures.meaning));
      keeps = (
        c.call_back.ensures.keeps.0
            ∙ (c.take_turn.ensures.base ∙ c.loop-next.invariant.base),
        omega
            (arith, c.call_back.ensures.keeps.1, c.step.ensures.fewer, c.loop-next.invariant.fewer),
      );
    }

pub conversation::converse-loop-next-preserved : goal.conversation::converse-loop-next-preserved
conversation::converse-loop-next-preserved g t c = record {
  fewer = omega (arith, c.call_back.ensures.keeps.1, c.step.ensures.fewer, c.loop-next.invariant.fewer);
  base = c.call_back.ensures.keeps.0 ∙ (c.take_turn.ensures.base ∙ c.loop-next.invariant.base);
  rest = λ o w r h. c.loop-next.invariant.rest _ _ _
      (Talks.talk_goes_on c.in_ok-step.ensures.meaning c.in_ok-ask.ensures.ok c.in_ok-next-in_default.ensures.meaning
      h);
}

pub expr::arguments-argument-requires : goal.expr::arguments-argument-requires
expr::arguments-argument-requires g t c κs within =
    let h = deep_expr c.args.list.now c.loop-e.e-index c.e-item.result c.loop-e-test.true c.e-item.is in
    first_of (search rules, grind (arith, common_steps))

pub expr::arguments-returns-in_err-argument-clause-meaning : goal.expr::arguments-returns-in_err-argument-clause-meaning
expr::arguments-returns-in_err-argument-clause-meaning g t c =
    let p = err_from_is_err_and c.from_residual-in_err-argument.result
    c.from_residual-in_err-argument.ensures.1 in
    rw (p.1, p.2) (c.loop-e.invariant.rest _ _ _
    (Vals.vals_stop (cut_exprs c.args.list.now c.loop-e.e-index c.e-item.result c.loop-e-test.true c.e-item.is)
    c.in_err-argument.ensures.meaning))

pub expr::arguments-loop-e-preserved : goal.expr::arguments-loop-e-preserved
expr::arguments-loop-e-preserved g t c = record {
  fewer = search rules;
  base = search rules;
  rest = λ o w r h. c.loop-e.invariant.rest _ _ _
      (Vals.vals_more (cut_exprs c.args.list.now c.loop-e.e-index c.e-item.result c.loop-e-test.true c.e-item.is)
      c.in_ok-argument.ensures.meaning (rw c.in_ok-push-2.ensures at h));
}

pub expr::arguments-returns-clause-meaning : goal.expr::arguments-returns-clause-meaning
expr::arguments-returns-clause-meaning g t c =
    c.loop-e.invariant.rest _ _ _ (Vals.vals_done (no_exprs c.args.list.now c.loop-e.e-index c.loop-e-test.false))

-- a frame that is filled in its place
framed : {f f1 : Frame} {me target : ℕ} (names values : List (List ℕ)) → f ≡ handler_frame me target [] []
    → f1 ≡ handler_frame f.me f.target names values → f1 ≡ handler_frame me target names values
framed names values is bound = bound ∙ ap (λ f. handler_frame f.me f.target names values) is

pub message::along-returns-in-Err-clause-meaning : goal.message::along-returns-in-Err-clause-meaning
message::along-returns-in-Err-clause-meaning g t c =
    let q = ap stmts_of c.deref.ensures.value ∙ ap lines_of c.handler-in-Some.ensures in
    rw c.leaving.ensures (c.loop-world.invariant.rest _ _ _
    (Along.along_stops {fd = c.in-Some.found} (search rules) (first_of (search rules, grind (arith, common_steps)))
    (framed (parameters_of c.in-Some.found.handler) c.args.values.now
    (rw c.object.ensures at c.of_handler-inner.ensures) c.in_ok-bind-in-Some.ensures)
    (rw (c.in-Err.is, q, c.find.ensures.world) at c.run_block-ended.ensures.meaning)))

pub message::along-returns-then-ends_message-clause-meaning :
    goal.message::along-returns-then-ends_message-clause-meaning
message::along-returns-then-ends_message-clause-meaning g t c =
    let q = ap stmts_of c.deref.ensures.value ∙ ap lines_of c.handler-in-Some.ensures in
    c.loop-world.invariant.rest _ _ _
    (Along.along_ends {fd = c.in-Some.found} (search rules) (first_of (search rules, grind (arith, common_steps)))
    (framed (parameters_of c.in-Some.found.handler) c.args.values.now
    (rw c.object.ensures at c.of_handler-inner.ensures) c.in_ok-bind-in-Some.ensures)
    (rw (c.in-Ok.is, q, c.find.ensures.world) at c.run_block-ended.ensures.meaning)
    (c.ends_message.ensures.ended c.if-ends_message.true))

pub message::along-loop-world-preserved : goal.message::along-loop-world-preserved
message::along-loop-world-preserved g t c =
    let q = ap stmts_of c.deref.ensures.value ∙ ap lines_of c.handler-in-Some.ensures in
    let passes = c.ends_message.ensures.passed c.if-ends_message.false in
    let same = c.ends_message.ensures.same c.if-ends_message.false in
    record {
      fewer = omega
          (arith, c.ends_message.ensures.left, c.run_block-ended.ensures.keeps.1, c.loop-world.invariant.fewer);
      base = (rw (c.find.ensures.world) at c.run_block-ended.ensures.keeps.0) ∙ c.loop-world.invariant.base;
      rest = λ o w r h. c.loop-world.invariant.rest _ _ _
          (Along.along_passes {fd = c.in-Some.found} (search rules)
          (first_of (search rules, grind (arith, common_steps)))
          (framed (parameters_of c.in-Some.found.handler) c.args.values.now
          (rw c.object.ensures at c.of_handler-inner.ensures) c.in_ok-bind-in-Some.ensures)
          (rw (c.in-Ok.is, q, passes, c.find.ensures.world) at c.run_block-ended.ensures.meaning)
          (rw (c.stack.ensures.content, c.current.ensures.value, c.object-in-Some.ensures) at c.path_after-rest.ensures)
          (rw same at h));
    }

pub pieces::resolve-returns-in_err-pieces-in-Chunk-clause-meaning :
    goal.pieces::resolve-returns-in_err-pieces-in-Chunk-clause-meaning
pieces::resolve-returns-in_err-pieces-in-Chunk-clause-meaning g t c =
    let p = err_from_is_err_and c.from_residual-in_err-pieces-in-Chunk.result
    c.from_residual-in_err-pieces-in-Chunk.ensures.1 in
    rw (p.1, p.2) (Resolves.place_chunk_stops (sym c.kind.ensures ∙ ap container_of c.in-Chunk.is)
    c.in_err-pieces-in-Chunk.ensures.meaning)

pub stmt::run_block-run_stmt-ended-requires : goal.stmt::run_block-run_stmt-ended-requires
stmt::run_block-run_stmt-ended-requires g t c κs within =
    let h = deep_stmt c.args.lines.now c.loop-stmt.stmt-index c.stmt-item.result c.loop-stmt-test.true c.stmt-item.is in
    first_of (search rules, grind (arith, common_steps))

pub stmt::run_block-returns-in-Err-clause-meaning : goal.stmt::run_block-returns-in-Err-clause-meaning
stmt::run_block-returns-in-Err-clause-meaning g t c =
    rw c.stopping.ensures (c.loop-stmt.invariant.rest _ _ _ _
    (Block.block_no_step (cut_stmts c.args.lines.now c.loop-stmt.stmt-index c.stmt-item.result c.loop-stmt-test.true
    c.stmt-item.is) (rw c.in-Err.is at c.step.ensures.meaning)))

pub stmt::run_block-returns-in-Err-ended-clause-meaning : goal.stmt::run_block-returns-in-Err-ended-clause-meaning
stmt::run_block-returns-in-Err-ended-clause-meaning g t c =
    rw c.stopping-in-Err-ended.ensures (c.loop-stmt.invariant.rest _ _ _ _
    (Block.block_stops (cut_stmts c.args.lines.now c.loop-stmt.stmt-index c.stmt-item.result c.loop-stmt-test.true
    c.stmt-item.is) (rw c.in-Ok.is at c.step.ensures.meaning)
    (rw c.in-Err-ended.is at c.run_stmt-ended.ensures.meaning)))

pub stmt::run_block-returns-then-ends_block-clause-meaning : goal.stmt::run_block-returns-then-ends_block-clause-meaning
stmt::run_block-returns-then-ends_block-clause-meaning g t c =
    c.loop-stmt.invariant.rest _ _ _ _
    (block_ends (cut_stmts c.args.lines.now c.loop-stmt.stmt-index c.stmt-item.result c.loop-stmt-test.true
    c.stmt-item.is) (rw c.in-Ok.is at c.step.ensures.meaning) c.run_stmt-ended.ensures.meaning
    (rw c.if-ends_block.true at (c.ends_block.ensures c.run_stmt-ended.new.returned)))

pub stmt::run_block-loop-stmt-preserved : goal.stmt::run_block-loop-stmt-preserved
stmt::run_block-loop-stmt-preserved g t c = record {
  fewer = search rules;
  base = search rules;
  rest = λ o w r f h. c.loop-stmt.invariant.rest _ _ _ _
      (block_goes_on (cut_stmts c.args.lines.now c.loop-stmt.stmt-index c.stmt-item.result c.loop-stmt-test.true
      c.stmt-item.is) (rw c.in-Ok.is at c.step.ensures.meaning) c.run_stmt-ended.ensures.meaning
      (rw c.if-ends_block.false at (c.ends_block.ensures c.run_stmt-ended.new.returned)) h);
}

pub stmt::run_block-returns-clause-meaning : goal.stmt::run_block-returns-clause-meaning
stmt::run_block-returns-clause-meaning g t c = c.loop-stmt.invariant.rest _ _ _ _
    (Block.block_end (no_stmts c.args.lines.now c.loop-stmt.stmt-index c.loop-stmt-test.false))

pub stmt::when-returns-then-branch-clause-meaning : goal.stmt::when-returns-then-branch-clause-meaning
stmt::when-returns-then-branch-clause-meaning g t c =
    Form.if_true (sym c.form.ensures ∙ ap form_of c.in-Kind-When.is ∙ ap stmt_of c.in-Kind-When.field-0-is)
    c.in_ok-truth_value-in-Kind-When.ensures.meaning c.if-branch.true
    (rw (c.deref-then-branch.ensures.value, c.deref.ensures) at c.run_block.ensures.meaning)

pub stmt::when-returns-else-branch-clause-meaning : goal.stmt::when-returns-else-branch-clause-meaning
stmt::when-returns-else-branch-clause-meaning g t c =
    Form.if_false (sym c.form.ensures ∙ ap form_of c.in-Kind-When.is ∙ ap stmt_of c.in-Kind-When.field-0-is)
    c.in_ok-truth_value-in-Kind-When.ensures.meaning c.if-branch.false
    (rw (c.deref-else-branch-2.ensures.value, c.deref-else-branch.ensures) at c.run_block-else-branch.ensures.meaning)

pub system::systems-returns-in_err-system-clause-meaning : goal.system::systems-returns-in_err-system-clause-meaning
system::systems-returns-in_err-system-clause-meaning g t c =
    let p = err_from_is_err_and c.from_residual.result c.from_residual.ensures.1 in
    rw (p.1, p.2) (c.loop-message.invariant.rest _ _ _
    (Systems.systems_stop (cut_at c.args.messages.now c.loop-message.message-index _ c.loop-message-test.true)
    c.current.ensures.value c.in_err-system.ensures.meaning))

pub system::systems-loop-message-preserved : goal.system::systems-loop-message-preserved
system::systems-loop-message-preserved g t c = record {
  fewer = omega (arith, c.system.ensures.keeps.1, c.loop-message.invariant.fewer);
  base = c.system.ensures.keeps.0 ∙ c.loop-message.invariant.base;
  rest = λ o w r h. c.loop-message.invariant.rest _ _ _
      (Systems.systems_more (cut_at c.args.messages.now c.loop-message.message-index _ c.loop-message-test.true)
      c.current.ensures.value c.in_ok-system.ensures.meaning h);
}

pub system::systems-returns-clause-meaning : goal.system::systems-returns-clause-meaning
system::systems-returns-clause-meaning g t c = rw c.empty.ensures
    (c.loop-message.invariant.rest _ _ _
    (Systems.systems_done (drop_of_length-le c.args.messages.now c.loop-message-test.false)))

pub operators::chain-eval-requires : goal.operators::chain-eval-requires
operators::chain-eval-requires g t c κs within =
    let chain = c.args.operators.now in
    let h = joined_deep (tree.binary chain.op chain.left chain.right) chain.joined.items in
    first_of (search rules, grind (arith, common_steps))

pub operators::chain-eval-requires-2 : goal.operators::chain-eval-requires-2
operators::chain-eval-requires-2 g t c κs within =
    let chain = c.args.operators.now in
    let h = joined_deep (tree.binary chain.op chain.left chain.right) chain.joined.items in
    first_of (search rules, grind (arith, common_steps))

pub operators::chain-join-requires : goal.operators::chain-join-requires
operators::chain-join-requires g t c κs within =
    let chain = c.args.operators.now in
    let i = c.loop-joined.joined-index in
    let j = c.joined-item.result in
    let items = c.deref-joined-items.ensures.value in
    let within_list : i < length chain.joined.items = rw items at c.loop-joined-test.true in
    let is : j ≡ get_or chain.joined.items i j = rw items at c.joined-item.is in
    let h = deep_operand (tree.binary chain.op chain.left chain.right) chain.joined.items i j within_list is in
    first_of (search rules, grind (arith, common_steps))

pub operators::chain-loop-joined-init : goal.operators::chain-loop-joined-init
operators::chain-loop-joined-init g t c =
    let chain = c.args.operators.now in
    record {
      fewer = search rules;
      base = search rules;
      rest = λ o w r h. h (tree.binary chain.op chain.left chain.right) _ _
          (Val.two_operands refl c.in_ok-eval.ensures.meaning c.in_ok-eval-2.ensures.meaning
          c.in_ok-apply_in_chain.ensures);
    }

pub operators::chain-loop-joined-preserved : goal.operators::chain-loop-joined-preserved
operators::chain-loop-joined-preserved g t c =
    let joined = c.args.operators.now.joined.items in
    let i = c.loop-joined.joined-index in
    let j = c.joined-item.result in
    let left = cut_lent joined _ i j c.deref-joined-items.ensures.value c.loop-joined-test.true c.joined-item.is in
    record {
      fewer = search rules;
      base = search rules;
      rest = λ o w r h. c.loop-joined.invariant.rest _ _ _
          (rw left (joins_more _ _ j (drop (i + 1) joined) c.in_ok-join.ensures.meaning h));
    }

pub operators::chain-returns-in_err-join-clause-meaning : goal.operators::chain-returns-in_err-join-clause-meaning
operators::chain-returns-in_err-join-clause-meaning g t c =
    let joined = c.args.operators.now.joined.items in
    let i = c.loop-joined.joined-index in
    let j = c.joined-item.result in
    let left = cut_lent joined _ i j c.deref-joined-items.ensures.value c.loop-joined-test.true c.joined-item.is in
    let p = err_from_is_err_and c.from_residual-in_err-join.result c.from_residual-in_err-join.ensures.1 in
    rw (p.1, p.2) (c.loop-joined.invariant.rest _ _ _
    (rw left (joins_end _ j (drop (i + 1) joined) c.in_err-join.ensures.meaning)))

pub operators::chain-returns-in_err-eval-clause-meaning : goal.operators::chain-returns-in_err-eval-clause-meaning
operators::chain-returns-in_err-eval-clause-meaning g t c =
    let chain = c.args.operators.now in
    let p = err_from_is_err_and c.from_residual.result c.from_residual.ensures.1 in
    rw (p.1, p.2) (joined_stops (tree.binary chain.op chain.left chain.right) chain.joined.items
    (Val.left_stops refl c.in_err-eval.ensures.meaning))

pub operators::chain-returns-in_err-eval-2-clause-meaning : goal.operators::chain-returns-in_err-eval-2-clause-meaning
operators::chain-returns-in_err-eval-2-clause-meaning g t c =
    let chain = c.args.operators.now in
    let p = err_from_is_err_and c.from_residual-in_err-eval-2.result c.from_residual-in_err-eval-2.ensures.1 in
    rw (p.1, p.2) (joined_stops (tree.binary chain.op chain.left chain.right) chain.joined.items
    (Val.right_stops refl c.in_ok-eval.ensures.meaning c.in_err-eval-2.ensures.meaning))

pub operators::chain-returns-in_err-apply_in_chain-clause-meaning :
    goal.operators::chain-returns-in_err-apply_in_chain-clause-meaning
operators::chain-returns-in_err-apply_in_chain-clause-meaning g t c =
    let chain = c.args.operators.now in
    let p = err_from_is_err_and c.from_residual-in_err-apply_in_chain.result c.from_residual-in_err-apply_in_chain.ensures.1 in
    rw (p.1, p.2) (joined_stops (tree.binary chain.op chain.left chain.right) chain.joined.items
    (Val.two_operands refl c.in_ok-eval.ensures.meaning c.in_ok-eval-2.ensures.meaning c.in_err-apply_in_chain.ensures))

pub operators::chain-returns-clause-meaning : goal.operators::chain-returns-clause-meaning
operators::chain-returns-clause-meaning g t c =
    let chain = c.args.operators.now in
    let items = c.deref-joined-items.ensures.value in
    let over : drop c.loop-joined.joined-index chain.joined.items ≡ [] =
    drop_of_length-le chain.joined.items (rw items at c.loop-joined-test.false) in
    rw c.fit-2.ensures (c.loop-joined.invariant.rest _ _ _ (rw over (joins_none _)))

pub expr::count_of_pieces-returns-clause-meaning : goal.expr::count_of_pieces-returns-clause-meaning
expr::count_of_pieces-returns-clause-meaning g t c =
    let form = ap expr_of c.in-NumberOf.is ∙ ap (λ n. tree.number_of (count_of n)) c.in-PiecesOf.is in
    counted c.in_ok-text-in-PiecesOf.text c.in_ok-text-in-PiecesOf.ensures.meaning form c.operand_count.ensures

pub functions::lent_function-returns-in-Some-clause-meaning : goal.functions::lent_function-returns-in-Some-clause-meaning
functions::lent_function-returns-in-Some-clause-meaning g t c =
    let named = sym c.func.ensures ∙ c.in-Some.is in
    rw (ap expr_of c.in-Function.is)
    (computed c.in_ok-x-in-Function.x c.in_ok-x-in-Function.ensures.meaning named c.call_of_operand.ensures)

pub expr::nth_piece_of-returns-clause-meaning : goal.expr::nth_piece_of-returns-clause-meaning
expr::nth_piece_of-returns-clause-meaning g t c =
    let f = c.in-Chunk-NthPiece-default in
    let form : expr_of c.args.kind.now ≡ tree.chunk (tree.nth_piece f.ordinal f.pieces) f.text =
    ap expr_of f.is ∙ ap (λ h. tree.chunk (chunk_of h) f.text) (rw f.is at f.field-0-is) in
    let x = c.in_ok-text-in-Chunk-NthPiece-default in
    rw form (nth_taken x.text x.ensures.meaning c.nth_piece.ensures c.operand_part.ensures)

pub expr::lent_part-returns-clause-meaning : goal.expr::lent_part-returns-clause-meaning
expr::lent_part-returns-clause-meaning g t c =
    let from : SFits w64 c.args.from = search rules in
    let to : SFits w64 c.args.to = search rules in
    rw (to_z-of_z w64 c.args.from from, to_z-of_z w64 c.args.to to) at
    (taken_part c.in_ok-text.text c.in_ok-text.ensures.meaning c.pieces_at.ensures c.operand_part.ensures)

pub repeat::endless_turns-loop-world-preserved :
    goal.repeat::endless_turns-loop-world-preserved
repeat::endless_turns-loop-world-preserved g t c = record {
  fewer = search rules;
  base = search rules;
  rest = λ o w r f h. c.loop-world.invariant.rest _ _ _ _
      (endless_turns c.in_ok-step.ensures.meaning c.run_block-ended.ensures.meaning
      (rw c.if-ends_repeat.false at (c.ends_repeat.ensures c.run_block-ended.new.returned)) h);
}

pub repeat::turns_while-loop-world-preserved :
    goal.repeat::turns_while-loop-world-preserved
repeat::turns_while-loop-world-preserved g t c = record {
  fewer = search rules;
  base = search rules;
  rest = λ o w r f h. c.loop-world.invariant.rest _ _ _ _
      (while_turns c.in_ok-step.ensures.meaning c.in_ok-truth.ensures.meaning (search rules)
      c.run_block-ended.ensures.meaning
      (rw c.if-ends_repeat.false at (c.ends_repeat.ensures c.run_block-ended.new.returned)) h);
}

pub repeat::turns-loop-turn-preserved : goal.repeat::turns-loop-turn-preserved
repeat::turns-loop-turn-preserved g t c = record {
  fewer = search rules;
  base = search rules;
  rest = λ o w r f h. c.loop-turn.invariant.rest _ _ _ _
      (counts_turn c.in_ok-step.ensures.meaning (search rules) c.in_ok-assign.ensures.meaning
      c.run_block-ended.ensures.meaning
      (rw c.if-ends_repeat.false at (c.ends_repeat.ensures c.run_block-ended.new.returned)) (search rules) h);
}

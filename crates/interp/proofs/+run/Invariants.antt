-- What falls in each call of the cycle, and what its loops keep. A message, a turn of an external and `value` take a
-- step; `do` and what they run goes one level deeper; all else goes into a part of a tree.
use Rattle.std.proofs.Common.{◌≡◌, ◌≤◌, ℕ, List, drop, ◌+◌, ◌-◌, ◌*◌, max, Result, option_copied}
use Rattle.ht_grammar.specs.Depth.{depth, depths, chunk_depth, container_depth, destination_depth, owner_depth}
use Rattle.ht_grammar.specs.Depth.{part_depth, ref_depth, selector_depth, stmt_depth, stmts_depth}
use Rattle.ht_tree.specs.View.{chunk_of, expr_of, exprs_of, owner_of, part_of, ref_of, selector_of}
use Rattle.ht_tree.specs.View.{binary_of, chain_of, left_nested_of, right_nested_of, unary_of}
use Rattle.ht_tree.specs.StatementView.{destination_of, stmts_of}
use Rattle.change_journal.specs.History.{History}
use Rattle.containers.specs.Base.{base}
use Rattle.meaning.specs.declared.end.Conversed.{Conversed}
use Rattle.meaning.specs.declared.end.How.{How}
use Rattle.meaning.specs.declared.end.Stop.{Stop}
use Rattle.meaning.specs.declared.frame.Frame.{Frame}
use Rattle.meaning.specs.State.{RunState}
use Rattle.meaning.specs.Meaning.{Val, Vals, Block, Endless, While, Counts, Along, Systems, Converses, Talks}
use Rattle.interp.proofs.Nested.{Joins}
use Rattle.interp.proofs.+run.Given as goal

-- A step that is left counts for more than the calls that may be nested, a call for more than a tree is deep, and a
-- level of a tree for more than the order of the functions that work at one place of it: what an expression is asked,
-- 100 and more; what a statement is, 2001 and more; what asks for neither, below 20.
abbrev rank : RunState → ℕ → ℕ → ℕ → ℕ
rank run nested depth order = 1000000 * run.left + 4000 * (100 - nested) + 8 * depth + order

abbrev pub decreases-expr::eval_bare : goal.decreases-expr::eval_bare
decreases-expr::eval_bare g l = rank l.run.now l.nested (depth l.e.now) 102

abbrev pub decreases-expr::eval : goal.decreases-expr::eval
decreases-expr::eval g l = rank l.run.now l.nested (depth l.e.now) 103

abbrev pub decreases-expr::eval_whole : goal.decreases-expr::eval_whole
decreases-expr::eval_whole g l = rank l.run.now l.nested (depth l.e.now) 104

abbrev pub decreases-expr::value_of : goal.decreases-expr::value_of
decreases-expr::value_of g l = rank l.run.now l.nested (depth l.e.now) 105

abbrev pub decreases-expr::eval_text : goal.decreases-expr::eval_text
decreases-expr::eval_text g l = rank l.run.now l.nested (depth l.e.now) 105

abbrev pub decreases-operators::binary : goal.decreases-operators::binary
decreases-operators::binary g l = rank l.run.now l.nested (depth (binary_of l.joined.now)) 101

abbrev pub decreases-operators::operands : goal.decreases-operators::operands
decreases-operators::operands g l = rank l.run.now l.nested (max (depth l.left.now) (depth l.right.now)) 106

abbrev pub decreases-operators::left_nested : goal.decreases-operators::left_nested
decreases-operators::left_nested g l = rank l.run.now l.nested (depth (left_nested_of l.both.now)) 101

abbrev pub decreases-operators::right_nested : goal.decreases-operators::right_nested
decreases-operators::right_nested g l = rank l.run.now l.nested (depth (right_nested_of l.both.now)) 101

abbrev pub decreases-operators::chain : goal.decreases-operators::chain
decreases-operators::chain g l = rank l.run.now l.nested (depth (chain_of l.operators.now)) 101

abbrev pub decreases-operators::join : goal.decreases-operators::join
decreases-operators::join g l = rank l.run.now l.nested (depth l.e.now) 104

abbrev pub decreases-operators::join_last : goal.decreases-operators::join_last
decreases-operators::join_last g l = rank l.run.now l.nested (depth l.e.now) 104

abbrev pub decreases-operators::unary : goal.decreases-operators::unary
decreases-operators::unary g l = rank l.run.now l.nested (depth (unary_of l.operator.now)) 101

abbrev pub decreases-expr::meet_operand : goal.decreases-expr::meet_operand
decreases-expr::meet_operand g l = rank l.run.now l.nested (depth l.e.now) 104

abbrev pub decreases-expr::there_is : goal.decreases-expr::there_is
decreases-expr::there_is g l = rank l.run.now l.nested (depth (expr_of l.kind.now)) 101

abbrev pub decreases-expr::field_of : goal.decreases-expr::field_of
decreases-expr::field_of g l = rank l.run.now l.nested (part_depth (part_of l.part.now)) 101

abbrev pub decreases-expr::property_of : goal.decreases-expr::property_of
decreases-expr::property_of g l = rank l.run.now l.nested (depth (expr_of l.kind.now)) 101

abbrev pub decreases-expr::count_of_pieces : goal.decreases-expr::count_of_pieces
decreases-expr::count_of_pieces g l = rank l.run.now l.nested (depth (expr_of l.kind.now)) 101

abbrev pub decreases-expr::number_of_object : goal.decreases-expr::number_of_object
decreases-expr::number_of_object g l = rank l.run.now l.nested (ref_depth (ref_of l.reference.now)) 104

abbrev pub decreases-functions::lent_function : goal.decreases-functions::lent_function
decreases-functions::lent_function g l = rank l.run.now l.nested (depth (expr_of l.kind.now)) 100

abbrev pub decreases-functions::function_over : goal.decreases-functions::function_over
decreases-functions::function_over g l = rank l.run.now l.nested 0 2

abbrev pub decreases-expr::piece_of : goal.decreases-expr::piece_of
decreases-expr::piece_of g l = rank l.run.now l.nested (depth (expr_of l.kind.now)) 101

abbrev pub decreases-expr::pieces_of : goal.decreases-expr::pieces_of
decreases-expr::pieces_of g l = rank l.run.now l.nested (depth (expr_of l.kind.now)) 101

abbrev pub decreases-expr::nth_piece_of : goal.decreases-expr::nth_piece_of
decreases-expr::nth_piece_of g l = rank l.run.now l.nested (depth (expr_of l.kind.now)) 101

abbrev pub decreases-expr::part_of : goal.decreases-expr::part_of
decreases-expr::part_of g l = rank l.run.now l.nested (depth l.text.now) 106

abbrev pub decreases-expr::lent_part : goal.decreases-expr::lent_part
decreases-expr::lent_part g l = rank l.run.now l.nested (depth l.text.now) 105

abbrev pub decreases-pieces::pieces : goal.decreases-pieces::pieces
decreases-pieces::pieces g l = rank l.run.now l.nested (chunk_depth (chunk_of l.chunk.now)) 106

abbrev pub decreases-numbers::number_value : goal.decreases-numbers::number_value
decreases-numbers::number_value g l = rank l.run.now l.nested (depth l.e.now) 105

abbrev pub decreases-numbers::plain_number : goal.decreases-numbers::plain_number
decreases-numbers::plain_number g l = rank l.run.now l.nested (depth l.e.now) 104

abbrev pub decreases-numbers::piece_number : goal.decreases-numbers::piece_number
decreases-numbers::piece_number g l = rank l.run.now l.nested (max (depth l.index.now) (depth l.text.now)) 108

abbrev pub decreases-numbers::pieces_number : goal.decreases-numbers::pieces_number
decreases-numbers::pieces_number g l =
    rank l.run.now l.nested (max (max (depth l.first.now) (depth l.last.now)) (depth l.text.now)) 108

abbrev pub decreases-numbers::part_number : goal.decreases-numbers::part_number
decreases-numbers::part_number g l = rank l.run.now l.nested (depth l.text.now) 107

abbrev pub decreases-expr::truth_value : goal.decreases-expr::truth_value
decreases-expr::truth_value g l = rank l.run.now l.nested (depth l.e.now) 104

abbrev pub decreases-reference::meet_part : goal.decreases-reference::meet_part
decreases-reference::meet_part g l = rank l.run.now l.nested (part_depth (part_of l.part.now)) 100

abbrev pub decreases-reference::meet : goal.decreases-reference::meet
decreases-reference::meet g l = rank l.run.now l.nested (ref_depth (ref_of l.reference.now)) 102

abbrev pub decreases-reference::scope : goal.decreases-reference::scope
decreases-reference::scope g l = rank l.run.now l.nested (owner_depth (owner_of l.owner.now)) 100

abbrev pub decreases-reference::plain_part : goal.decreases-reference::plain_part
decreases-reference::plain_part g l = rank l.run.now l.nested (owner_depth (owner_of l.owner.now)) 101

abbrev pub decreases-reference::nth_part : goal.decreases-reference::nth_part
decreases-reference::nth_part g l = rank l.run.now l.nested (owner_depth (owner_of l.owner.now)) 101

abbrev pub decreases-reference::seek : goal.decreases-reference::seek
decreases-reference::seek g l = rank l.run.now l.nested (selector_depth (selector_of l.selector.now)) 106

abbrev pub decreases-reference::lead : goal.decreases-reference::lead
decreases-reference::lead g l = rank l.run.now l.nested (destination_depth (destination_of l.destination.now)) 100

abbrev pub decreases-functions::function_of : goal.decreases-functions::function_of
decreases-functions::function_of g l = rank l.run.now l.nested (depth (expr_of l.kind.now)) 101

abbrev pub decreases-functions::text_value : goal.decreases-functions::text_value
decreases-functions::text_value g l = rank l.run.now l.nested 0 1

abbrev pub decreases-message::calls : goal.decreases-message::calls
decreases-message::calls g l = rank l.run.now l.nested (depths (exprs_of l.list.now.items.items)) 107

abbrev pub decreases-message::calls_bare : goal.decreases-message::calls_bare
decreases-message::calls_bare g l = rank l.run.now l.nested 0 11

abbrev pub decreases-message::calls_of : goal.decreases-message::calls_of
decreases-message::calls_of g l = rank l.run.now l.nested (depth l.only.now) 106

abbrev pub decreases-expr::arguments : goal.decreases-expr::arguments
decreases-expr::arguments g l = rank l.run.now l.nested (depths (exprs_of l.list.now)) 106

abbrev pub decreases-expr::argument : goal.decreases-expr::argument
decreases-expr::argument g l = rank l.run.now l.nested (depth l.e.now) 105

abbrev pub decreases-message::send : goal.decreases-message::send
decreases-message::send g l = rank l.run.now l.nested 0 10

abbrev pub decreases-system::system : goal.decreases-system::system
decreases-system::system g l = rank l.run.now l.nested 0 11

abbrev pub decreases-system::systems : goal.decreases-system::systems
decreases-system::systems g l = rank l.run.now l.nested 0 12

abbrev pub decreases-system::go : goal.decreases-system::go
decreases-system::go g l = rank l.run.now l.nested 0 13

abbrev pub decreases-system::menu : goal.decreases-system::menu
decreases-system::menu g l = rank l.run.now l.nested 0 13

abbrev pub decreases-message::answer : goal.decreases-message::answer
decreases-message::answer g l = rank l.run.now l.nested 0 14

abbrev pub decreases-message::outside : goal.decreases-message::outside
decreases-message::outside g l = rank l.run.now l.nested 0 15

abbrev pub decreases-message::along : goal.decreases-message::along
decreases-message::along g l = rank l.run.now l.nested 0 16

abbrev pub decreases-conversation::converse : goal.decreases-conversation::converse
decreases-conversation::converse g l = rank l.run.now l.nested 0 9

abbrev pub decreases-conversation::call_back : goal.decreases-conversation::call_back
decreases-conversation::call_back g l = rank l.run.now l.nested 0 3000

abbrev pub decreases-pieces::resolve : goal.decreases-pieces::resolve
decreases-pieces::resolve g l = rank l.run.now l.nested (container_depth l.container.now) 107

abbrev pub decreases-stmt::run_block : goal.decreases-stmt::run_block
decreases-stmt::run_block g l = rank l.run.now l.nested (stmts_depth (stmts_of l.lines.now)) 2003

abbrev pub decreases-stmt::run_stmt : goal.decreases-stmt::run_stmt
decreases-stmt::run_stmt g l = rank l.run.now l.nested (stmt_depth l.stmt.now) 2002

abbrev pub decreases-stmt::run_plain : goal.decreases-stmt::run_plain
decreases-stmt::run_plain g l = rank l.run.now l.nested (stmt_depth l.stmt.now) 2001

abbrev pub decreases-pieces::edit_container : goal.decreases-pieces::edit_container
decreases-pieces::edit_container g l = rank l.run.now l.nested (container_depth l.container.now) 108

abbrev pub decreases-stmt::put : goal.decreases-stmt::put
decreases-stmt::put g l = rank l.run.now l.nested (max (depth l.value.now) (container_depth l.container.now)) 2003

abbrev pub decreases-stmt::alter : goal.decreases-stmt::alter
decreases-stmt::alter g l = rank l.run.now l.nested (max (depth l.value.now) (container_depth l.container.now)) 2003

abbrev pub decreases-stmt::set : goal.decreases-stmt::set
decreases-stmt::set g l = rank l.run.now l.nested (max (ref_depth (ref_of l.reference.now)) (depth l.value.now)) 2003

abbrev pub decreases-stmt::delete : goal.decreases-stmt::delete
decreases-stmt::delete g l =
    rank l.run.now l.nested (max (chunk_depth (chunk_of l.chunk.now)) (container_depth l.container.now)) 2003

abbrev pub decreases-stmt::run_do : goal.decreases-stmt::run_do
decreases-stmt::run_do g l = rank l.run.now l.nested (depth l.text.now) 2003

abbrev pub decreases-stmt::run_send : goal.decreases-stmt::run_send
decreases-stmt::run_send g l =
    rank l.run.now l.nested (max (depth l.text.now) (ref_depth (ref_of l.reference.now))) 2003

abbrev pub decreases-stmt::run_go : goal.decreases-stmt::run_go
decreases-stmt::run_go g l = rank l.run.now l.nested (destination_depth (destination_of l.destination.now)) 2003

abbrev pub decreases-stmt::when : goal.decreases-stmt::when
decreases-stmt::when g l = rank l.run.now l.nested (stmt_depth l.stmt.now) 2001

abbrev pub decreases-repeat::repeat_times : goal.decreases-repeat::repeat_times
decreases-repeat::repeat_times g l = rank l.run.now l.nested (stmt_depth l.stmt.now) 2001

abbrev pub decreases-repeat::repeat_counted : goal.decreases-repeat::repeat_counted
decreases-repeat::repeat_counted g l = rank l.run.now l.nested (stmt_depth l.stmt.now) 2001

abbrev pub decreases-repeat::bounds : goal.decreases-repeat::bounds
decreases-repeat::bounds g l = rank l.run.now l.nested (max (depth l.from.now) (depth l.to.now)) 105

abbrev pub decreases-repeat::repeat_forever : goal.decreases-repeat::repeat_forever
decreases-repeat::repeat_forever g l = rank l.run.now l.nested (stmt_depth l.stmt.now) 2001

abbrev pub decreases-repeat::repeat_while : goal.decreases-repeat::repeat_while
decreases-repeat::repeat_while g l = rank l.run.now l.nested (stmt_depth l.stmt.now) 2001

abbrev pub decreases-repeat::counted_turns : goal.decreases-repeat::counted_turns
decreases-repeat::counted_turns g l =
    rank l.run.now l.nested (max (max (depth l.from.now) (depth l.to.now))
    (stmts_depth (stmts_of l.lines.now.items.items))) 2006

abbrev pub decreases-repeat::endless_turns : goal.decreases-repeat::endless_turns
decreases-repeat::endless_turns g l = rank l.run.now l.nested (stmts_depth (stmts_of l.lines.now)) 2005

abbrev pub decreases-repeat::turns_while : goal.decreases-repeat::turns_while
decreases-repeat::turns_while g l =
    rank l.run.now l.nested (max (depth l.condition.now) (stmts_depth (stmts_of l.lines.now))) 2005

abbrev pub decreases-repeat::turns : goal.decreases-repeat::turns
decreases-repeat::turns g l = rank l.run.now l.nested (stmts_depth (stmts_of l.lines.now)) 2005

abbrev pub invariant-expr::arguments-loop-e : goal.invariant-expr::arguments-loop-e
invariant-expr::arguments-loop-e g l = record {
  fewer : l.run.left ≤ l.fn.run.left;
  base : base l.world.history ≡ base l.fn.world.history;
  rest : (o : Result (List (List ℕ)) Stop) (w : History) (r : RunState) →
      Vals l.world.history l.run l.frame l.nested (exprs_of (drop l.e-index l.list)) l.values o w r →
      Vals l.fn.world.history l.fn.run l.frame l.nested (exprs_of l.list) l.fn.values o w r;
}

abbrev pub invariant-operators::chain-loop-joined : goal.invariant-operators::chain-loop-joined
invariant-operators::chain-loop-joined g l = record {
  fewer : l.run.left ≤ l.fn.run.left;
  base : base l.world.history ≡ base l.fn.world.history;
  rest : (o : Result (List ℕ) Stop) (w : History) (r : RunState) →
      Joins l.world.history l.run l.frame l.nested l.value (drop l.joined-index l.operators.joined.items) o w r →
      Val l.fn.world.history l.fn.run l.frame l.nested (chain_of l.operators) o w r;
}

abbrev pub invariant-stmt::run_block-loop-stmt : goal.invariant-stmt::run_block-loop-stmt
invariant-stmt::run_block-loop-stmt g l = record {
  fewer : l.run.left ≤ l.fn.run.left;
  base : base l.world.history ≡ base l.fn.world.history;
  rest : (o : Result How Stop) (w : History) (r : RunState) (f : Frame) →
      Block l.world.history l.run l.frame l.nested (stmts_of (drop l.stmt-index l.lines)) o w r f →
      Block l.fn.world.history l.fn.run l.fn.frame l.nested (stmts_of l.lines) o w r f;
}

abbrev pub invariant-repeat::endless_turns-loop-world : goal.invariant-repeat::endless_turns-loop-world
invariant-repeat::endless_turns-loop-world g l = record {
  fewer : l.run.left ≤ l.fn.run.left;
  base : base l.world.history ≡ base l.fn.world.history;
  rest : (o : Result How Stop) (w : History) (r : RunState) (f : Frame) →
      Endless l.world.history l.run l.frame l.nested (stmts_of l.lines) o w r f →
      Endless l.fn.world.history l.fn.run l.fn.frame l.nested (stmts_of l.lines) o w r f;
}

abbrev pub decreases-repeat::endless_turns-loop-world : goal.decreases-repeat::endless_turns-loop-world
decreases-repeat::endless_turns-loop-world g l = l.run.left

abbrev pub invariant-repeat::turns_while-loop-world : goal.invariant-repeat::turns_while-loop-world
invariant-repeat::turns_while-loop-world g l = record {
  fewer : l.run.left ≤ l.fn.run.left;
  base : base l.world.history ≡ base l.fn.world.history;
  rest : (o : Result How Stop) (w : History) (r : RunState) (f : Frame) →
      While l.world.history l.run l.frame l.nested l.wanted l.condition (stmts_of l.lines) o w r f →
      While l.fn.world.history l.fn.run l.fn.frame l.nested l.wanted l.condition (stmts_of l.lines) o w r f;
}

abbrev pub decreases-repeat::turns_while-loop-world : goal.decreases-repeat::turns_while-loop-world
decreases-repeat::turns_while-loop-world g l = l.run.left

abbrev pub invariant-repeat::turns-loop-turn : goal.invariant-repeat::turns-loop-turn
invariant-repeat::turns-loop-turn g l = record {
  fewer : l.run.left ≤ l.fn.run.left;
  base : base l.world.history ≡ base l.fn.world.history;
  rest : (o : Result How Stop) (w : History) (r : RunState) (f : Frame) →
      Counts l.world.history l.run l.frame l.nested (option_copied l.variable) l.turn (stmts_of l.lines) o w r f →
      Counts l.fn.world.history l.fn.run l.fn.frame l.nested (option_copied l.variable) l.fn.counter (stmts_of l.lines)
      o w r f;
}

abbrev pub decreases-repeat::turns-loop-turn : goal.decreases-repeat::turns-loop-turn
decreases-repeat::turns-loop-turn g l = l.run.left

abbrev pub invariant-message::along-loop-world : goal.invariant-message::along-loop-world
invariant-message::along-loop-world g l = record {
  fewer : l.run.left ≤ l.fn.run.left;
  base : base l.world.history ≡ base l.fn.world.history;
  rest : (o : Result (List ℕ) Stop) (w : History) (r : RunState) →
      Along l.world.history l.run l.frame l.nested l.object l.rest l.name l.values l.kind o w r →
      Along l.fn.world.history l.fn.run l.frame l.nested l.object l.fn.path l.name l.values l.kind o w r;
}

abbrev pub decreases-message::along-loop-world : goal.decreases-message::along-loop-world
decreases-message::along-loop-world g l = l.run.left

abbrev pub invariant-system::systems-loop-message : goal.invariant-system::systems-loop-message
invariant-system::systems-loop-message g l = record {
  fewer : l.run.left ≤ l.fn.run.left;
  base : base l.world.history ≡ base l.fn.world.history;
  rest : (o : Result (List ℕ) Stop) (w : History) (r : RunState) →
      Systems l.world.history l.run l.frame l.nested (drop l.message-index l.messages) o w r →
      Systems l.fn.world.history l.fn.run l.frame l.nested l.messages o w r;
}

abbrev pub invariant-conversation::converse-loop-next : goal.invariant-conversation::converse-loop-next
invariant-conversation::converse-loop-next g l = record {
  fewer : l.run.left ≤ l.fn.run.left;
  base : base l.world.history ≡ base l.fn.world.history;
  rest : (o : Result Conversed Stop) (w : History) (r : RunState) →
      Talks l.world.history l.run (l.nested + 1) l.number l.next o w r →
      Converses l.fn.world.history l.fn.run l.nested l.number l.values o w r;
}

abbrev pub decreases-conversation::converse-loop-next : goal.decreases-conversation::converse-loop-next
decreases-conversation::converse-loop-next g l = l.run.left

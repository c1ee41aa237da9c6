use Rattle.std.proofs.Common.{◌≤◌, ◌+◌, ◌*◌, max, length}
use Rattle.ht_grammar.specs.Depth.{depth, depths, chunk_depth, which_depth, selector_depth, owner_depth, part_depth}
use Rattle.ht_grammar.specs.Depth.{ref_depth, count_depth}
use Rattle.ht_tree.specs.View.{expr_of, exprs_of, chunk_of, which_of, selector_of, owner_of, part_of, ref_of, count_of}
use Rattle.ht_tree.specs.View.{chain_of}
use Rattle.rows.proofs.trees.expression.+print.Given as goal

abbrev pub decreases-print_expr : goal.decreases-print_expr
decreases-print_expr l = 16 * depth l.expr.now + 9

abbrev pub decreases-print_binary : goal.decreases-print_binary
decreases-print_binary l = 16 * max (depth l.left.now) (depth l.right.now) + 10

abbrev pub decreases-print_chain : goal.decreases-print_chain
decreases-print_chain l = 16 * depth (chain_of l.chain.now) + 8

abbrev pub decreases-print_call : goal.decreases-print_call
decreases-print_call l = 16 * depths (exprs_of l.arguments.now.items.items) + 11

abbrev pub decreases-print_call_of : goal.decreases-print_call_of
decreases-print_call_of l = 16 * depth l.argument.now + 10

abbrev pub decreases-print_kind : goal.decreases-print_kind
decreases-print_kind l = 16 * depth (expr_of l.kind.now) + 8

abbrev pub decreases-print_exprs : goal.decreases-print_exprs
decreases-print_exprs l = 16 * depths (exprs_of l.exprs.now.items.items) + 10

abbrev pub decreases-print_chunk : goal.decreases-print_chunk
decreases-print_chunk l = 16 * chunk_depth (chunk_of l.chunk.now) + 10

abbrev pub decreases-print_which : goal.decreases-print_which
decreases-print_which l = 16 * which_depth (which_of l.which.now) + 10

abbrev pub decreases-print_selector : goal.decreases-print_selector
decreases-print_selector l = 16 * selector_depth (selector_of l.selector.now) + 11

abbrev pub decreases-print_owner : goal.decreases-print_owner
decreases-print_owner l = 16 * owner_depth (owner_of l.owner.now)

abbrev pub decreases-print_part : goal.decreases-print_part
decreases-print_part l = 16 * part_depth (part_of l.part.now) + 7

abbrev pub decreases-print_ref : goal.decreases-print_ref
decreases-print_ref l = 16 * ref_depth (ref_of l.reference.now) + 12

abbrev pub decreases-print_count : goal.decreases-print_count
decreases-print_count l = 16 * count_depth (count_of l.count.now) + 13

abbrev pub invariant-print_exprs-loop-rest : goal.invariant-print_exprs-loop-rest
invariant-print_exprs-loop-rest l = depths (exprs_of l.rest) ≤ depths (exprs_of l.exprs.items.items)

abbrev pub decreases-print_exprs-loop-rest : goal.decreases-print_exprs-loop-rest
decreases-print_exprs-loop-rest l = length l.rest

use Rattle.std.proofs.Common.{◌≤◌, ◌+◌, ◌*◌, length}
use Rattle.ht_grammar.specs.Depth.{stmt_depth, stmts_depth}
use Rattle.ht_tree.specs.StatementView.{stmts_of}
use Rattle.rows.proofs.trees.statement.+print_lines.Given as goal

abbrev pub decreases-print_stmt : goal.decreases-print_stmt
decreases-print_stmt l = 2 * stmt_depth l.stmt.now

abbrev pub decreases-print_lines : goal.decreases-print_lines
decreases-print_lines l = 2 * stmts_depth (stmts_of l.lines.now.items.items) + 1

abbrev pub invariant-print_lines-loop-rest : goal.invariant-print_lines-loop-rest
invariant-print_lines-loop-rest l = stmts_depth (stmts_of l.rest) ≤ stmts_depth (stmts_of l.lines.items.items)

abbrev pub decreases-print_lines-loop-rest : goal.decreases-print_lines-loop-rest
decreases-print_lines-loop-rest l = length l.rest

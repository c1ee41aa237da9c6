use Rattle.std.proofs.Common.{◌≡◌, ◌≤◌, max, length}
use Rattle.ht_grammar.specs.Depth.{stmts_depth, max_depth}
use Rattle.ht_tree.specs.StatementView.{stmts_of}
use Rattle.ht_tree.proofs.statement.Stmts.depth.Given as goal

abbrev pub invariant-loop-rest : goal.invariant-loop-rest
invariant-loop-rest l = (max l.deepest (stmts_depth (stmts_of l.rest)) ≡ stmts_depth (stmts_of l.self.items.items))
    × (l.deepest ≤ max_depth)

abbrev pub decreases-loop-rest : goal.decreases-loop-rest
decreases-loop-rest l = length l.rest

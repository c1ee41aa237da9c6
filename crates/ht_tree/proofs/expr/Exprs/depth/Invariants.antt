use Rattle.std.proofs.Common.{◌≡◌, ◌≤◌, max, length}
use Rattle.ht_grammar.specs.Depth.{depths, max_depth}
use Rattle.ht_tree.specs.View.{exprs_of}
use Rattle.ht_tree.proofs.expr.Exprs.depth.Given as goal

abbrev pub invariant-loop-rest : goal.invariant-loop-rest
invariant-loop-rest l =
    (max l.deepest (depths (exprs_of l.rest)) ≡ depths (exprs_of l.self.items.items)) × (l.deepest ≤ max_depth)

abbrev pub decreases-loop-rest : goal.decreases-loop-rest
decreases-loop-rest l = length l.rest

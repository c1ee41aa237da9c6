use Rattle.std.proofs.Common.{◌≡◌, ◌≤◌, max, length}
use Rattle.ht_grammar.specs.Depth.{handlers_depth, max_depth}
use Rattle.ht_tree.specs.ScriptView.{handlers_of}
use Rattle.ht_tree.proofs.script.Script.depth.Given as goal

abbrev pub invariant-loop-rest : goal.invariant-loop-rest
invariant-loop-rest l = (max l.deepest (handlers_depth (handlers_of l.rest))
    ≡ handlers_depth (handlers_of l.self.handlers.items)) × (l.deepest ≤ max_depth)

abbrev pub decreases-loop-rest : goal.decreases-loop-rest
decreases-loop-rest l = length l.rest

-- What falls in each call of the cycle, and what its loop keeps.
use Rattle.std.proofs.Common.{ℤ, ◌+◌, ◌*◌, drop}
use Rattle.ht_grammar.specs.Depth.{depth}
use Rattle.ht_tree.specs.View.{chain_of}
use Rattle.primitives.proofs.Kept.{Computes, IsNumber}
use Rattle.primitives.proofs.numbers.+sums.Given as goal

abbrev pub decreases-number_of_chain : goal.decreases-number_of_chain
decreases-number_of_chain g l = 4 * depth (chain_of l.chain.now)

abbrev pub decreases-number_at_once : goal.decreases-number_at_once
decreases-number_at_once g l = 4 * depth l.e.now + 1

abbrev pub decreases-number_of_operand : goal.decreases-number_of_operand
decreases-number_of_operand g l = 4 * depth l.e.now + 2

abbrev pub invariant-number_of_chain-loop-joined : goal.invariant-number_of_chain-loop-joined
invariant-number_of_chain-loop-joined g l = (n : ℤ)
    → Computes l.world.history l.frame l.number (drop l.joined-index l.chain.joined.items) n
    → IsNumber l.world.history l.frame (chain_of l.chain) n

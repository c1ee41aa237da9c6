use Rattle.std.proofs.Common.{◌≤◌, ℕ, List, Result}
use Rattle.ht_grammar.specs.Depth.{depth}
use Rattle.change_journal.specs.History.{History}
use Rattle.meaning.specs.declared.end.Stop.{Stop}
use Rattle.meaning.specs.declared.frame.Frame.{Frame}
use Rattle.meaning.specs.Meaning.{Val}
use Rattle.meaning.specs.State.{RunState}
use Rattle.primitives.proofs.parens.bare.Given as goal

abbrev pub invariant-loop-inner : goal.invariant-loop-inner
invariant-loop-inner l = record {
  value : (w w1 : History) (r r1 : RunState) (f : Frame) (d : ℕ) (o : Result (List ℕ) Stop)
      → Val w r f d l.rest o w1 r1 → Val w r f d l.fn.e o w1 r1;
  depth : depth l.rest ≤ depth l.fn.e;
}

abbrev pub decreases-loop-inner : goal.decreases-loop-inner
decreases-loop-inner l = depth l.rest

-- What the calls that are left lead to.
use Rattle.std.proofs.Common.{◌≡◌, ◌≤◌, length}
use Rattle.one_pass.specs.Computed.{after}
use Rattle.one_pass.proofs.calls.charge.Given as goal

abbrev pub invariant-loop-rest : goal.invariant-loop-rest
invariant-loop-rest l = record {
  rest : after l.me l.rest l.run ≡ after l.me l.fn.calls l.fn.run;
  enough : length l.rest ≤ l.run.left;
  fewer : l.run.left ≤ l.fn.run.left;
}

abbrev pub decreases-loop-rest : goal.decreases-loop-rest
decreases-loop-rest l = length l.rest

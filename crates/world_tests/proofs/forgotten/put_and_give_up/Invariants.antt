use Rattle.std.proofs.Common.{◌≡◌, None}
use Rattle.world_tests.proofs.forgotten.put_and_give_up.Given as goal

abbrev pub invariant-loop-length : goal.invariant-loop-length
invariant-loop-length l = l.world.history.start ≡ None

use Rattle.std.proofs.Common.{IsSome}
use Rattle.world_tests.proofs.unseen.add_read_scripts.Given as goal

abbrev pub invariant-loop : goal.invariant-loop
invariant-loop l = IsSome l.world.history.start

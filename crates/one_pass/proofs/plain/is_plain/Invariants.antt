-- Nothing changes.
use Rattle.std.proofs.Common.{◌≡◌}
use Rattle.one_pass.proofs.plain.is_plain.Given as goal

abbrev pub invariant-loop-turn : goal.invariant-loop-turn
invariant-loop-turn g l = l.world ≡ l.fn.world

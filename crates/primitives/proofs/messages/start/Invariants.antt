use Rattle.std.proofs.Common.{◌≡◌, take}
use Rattle.primitives.proofs.messages.start.Given as goal

abbrev pub invariant-loop-value : goal.invariant-loop-value
invariant-loop-value l = l.texts ≡ take l.value-index l.values

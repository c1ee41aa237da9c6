use Rattle.std.proofs.Common.{◌≡◌, length}
use Rattle.session.specs.Commands.{after_spaces}
use Rattle.session.proofs.command.after_spaces.Given as goal

-- the spaces so far stood in front
abbrev pub invariant-loop-bytes : goal.invariant-loop-bytes
invariant-loop-bytes l = after_spaces l.bytes ≡ after_spaces l.line

abbrev pub decreases-loop-bytes : goal.decreases-loop-bytes
decreases-loop-bytes l = length l.bytes

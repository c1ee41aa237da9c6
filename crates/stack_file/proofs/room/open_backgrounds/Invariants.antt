use Rattle.std.proofs.Common.{◌≡◌}
use Rattle.stack_file.proofs.room.open_backgrounds.Given as goal

-- nothing is in the room yet
abbrev pub invariant-loop-background : goal.invariant-loop-background
invariant-loop-background l = l.stack.content ≡ l.fn.stack.content

use Rattle.std.proofs.Common.{◌≡◌}
use Rattle.stack_file.proofs.room.open_sheets.Given as goal

-- nothing is in the room yet
abbrev pub invariant-loop-card : goal.invariant-loop-card
invariant-loop-card l = l.stack.content ≡ l.fn.stack.content

use Rattle.std.proofs.Common.{◌≡◌, ◌-◌}
use Rattle.stack_text.specs.Reading.{times, part_at}
use Rattle.stack_file.specs.Owners.{rest_of}
use Rattle.stack_file.proofs.Times.{with_front}
use Rattle.stack_file.proofs.parts.counted_parts.Given as goal

-- the parts so far, and then those that are left
abbrev pub invariant-loop : goal.invariant-loop
invariant-loop l = with_front l.parts.items (times (l.count - l.counter) (part_at l.next (rest_of l.owner)) l.lines)
    ≡ times l.count (part_at l.next (rest_of l.owner)) l.fn.lines

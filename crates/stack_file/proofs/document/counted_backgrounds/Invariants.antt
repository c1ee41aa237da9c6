use Rattle.std.proofs.Common.{◌≡◌, ◌-◌, map}
use Rattle.stack_text.specs.Reading.{times, background_at}
use Rattle.stack_file.specs.Views.{sheet_seen}
use Rattle.stack_file.proofs.Times.{with_front}
use Rattle.stack_file.proofs.document.counted_backgrounds.Given as goal

-- the backgrounds so far, and then those that are left
abbrev pub invariant-loop : goal.invariant-loop
invariant-loop l = with_front (map sheet_seen l.backgrounds.items)
    (times (l.count - l.counter) (background_at l.version l.next) l.lines)
    ≡ times l.count (background_at l.version l.next) l.fn.lines

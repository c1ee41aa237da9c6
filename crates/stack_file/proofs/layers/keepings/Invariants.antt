use Rattle.std.proofs.Common.{◌≡◌, drop}
use Rattle.stack_text.specs.Reading.{for_each, keeping_at}
use Rattle.stack_file.proofs.Times.{with_front}
use Rattle.stack_file.proofs.layers.keepings.Given as goal

-- what was kept so far, and then what is kept for the parts that are left
abbrev pub invariant-loop-part : goal.invariant-loop-part
invariant-loop-part l = with_front l.keepings.items
    (for_each (drop l.part-index l.parts) (keeping_at l.version) l.lines)
    ≡ for_each l.parts (keeping_at l.version) l.fn.lines

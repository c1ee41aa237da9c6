use Rattle.std.proofs.Common.{◌≡◌, ◌+◌, ◌-◌, ◌∙◌, arith}
use Rattle.stack_text.specs.Reading.{part_at}
use Rattle.stack_file.specs.Owners.{rest_of}
use Rattle.stack_file.proofs.Times.{times-onto}
use Rattle.stack_file.proofs.parts.counted_parts.Goals as goal

pub loop-preserved : goal.loop-preserved
loop-preserved c =
    let left : c.args.count - c.loop.counter ≡ c.args.count - (c.loop.counter + 1) + 1 = omega arith in
    times-onto (part_at c.args.next (rest_of c.args.owner)) _ _ _ _ _ _ _ left c.in_ok-part.ensures
    c.in_ok-push.ensures.items ∙ c.loop.invariant

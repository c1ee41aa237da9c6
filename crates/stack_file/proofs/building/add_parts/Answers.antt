use Rattle.std.proofs.Common.{◌∙◌, ap, sym}
use Rattle.stack_file.specs.Building.{with_parts}
use Rattle.stack_file.proofs.Built.{parts-onto}
use Rattle.stack_file.proofs.building.add_parts.Goals as goal

pub loop-part-preserved : goal.loop-part-preserved
loop-part-preserved c =
    ap (with_parts c.args.card c.pop.new.self.items) c.in_ok-put_part.ensures
    ∙ parts-onto c.args.card c.pop.new.self.items c.in-Some.part c.loop-part.stack.content
    ∙ ap (λ all. with_parts c.args.card all c.loop-part.stack.content) (sym c.in-Some.ensures.items)
    ∙ c.loop-part.invariant

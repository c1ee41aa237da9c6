use Rattle.std.proofs.Common.{◌∙◌, ap, sym}
use Rattle.stack_file.specs.Building.{with_keepings}
use Rattle.stack_file.proofs.Built.{keepings-onto}
use Rattle.stack_file.proofs.building.add_keepings.Goals as goal

pub loop-keeping-preserved : goal.loop-keeping-preserved
loop-keeping-preserved c =
    ap (with_keepings c.args.card c.pop.new.self.items) c.in_ok-put_keeping.ensures
    ∙ keepings-onto c.args.card c.pop.new.self.items c.in-Some.keeping c.loop-keeping.stack.content
    ∙ ap (λ all. with_keepings c.args.card all c.loop-keeping.stack.content) (sym c.in-Some.ensures.items)
    ∙ c.loop-keeping.invariant

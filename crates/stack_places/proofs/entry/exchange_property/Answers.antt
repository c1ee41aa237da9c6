use Rattle.std.proofs.Common.{ap, sym, ◌∙◌}
use Rattle.stack_places.proofs.Exchanging.{unset}
use Rattle.stack_places.proofs.entry.exchange_property.Goals as goal

pub returns-else-may_set-clause-stack : goal.returns-else-may_set-clause-stack
returns-else-may_set-clause-stack c = ap (λ s. record c.args.stack.now { content = s })
    (sym (unset c.args.stack.now.content c.args.id c.args.value.now (sym c.may_set.ensures ∙ c.if-may_set.false)))

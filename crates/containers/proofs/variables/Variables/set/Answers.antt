use Rattle.std.proofs.Common.{◌≡◌, [], None, sym, ◌∙◌}
use Rattle.containers.specs.declared.variables.Local.{Local}
use Rattle.containers.specs.Variables.{with_value}
use Rattle.containers.proofs.Locals.{value_set, value_added}
use Rattle.containers.proofs.variables.Variables.set.Goals as goal

abbrev nobody : Local
nobody = record { name = []; value = None }

pub returns-in-Some-clause-ok : goal.returns-in-Some-clause-ok
returns-in-Some-clause-ok c =
    let found = sym c.number_of.ensures.value ∙ c.in-Some.is in
    let set : c.set_value.new.self ≡ with_value c.args.name.now c.args.value c.self.inside.locals =
    c.set_value.ensures nobody ∙ sym (value_set _ _ _ _ nobody found) in
    rw (← c.self.view_is) (λ i. record { all_global = c.self.inside.all_global; locals = set i })

pub returns-in_ok-push-in-None-clause-ok : goal.returns-in_ok-push-in-None-clause-ok
returns-in_ok-push-in-None-clause-ok c =
    let missing = sym c.number_of.ensures.value ∙ c.in-None.is in
    let added : c.push.new.self ≡ with_value c.args.name.now c.args.value c.self.inside.locals =
    c.in_ok-push-in-None.ensures.ok ∙ sym (value_added _ _ _ missing) in
    rw (← c.self.view_is) (λ i. record { all_global = c.self.inside.all_global; locals = added i })

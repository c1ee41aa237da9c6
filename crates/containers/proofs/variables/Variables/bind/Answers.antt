use Rattle.std.proofs.Common.{ap, ◌∙◌, false}
use Rattle.std.proofs.lemmas.Result.{on_ok_weaker}
use Rattle.containers.proofs.Given.{given_is_bound}
use Rattle.containers.proofs.variables.Variables.bind.Goals as goal

pub returns : goal.returns
returns c =
    on_ok_weaker c.bind.result (λ e. ap (λ ls. record { all_global = false; locals = ls }) e
    ∙ given_is_bound c.args.arguments.now c.args.parameters.now) c.bind.ensures.ok

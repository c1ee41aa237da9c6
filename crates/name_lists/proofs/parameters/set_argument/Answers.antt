use Rattle.std.proofs.Math.Seq.{map-set_same}
use Rattle.std.proofs.Common.{ap}
use Rattle.name_lists.proofs.parameters.set_argument.Goals as goal

pub returns-clause-names : goal.returns-clause-names
returns-clause-names c =
    map-set_same (λ b. b.name) c.args.bindings.now.items c.args.i _ c.index_mut-binding.result.now
    (ap (λ b. b.name) c.index_mut-binding.ensures.value)

use Rattle.std.proofs.Math.Seq.{map-set_same}
use Rattle.std.proofs.Common.{ap}
use Rattle.containers.proofs.indexed_locals.set_value.Goals as goal

pub returns-clause-names : goal.returns-clause-names
returns-clause-names c =
    map-set_same (λ l. l.name) c.args.locals.now.items c.args.i _ c.index_mut-local.result.now
    (ap (λ l. l.name) c.index_mut-local.ensures.value)

use Rattle.primitives.proofs.Stored.{variable_stores}
use Rattle.primitives.proofs.places.put_by_edit.Goals as goal

pub returns-in-Ok-clause-meaning : goal.returns-in-Ok-clause-meaning
returns-in-Ok-clause-meaning g c =
    variable_stores c.args.name.now c.delimiter.result c.law_of_value.ensures c.in-Ok.ensures.ok

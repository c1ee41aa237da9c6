use Rattle.primitives.proofs.Stored.{place_stores}
use Rattle.primitives.proofs.places.put_at.Goals as goal

pub returns-in-Ok-clause-meaning : goal.returns-in-Ok-clause-meaning
returns-in-Ok-clause-meaning g c =
    place_stores c.args.place.now c.delimiter.result c.requires.whole c.law_of_value.ensures c.requires.stands
    c.in-Ok.ensures.ok

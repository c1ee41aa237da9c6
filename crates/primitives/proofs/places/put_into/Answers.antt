use Rattle.primitives.proofs.Stored.{edit_stores}
use Rattle.primitives.proofs.places.put_into.Goals as goal

pub returns-then-put_kept-clause-meaning : goal.returns-then-put_kept-clause-meaning
returns-then-put_kept-clause-meaning g c =
    edit_stores c.args.name.now c.law_of_value.ensures
    (c.put_kept.ensures.put c.if-put_kept.true c.args.world.now.history 0)

use Rattle.primitives.proofs.Stored.{field_stands}
use Rattle.primitives.proofs.places.set_field.Goals as goal

pub put_at-requires-clause-stands : goal.put_at-requires-clause-stands
put_at-requires-clause-stands g c =
    field_stands c.args.world.now.history.now c.typed-frame.result.variables c.args.on_card c.args.name.now
    c.in_ok-place.place c.in_ok-place.ensures.place

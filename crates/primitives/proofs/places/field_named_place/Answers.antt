use Rattle.std.proofs.Common.{◌≡◌, Ok, Err, sym, ap, ◌∙◌}
use Rattle.ht_values.specs.declared.fault.Fault.TheVariants.{NoSuchObject}
use Rattle.meaning.specs.Places.{layer_of_field}
use Rattle.meaning.specs.Values.{Yields}
use Rattle.primitives.proofs.Stored.{emptied, filled, found_place}
use Rattle.primitives.proofs.places.field_named_place.Goals as goal
use Rattle.primitives.proofs.places.field_named_place.Goals.{then-on_card, else-on_card}

pub returns-in-Some-clause-place : goal.returns-in-Some-clause-place
returns-in-Some-clause-place g c =
    let layer : c.if-on_card.layer ≡ layer_of_field c.args.on_card =
    elim c.if-on_card.branch [
      | then-on_card w ↦ w.layer-is ∙ sym (ap layer_of_field w.if-on_card.true)
      | else-on_card w ↦ w.layer-is ∙ sym (ap layer_of_field w.if-on_card.false)
    ] in
    let found = rw (c.stack.ensures.content, c.current.ensures.value, layer) at (sym c.in_ok-field.ensures) in
    Yields.yields
    (found_place c.args.world.now.history.now c.args.frame.now.variables c.args.on_card c.args.name.now
    c.in_ok-field.field c.in_ok-place.place (Ok c.in_ok-place.place) found c.in_ok-place.ensures.place
    (filled c.args.world.now.history.now c.args.frame.now.variables c.in_ok-place.place _ c.in-Some.ensures))

pub returns-clause-place : goal.returns-clause-place
returns-clause-place g c =
    let layer : c.if-on_card.layer ≡ layer_of_field c.args.on_card =
    elim c.if-on_card.branch [
      | then-on_card w ↦ w.layer-is ∙ sym (ap layer_of_field w.if-on_card.true)
      | else-on_card w ↦ w.layer-is ∙ sym (ap layer_of_field w.if-on_card.false)
    ] in
    let found = rw (c.stack.ensures.content, c.current.ensures.value, layer) at (sym c.in_ok-field.ensures) in
    Yields.faults
    (found_place c.args.world.now.history.now c.args.frame.now.variables c.args.on_card c.args.name.now
    c.in_ok-field.field c.in_ok-place.place (Err NoSuchObject) found c.in_ok-place.ensures.place
    (emptied c.args.world.now.history.now c.args.frame.now.variables c.in_ok-place.place c.in_ok-field.field
    c.in_ok-place.ensures.place c.in-None.ensures))

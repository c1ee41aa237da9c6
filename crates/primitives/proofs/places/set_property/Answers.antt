use Rattle.std.proofs.Common.{refl, sym, ap, ◌∙◌}
use Rattle.object_references.specs.Settings.{setting}
use Rattle.meaning.specs.Places.{Sets}
use Rattle.primitives.proofs.places.set_property.Goals as goal

pub returns-in_ok-make-in-Ok-clause-meaning : goal.returns-in_ok-make-in-Ok-clause-meaning
returns-in_ok-make-in-Ok-clause-meaning g c =
    let is = ap (λ s. setting s c.args.object c.args.property c.args.text) (sym c.stack.ensures.content) in
    Sets.set_made (is ∙ sym c.in-Ok.ensures.change) c.in_ok-make-in-Ok.ensures.ok

pub returns-in-Err-clause-meaning : goal.returns-in-Err-clause-meaning
returns-in-Err-clause-meaning g c =
    let is = ap (λ s. setting s c.args.object c.args.property c.args.text) (sym c.stack.ensures.content) in
    Sets.set_faults (is ∙ sym c.in-Err.ensures.change) refl

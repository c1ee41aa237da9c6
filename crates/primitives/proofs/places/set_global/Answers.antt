use Rattle.std.proofs.Common.{rules, refl, ap, ◌∙◌}
use Rattle.meaning.specs.Meaning.{CallsBack}
use Rattle.meaning.specs.State.{typed_frame_at}
use Rattle.primitives.proofs.places.set_global.Goals as goal

pub returns-clause-meaning : goal.returns-clause-meaning
returns-clause-meaning g c = CallsBack.global_set {f1 = c.put_into.new.frame} refl (search rules)
    (c.typed-frame.ensures ∙ ap typed_frame_at c.current.ensures.value) (search rules) (search rules)

use Rattle.std.proofs.Common.{refl}
use Rattle.meaning.specs.Places.{Edits}
use Rattle.primitives.proofs.places.edit_named.Goals as goal

pub returns-in-Ok-clause-meaning : goal.returns-in-Ok-clause-meaning
returns-in-Ok-clause-meaning g c = Edits.edited c.in-Ok.ensures.ok refl

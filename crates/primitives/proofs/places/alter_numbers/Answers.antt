use Rattle.std.proofs.Common.{refl}
use Rattle.std.proofs.lemmas.Result.{IfOk-weaker}
use Rattle.meaning.specs.Places.{Edits}
use Rattle.primitives.proofs.places.alter_numbers.Goals as goal

pub returns-clause-altered : goal.returns-clause-altered
returns-clause-altered g c =
    IfOk-weaker c.alter_number.result _ _ (λ b h e d. Edits.edited (h e d) refl) c.alter_number.ensures.altered

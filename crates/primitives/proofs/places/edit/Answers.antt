use Rattle.std.proofs.Common.{rules, refl}
use Rattle.meaning.specs.Places.{Edits}
use Rattle.primitives.proofs.places.edit.Goals as goal

pub returns-in-Ok-clause-meaning : goal.returns-in-Ok-clause-meaning
returns-in-Ok-clause-meaning g c = Edits.edited (rw c.delimiter.ensures at c.in-Ok.ensures.ok) refl

pub returns-in-Err-Fault-clause-meaning : goal.returns-in-Err-Fault-clause-meaning
returns-in-Err-Fault-clause-meaning g c =
    Edits.edit_faults (rw (c.in-Err-Fault.field-0-is, c.delimiter.ensures) at c.in-Err-Fault.ensures.fault)
    (search rules) (search rules)

use Rattle.std.proofs.Common.{take}
use Rattle.structural_changes.specs.Prepared.{Adds}
use Rattle.structural_changes.specs.Writes.{texts_of}
use Rattle.structural_changes.proofs.preparing.add_texts_of.Given as goal

abbrev pub invariant-loop-field : goal.invariant-loop-field
invariant-loop-field l =
    Adds l.fn.stack l.stack l.fn.entries.items l.entries.items (texts_of (take l.field-index l.fields) l.card)

use Rattle.std.proofs.Common.{map, take}
use Rattle.stack_places.specs.Places.{field_text}
use Rattle.structural_changes.specs.Prepared.{Adds}
use Rattle.structural_changes.specs.Writes.{clear}
use Rattle.structural_changes.proofs.clearing.clear_texts.Given as goal

abbrev pub invariant-loop-text : goal.invariant-loop-text
invariant-loop-text l = Adds l.fn.stack l.stack l.fn.entries.items l.entries.items
    (map (λ p. clear (field_text p.0 p.1)) (take l.text-index l.texts))

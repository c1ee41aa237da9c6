use Rattle.std.proofs.Common.{map, take}
use Rattle.stack_places.specs.Places.{whole}
use Rattle.structural_changes.specs.Prepared.{Adds}
use Rattle.structural_changes.specs.Writes.{clear}
use Rattle.structural_changes.proofs.clearing.clear_objects.Given as goal

abbrev pub invariant-loop-id : goal.invariant-loop-id
invariant-loop-id l =
    Adds l.fn.stack l.stack l.fn.entries.items l.entries.items (map (λ id. clear (whole id)) (take l.id-index l.ids))

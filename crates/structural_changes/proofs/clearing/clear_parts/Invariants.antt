use Rattle.std.proofs.Common.{map, take}
use Rattle.stack_places.specs.Places.{layer_parts}
use Rattle.structural_changes.specs.Prepared.{Adds}
use Rattle.structural_changes.specs.Writes.{clear}
use Rattle.structural_changes.proofs.clearing.clear_parts.Given as goal

abbrev pub invariant-loop-layer : goal.invariant-loop-layer
invariant-loop-layer l = Adds l.fn.stack l.stack l.fn.entries.items l.entries.items
    (map (λ id. clear (layer_parts id)) (take l.layer-index l.layers))

use Rattle.std.proofs.Common.{map, take}
use Rattle.stack_places.specs.Places.{button_hilite}
use Rattle.structural_changes.specs.Prepared.{Adds}
use Rattle.structural_changes.specs.Writes.{clear}
use Rattle.structural_changes.proofs.clearing.clear_hilites.Given as goal

abbrev pub invariant-loop-hilite : goal.invariant-loop-hilite
invariant-loop-hilite l = Adds l.fn.stack l.stack l.fn.entries.items l.entries.items
    (map (λ p. clear (button_hilite p.0 p.1)) (take l.hilite-index l.hilites))

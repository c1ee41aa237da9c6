use Rattle.std.proofs.Common.{take}
use Rattle.structural_changes.specs.Prepared.{Adds}
use Rattle.structural_changes.specs.Writes.{false_hilites}
use Rattle.structural_changes.proofs.preparing.add_hilites.Given as goal

abbrev pub invariant-loop-card : goal.invariant-loop-card
invariant-loop-card l =
    Adds l.fn.stack l.stack l.fn.entries.items l.entries.items (false_hilites l.button (take l.card-index l.cards))

use Rattle.std.proofs.Common.{◌≡◌, reverse, take}
use Rattle.structural_changes.specs.Writes.{behind, first_or}
use Rattle.object_references.proofs.order.preceding.Given as goal

-- the last of those so far, and the one before the place among them; the last of all where there is none
abbrev pub invariant-loop-id : goal.invariant-loop-id
invariant-loop-id l = record {
  last : l.before ≡ first_or l.last (reverse (take l.id-index l.ids));
  found : l.found ≡ first_or l.last (behind l.place (reverse (take l.id-index l.ids)));
}

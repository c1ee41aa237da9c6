use Rattle.std.proofs.Common.{◌≡◌, take}
use Rattle.structural_changes.specs.Writes.{without}
use Rattle.structural_changes.proofs.removing.without.Given as goal

-- the ids so far but for that one
abbrev pub invariant-loop-other : goal.invariant-loop-other
invariant-loop-other l = record {
  items : l.other-items ≡ l.fn.order;
  shorter : l.shorter ≡ without l.fn.id (take l.other-index l.other-items);
}

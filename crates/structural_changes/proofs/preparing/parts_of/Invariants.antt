use Rattle.std.proofs.Common.{◌≡◌, take, filter}
use Rattle.object_table.specs.Objects.{has_kind, parts_at}
use Rattle.structural_changes.specs.Writes.{keeps}
use Rattle.structural_changes.proofs.preparing.parts_of.Given as goal

-- the parts so far that keep something
abbrev pub invariant-loop-part : goal.invariant-loop-part
invariant-loop-part l = record {
  items : l.part-items ≡ parts_at l.fn.stack.content l.fn.background;
  found : l.found.items ≡ filter (has_kind (keeps l.fn.kind) l.fn.stack.content) (take l.part-index l.part-items);
}

use Rattle.std.proofs.Common.{◌≡◌, drop, None}
use Rattle.object_table.specs.Objects.{has_kind, is_of}
use Rattle.object_references.proofs.Last.{last_passing}
use Rattle.object_references.proofs.picking.last_part.Given as goal

abbrev pub invariant-loop-part : goal.invariant-loop-part
invariant-loop-part l =
    last_passing (has_kind (is_of l.kind) l.stack.content) l.last (drop l.part-index l.parts)
    ≡ last_passing (has_kind (is_of l.kind) l.stack.content) None l.parts

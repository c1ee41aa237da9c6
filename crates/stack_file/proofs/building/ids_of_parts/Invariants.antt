use Rattle.std.proofs.Common.{◌≡◌, take}
use Rattle.stack_text.specs.Document.{part_ids}
use Rattle.stack_file.proofs.building.ids_of_parts.Given as goal

abbrev pub invariant-loop-part : goal.invariant-loop-part
invariant-loop-part l = l.ids ≡ part_ids (take l.part-index l.parts)

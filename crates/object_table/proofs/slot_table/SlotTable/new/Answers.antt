use Rattle.std.proofs.Common.{[], refl, arith}
use Rattle.std.specs.Ordering.{nat_cmp}
use Rattle.std.specs.FinMap.{len-empty}
use Rattle.object_table.specs.Slots.{objects_in}
use Rattle.object_table.specs.declared.object.Object.{Object}
use Rattle.object_table.proofs.Live.{len-others}
use Rattle.object_table.proofs.slot_table.SlotTable.new.Goals as goal

pub invariant_of-result : goal.invariant_of-result
invariant_of-result c =
    rw (c.new.ensures.items, c.new-2.ensures)
    (omega (arith, len-others (objects_in []), len-empty nat_cmp Object), λ id. refl)

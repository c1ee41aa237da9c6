use Rattle.std.proofs.Common.{None, ap, is_some}
use Rattle.object_table.specs.Rows.{ids_in, IsAt, IsGapFor}
use Rattle.object_table.proofs.Rows.{entry-read, entry-stays, none_before, rising-opened, entry-opened}
use Rattle.object_table.proofs.row.Row.open.Goals as goal

pub invariant_of-self-in-Err : goal.invariant_of-self-in-Err
invariant_of-self-in-Err g c =
    let es = c.self.inside.places.items in
    let gap : IsGapFor (ids_in es) c.args.part c.in-Err.place = rw c.self.view_is c.in-Err.ensures.absent in
    rw c.in_ok-insert-in-Err.ensures.items (rising-opened es c.args.part c.in-Err.place gap c.self.invariant)

pub returns-in-Ok-clause-ok : goal.returns-in-Ok-clause-ok
returns-in-Ok-clause-ok g c =
    let es = c.self.inside.places.items in
    let at : IsAt (ids_in es) c.args.part c.in-Ok.field-0 = rw c.self.view_is c.in-Ok.ensures.found in
    let read = entry-read es c.args.part c.in-Ok.field-0 (c.args.part, None) at
    (none_before (ids_in es) c.self.invariant c.args.part c.in-Ok.field-0 at) in
    rw (← c.self.view_is) (entry-stays es c.args.part (ap is_some read))

pub returns-in_ok-insert-in-Err-clause-ok : goal.returns-in_ok-insert-in-Err-clause-ok
returns-in_ok-insert-in-Err-clause-ok g c =
    let es = c.self.inside.places.items in
    let gap : IsGapFor (ids_in es) c.args.part c.in-Err.place = rw c.self.view_is c.in-Err.ensures.absent in
    rw (c.in_ok-insert-in-Err.ensures.items, ← c.self.view_is) (entry-opened es c.args.part c.in-Err.place gap)

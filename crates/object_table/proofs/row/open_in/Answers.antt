use Rattle.std.proofs.Common.{None, ap, length, is_some}
use Rattle.object_table.specs.Rows.{ids_in, IsAt, IsGapFor}
use Rattle.object_table.proofs.Rows.{entry-read, entry-stays, none_before, rising-opened, entry-opened, insert-last}
use Rattle.object_table.proofs.row.open_in.Goals as goal

pub returns-then-is_behind_all-clause-rising : goal.returns-then-is_behind_all-clause-rising
returns-then-is_behind_all-clause-rising g c =
    let es = c.args.places.now.items in
    let gap : IsGapFor (ids_in es) c.args.part (length es) =
    rw (← c.deref.ensures.value) (c.is_behind_all.ensures c.if-is_behind_all.true) in
    rw (c.push_reserved.ensures.items, insert-last es (c.args.part, None))
    (rising-opened es c.args.part (length es) gap c.requires.rising)

pub returns-then-is_behind_all-clause-entries : goal.returns-then-is_behind_all-clause-entries
returns-then-is_behind_all-clause-entries g c =
    let es = c.args.places.now.items in
    let gap : IsGapFor (ids_in es) c.args.part (length es) =
    rw (← c.deref.ensures.value) (c.is_behind_all.ensures c.if-is_behind_all.true) in
    rw (c.push_reserved.ensures.items, insert-last es (c.args.part, None))
    (entry-opened es c.args.part (length es) gap)

pub returns-in-Ok-clause-rising : goal.returns-in-Ok-clause-rising
returns-in-Ok-clause-rising g c =
    let es = c.args.places.now.items in
    let gap : IsGapFor (ids_in es) c.args.part c.in-Err.place =
    rw (← c.deref-2.ensures.value) c.in-Err.ensures.absent in
    rw c.in-Ok.ensures.items (rising-opened es c.args.part c.in-Err.place gap c.requires.rising)

pub returns-in-Ok-clause-entries : goal.returns-in-Ok-clause-entries
returns-in-Ok-clause-entries g c =
    let es = c.args.places.now.items in
    let gap : IsGapFor (ids_in es) c.args.part c.in-Err.place =
    rw (← c.deref-2.ensures.value) c.in-Err.ensures.absent in
    rw c.in-Ok.ensures.items (entry-opened es c.args.part c.in-Err.place gap)

pub returns-in_default-clause-entries : goal.returns-in_default-clause-entries
returns-in_default-clause-entries g c =
    let es = c.args.places.now.items in
    let at : IsAt (ids_in es) c.args.part c.in_default.field-0 =
    rw (← c.deref-2.ensures.value) c.in_default.ensures.found in
    let read = entry-read es c.args.part c.in_default.field-0 (c.args.part, None) at
    (none_before (ids_in es) c.requires.rising c.args.part c.in_default.field-0 at) in
    entry-stays es c.args.part (ap is_some read)

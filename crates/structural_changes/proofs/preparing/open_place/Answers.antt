use Rattle.std.proofs.Common.{◌≡◌, sym, subst, Result, Ok, Err, OnOk, OnErr}
use Rattle.object_table.specs.Table.{Table}
use Rattle.structural_changes.specs.Prepared.{Opens}
use Rattle.structural_changes.proofs.Prepared.{opens_nothing, opens_slot, opens_text, opens_hilite}
use Rattle.structural_changes.proofs.preparing.open_place.Goals as goal

-- where it was refused nothing changed
either : {X E : Type 0} {P : Type 0} (old new : Table) (r : Result X E) → (P → Opens old new) → OnOk r P
    → OnErr r (new ≡ old) → Opens old new
either old new (Ok x) f p q = f p
either old new (Err e) f p q = subst (Opens old) (sym q) (opens_nothing old)

pub returns-in-FieldText-clause-opens : goal.returns-in-FieldText-clause-opens
returns-in-FieldText-clause-opens c = either c.args.stack.now c.open_text.new.self c.open_text.result
    (opens_text c.args.stack.now c.open_text.new.self (c.in-FieldText.field, c.in-FieldText.card))
    c.open_text.ensures.ok c.open_text.ensures.err

pub returns-in-Hilite-clause-opens : goal.returns-in-Hilite-clause-opens
returns-in-Hilite-clause-opens c = either c.args.stack.now c.open_hilite.new.self c.open_hilite.result
    (opens_hilite c.args.stack.now c.open_hilite.new.self (c.in-Hilite.button, c.in-Hilite.card))
    c.open_hilite.ensures.ok c.open_hilite.ensures.err

pub returns-in-Object-clause-opens : goal.returns-in-Object-clause-opens
returns-in-Object-clause-opens c = either c.args.stack.now c.open_slot.new.self c.open_slot.result
    (opens_slot c.args.stack.now c.open_slot.new.self c.in-Object.id) c.open_slot.ensures.ok c.open_slot.ensures.err

pub returns-in-Parts-clause-opens : goal.returns-in-Parts-clause-opens
returns-in-Parts-clause-opens c = either c.args.stack.now c.open_slot-in-Parts.new.self c.open_slot-in-Parts.result
    (opens_slot c.args.stack.now c.open_slot-in-Parts.new.self c.in-Parts.layer) c.open_slot-in-Parts.ensures.ok
    c.open_slot-in-Parts.ensures.err

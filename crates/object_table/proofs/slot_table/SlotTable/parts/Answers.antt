use Rattle.std.proofs.Common.{sym, ap, ◌∙◌, option_and_then}
use Rattle.object_table.specs.Slots.{slot_at}
use Rattle.object_table.proofs.Slots.{get-read, slot-numbered}
use Rattle.object_table.proofs.slot_table.SlotTable.parts.Goals as goal

pub returns-in_err-slot_with : goal.returns-in_err-slot_with
returns-in_err-slot_with c =
    let es = c.self.inside.slots.items in
    let none = c.in_err-slot_with.ensures ∙ ap (λ xs. slot_at xs c.get.result) c.deref.ensures.value
    ∙ slot-numbered c.self.inside.numbers.pages.items es c.args.id c.get.result c.self.invariant.1 c.get.ensures in
    rw (← c.self.view_is, c.from_residual.ensures)
    (sym (get-read (λ s. s.parts) es c.args.id ∙ ap (option_and_then (λ s. s.parts)) (sym none)))

pub returns : goal.returns
returns c =
    let es = c.self.inside.slots.items in
    let found = c.in_ok-slot_with.ensures ∙ ap (λ xs. slot_at xs c.get.result) c.deref.ensures.value
    ∙ slot-numbered c.self.inside.numbers.pages.items es c.args.id c.get.result c.self.invariant.1 c.get.ensures in
    rw (← c.self.view_is) (c.as_ref.ensures.value
    ∙ sym (get-read (λ s. s.parts) es c.args.id ∙ ap (option_and_then (λ s. s.parts)) (sym found)))

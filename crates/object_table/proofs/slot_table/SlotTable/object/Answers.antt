use Rattle.std.proofs.Common.{sym, ap, ◌∙◌, option_and_then, is_some}
use Rattle.object_table.proofs.Opened.{contains-keys_of, of_found}
use Rattle.object_table.specs.Slots.{slot_at}
use Rattle.object_table.proofs.Slots.{ids, get-read, slot-numbered}
use Rattle.object_table.proofs.slot_table.SlotTable.object.Goals as goal

pub returns-in_err-slot_with-clause-value : goal.returns-in_err-slot_with-clause-value
returns-in_err-slot_with-clause-value c =
    let es = c.self.inside.slots.items in
    let none = c.in_err-slot_with.ensures ∙ ap (λ xs. slot_at xs c.get.result) c.deref.ensures.value
    ∙ slot-numbered c.self.inside.numbers.pages.items es c.args.id c.get.result c.self.invariant.1 c.get.ensures in
    rw (← c.self.view_is, c.from_residual.ensures)
    (sym (get-read (λ s. s.object) es c.args.id ∙ ap (option_and_then (λ s. s.object)) (sym none)))

pub returns-clause-value : goal.returns-clause-value
returns-clause-value c =
    let es = c.self.inside.slots.items in
    let found = c.in_ok-slot_with.ensures ∙ ap (λ xs. slot_at xs c.get.result) c.deref.ensures.value
    ∙ slot-numbered c.self.inside.numbers.pages.items es c.args.id c.get.result c.self.invariant.1 c.get.ensures in
    rw (← c.self.view_is) (c.as_ref.ensures.value
    ∙ sym (get-read (λ s. s.object) es c.args.id ∙ ap (option_and_then (λ s. s.object)) (sym found)))

pub returns-clause-room : goal.returns-clause-room
returns-clause-room c =
    let es = c.self.inside.slots.items in
    let found = c.in_ok-slot_with.ensures ∙ ap (λ xs. slot_at xs c.get.result) c.deref.ensures.value
    ∙ slot-numbered c.self.inside.numbers.pages.items es c.args.id c.get.result c.self.invariant.1 c.get.ensures in
    rw (← c.self.view_is) (of_found c.as_ref.result (contains-keys_of ids es c.args.id ∙ ap is_some (sym found)))

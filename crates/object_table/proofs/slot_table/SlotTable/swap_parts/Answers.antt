use Rattle.std.proofs.Common.{◌-◌, sym, ap, ◌∙◌, arith, option_and_then}
use Rattle.std.specs.FinMap.{len, remove}
use Rattle.std.specs.FinSet.{contains}
use Rattle.object_table.specs.Slots.{Slots}
use Rattle.object_table.specs.declared.slot_table.Slot.{Slot}
use Rattle.object_table.proofs.Slots.{get-read, parts_put, at_least_one, place_within, stands_at, slot_found}
use Rattle.object_table.proofs.Slots.{slot_written, still_numbered}
use Rattle.object_table.proofs.slot_table.SlotTable.swap_parts.Goals as goal

pub overflow_sub-place : goal.overflow_sub-place
overflow_sub-place c =
    let es = c.self.inside.slots.items in
    let pages = c.self.inside.numbers.pages.items in
    let there = ap (λ (s : Slots). contains s.ids c.args.id) c.self.view_is ∙ c.requires in
    at_least_one pages es c.args.id c.get.result c.self.invariant.1 c.get.ensures there

pub index_mut-requires : goal.index_mut-requires
index_mut-requires c =
    let es = c.self.inside.slots.items in
    let pages = c.self.inside.numbers.pages.items in
    let there = ap (λ (s : Slots). contains s.ids c.args.id) c.self.view_is ∙ c.requires in
    omega (
      arith,
      place_within pages es c.args.id c.get.result c.self.invariant.1 c.get.ensures there,
      c.self.inside.slots.ok.0,
    )

pub returns-clause-value : goal.returns-clause-value
returns-clause-value c =
    let es = c.self.inside.slots.items in
    let pages = c.self.inside.numbers.pages.items in
    let there = ap (λ (s : Slots). contains s.ids c.args.id) c.self.view_is ∙ c.requires in
    let e = c.index_mut.result.now in
    let at = stands_at pages es c.args.id c.get.result c.self.invariant.1 c.get.ensures there e
    c.index_mut.ensures.value in
    let found = slot_found c.args.id (c.get.result - 1) e es at in
    rw (← c.self.view_is) (c.swap.ensures.y_after
    ∙ sym (get-read (λ t. t.parts) es c.args.id ∙ ap (option_and_then (λ t. t.parts)) (sym found)))

pub returns-clause-slots : goal.returns-clause-slots
returns-clause-slots c =
    let es = c.self.inside.slots.items in
    let pages = c.self.inside.numbers.pages.items in
    let there = ap (λ (s : Slots). contains s.ids c.args.id) c.self.view_is ∙ c.requires in
    let e = c.index_mut.result.now in
    let at = stands_at pages es c.args.id c.get.result c.self.invariant.1 c.get.ensures there e
    c.index_mut.ensures.value in
    let found = slot_found c.args.id (c.get.result - 1) e es at in
    let s : Slot = record { object = e.1.object; parts = c.swap.new.x } in
    let put = parts_put es _ c.args.id e.1 c.swap.new.x found (slot_written c.args.id (c.get.result - 1) e es at s) in
    rw (← c.self.view_is, ← c.swap.ensures.x_after) put

pub invariant_of-self : goal.invariant_of-self
invariant_of-self c =
    let es = c.self.inside.slots.items in
    let pages = c.self.inside.numbers.pages.items in
    let there = ap (λ (s : Slots). contains s.ids c.args.id) c.self.view_is ∙ c.requires in
    let e = c.index_mut.result.now in
    let at = stands_at pages es c.args.id c.get.result c.self.invariant.1 c.get.ensures there e
    c.index_mut.ensures.value in
    let found = slot_found c.args.id (c.get.result - 1) e es at in
    let s : Slot = record { object = e.1.object; parts = c.swap.new.x } in
    let put = parts_put es _ c.args.id e.1 c.swap.new.x found (slot_written c.args.id (c.get.result - 1) e es at s) in (
      c.self.invariant.0 ∙ sym (ap (λ (t : Slots). len (remove t.objects 0)) put),
      still_numbered c.args.id
          (c.get.result - 1) e es at pages s c.self.invariant.1,
    )

use Rattle.std.proofs.Common.{◌≡◌, ◌-◌, ℕ, Option, Bool, true, false, is_some, refl, sym, ap, ◌∙◌, arith, map}
use Rattle.std.proofs.Common.{option_and_then}
use Rattle.std.proofs.lemmas.List.{length-map}
use mir.Val.{bool_byte}
use Rattle.std.specs.FinMap.{len, remove}
use Rattle.std.specs.FinSet.{contains}
use Rattle.object_table.specs.Maps.{put_option}
use Rattle.object_table.specs.Slots.{Slots, objects_in}
use Rattle.object_table.specs.declared.object.Object.{Object}
use Rattle.object_table.specs.declared.slot_table.Slot.{Slot}
use Rattle.object_table.proofs.Live.{one, counted-other, count-other, count-first, len-others, len-map_of}
use Rattle.object_table.proofs.Slots.{get-read, object_put, at_least_one, place_within, stands_at, slot_found}
use Rattle.object_table.proofs.Slots.{slot_written, still_numbered}
use Rattle.object_table.proofs.slot_table.SlotTable.swap_object.Goals as goal

pub overflow_sub-place : goal.overflow_sub-place
overflow_sub-place c =
    let es = c.self.inside.slots.items in
    let pages = c.self.inside.numbers.pages.items in
    let there = ap (λ (s : Slots). contains s.ids c.args.id) c.self.view_is ∙ c.requires in
    at_least_one pages es c.args.id c.get.result c.self.invariant.1 c.get.ensures there

pub index_mut-requires : goal.index_mut-requires
index_mut-requires c =
    let es = c.self.inside.slots.items in
    let pages = c.self.inside.numbers.pages.items in
    let there = ap (λ (s : Slots). contains s.ids c.args.id) c.self.view_is ∙ c.requires in
    omega (
      arith,
      place_within pages es c.args.id c.get.result c.self.invariant.1 c.get.ensures there,
      c.self.inside.slots.ok.0,
    )

pub returns-then-id-ne0-clause-value : goal.returns-then-id-ne0-clause-value
returns-then-id-ne0-clause-value c =
    let es = c.self.inside.slots.items in
    let pages = c.self.inside.numbers.pages.items in
    let there = ap (λ (s : Slots). contains s.ids c.args.id) c.self.view_is ∙ c.requires in
    let e = c.index_mut.result.now in
    let at = stands_at pages es c.args.id c.get.result c.self.invariant.1 c.get.ensures there e
    c.index_mut.ensures.value in
    let found = slot_found c.args.id (c.get.result - 1) e es at in
    rw (← c.self.view_is) (c.swap.ensures.y_after
    ∙ sym (get-read (λ t. t.object) es c.args.id ∙ ap (option_and_then (λ t. t.object)) (sym found)))

pub returns-else-id-ne0-clause-value : goal.returns-else-id-ne0-clause-value
returns-else-id-ne0-clause-value c =
    let es = c.self.inside.slots.items in
    let pages = c.self.inside.numbers.pages.items in
    let there = ap (λ (s : Slots). contains s.ids c.args.id) c.self.view_is ∙ c.requires in
    let e = c.index_mut.result.now in
    let at = stands_at pages es c.args.id c.get.result c.self.invariant.1 c.get.ensures there e
    c.index_mut.ensures.value in
    let found = slot_found c.args.id (c.get.result - 1) e es at in
    rw (← c.self.view_is) (c.swap.ensures.y_after
    ∙ sym (get-read (λ t. t.object) es c.args.id ∙ ap (option_and_then (λ t. t.object)) (sym found)))

pub returns-then-id-ne0-clause-slots : goal.returns-then-id-ne0-clause-slots
returns-then-id-ne0-clause-slots c =
    let es = c.self.inside.slots.items in
    let pages = c.self.inside.numbers.pages.items in
    let there = ap (λ (s : Slots). contains s.ids c.args.id) c.self.view_is ∙ c.requires in
    let e = c.index_mut.result.now in
    let at = stands_at pages es c.args.id c.get.result c.self.invariant.1 c.get.ensures there e
    c.index_mut.ensures.value in
    let found = slot_found c.args.id (c.get.result - 1) e es at in
    let s : Slot = record { object = c.swap.new.x; parts = e.1.parts } in
    let put = object_put es _ c.args.id e.1 c.swap.new.x found (slot_written c.args.id (c.get.result - 1) e es at s) in
    rw (← c.self.view_is, ← c.swap.ensures.x_after) put

pub returns-else-id-ne0-clause-slots : goal.returns-else-id-ne0-clause-slots
returns-else-id-ne0-clause-slots c =
    let es = c.self.inside.slots.items in
    let pages = c.self.inside.numbers.pages.items in
    let there = ap (λ (s : Slots). contains s.ids c.args.id) c.self.view_is ∙ c.requires in
    let e = c.index_mut.result.now in
    let at = stands_at pages es c.args.id c.get.result c.self.invariant.1 c.get.ensures there e
    c.index_mut.ensures.value in
    let found = slot_found c.args.id (c.get.result - 1) e es at in
    let s : Slot = record { object = c.swap.new.x; parts = e.1.parts } in
    let put = object_put es _ c.args.id e.1 c.swap.new.x found (slot_written c.args.id (c.get.result - 1) e es at s) in
    rw (← c.self.view_is, ← c.swap.ensures.x_after) put

byte : (b : Bool) → bool_byte b ≡ one b
byte true = refl
byte false = refl

pub overflow_sub-others : goal.overflow_sub-others
overflow_sub-others c =
    let es = c.self.inside.slots.items in
    let pages = c.self.inside.numbers.pages.items in
    let there = ap (λ (s : Slots). contains s.ids c.args.id) c.self.view_is ∙ c.requires in
    let e = c.index_mut.result.now in
    let at = stands_at pages es c.args.id c.get.result c.self.invariant.1 c.get.ensures there e
    c.index_mut.ensures.value in
    let found = slot_found c.args.id (c.get.result - 1) e es at in
    let had = get-read (λ t. t.object) es c.args.id ∙ ap (option_and_then (λ t. t.object)) (sym found)
    ∙ sym c.swap.ensures.y_after in
    let was = c.from.ensures ∙ ap bool_byte c.is_some.ensures ∙ byte (is_some c.swap.new.y)
    ∙ ap (λ o. one (is_some o)) (sym had) in
    omega (arith, was, counted-other (objects_in es) c.args.id c.if-id-ne0.true, c.self.invariant.0)

pub prove-unreachable-requires : goal.prove-unreachable-requires
prove-unreachable-requires c =
    let es = c.self.inside.slots.items in
    omega (
      arith,
      c.if-prove.true,
      c.self.invariant.0,
      len-others (objects_in es),
      len-map_of
          (map (λ e. (e.0, e.1.object)) es),
      length-map {B = ℕ × Option Object} es (λ e. (e.0, e.1.object)),
      c.self.inside.slots.ok.0,
      c.len.ensures,
    )

pub invariant_of-self : goal.invariant_of-self
invariant_of-self c =
    let es = c.self.inside.slots.items in
    let pages = c.self.inside.numbers.pages.items in
    let there = ap (λ (s : Slots). contains s.ids c.args.id) c.self.view_is ∙ c.requires in
    let e = c.index_mut.result.now in
    let at = stands_at pages es c.args.id c.get.result c.self.invariant.1 c.get.ensures there e
    c.index_mut.ensures.value in
    let found = slot_found c.args.id (c.get.result - 1) e es at in
    let s : Slot = record { object = c.swap.new.x; parts = e.1.parts } in
    let put = object_put es _ c.args.id e.1 c.swap.new.x found (slot_written c.args.id (c.get.result - 1) e es at s) in
    let had = get-read (λ t. t.object) es c.args.id ∙ ap (option_and_then (λ t. t.object)) (sym found)
    ∙ sym c.swap.ensures.y_after in
    let was = c.from.ensures ∙ ap bool_byte c.is_some.ensures ∙ byte (is_some c.swap.new.y)
    ∙ ap (λ o. one (is_some o)) (sym had) in
    let count = ap (λ (t : Slots). len (remove t.objects 0)) put
    ∙ count-other (objects_in es) c.args.id c.swap.new.x c.if-id-ne0.true in
    let is = c.from-then-id-ne0.ensures ∙ ap bool_byte c.is_some-added.ensures ∙ byte (is_some c.args.object.now)
    ∙ ap (λ o. one (is_some o)) (sym c.swap.ensures.x_after) in (
      omega (arith, count, was, is, c.self.invariant.0),
      still_numbered c.args.id (c.get.result - 1) e es at pages s
          c.self.invariant.1,
    )

pub invariant_of-self-else-id-ne0 : goal.invariant_of-self-else-id-ne0
invariant_of-self-else-id-ne0 c =
    let es = c.self.inside.slots.items in
    let pages = c.self.inside.numbers.pages.items in
    let there = ap (λ (s : Slots). contains s.ids c.args.id) c.self.view_is ∙ c.requires in
    let e = c.index_mut.result.now in
    let at = stands_at pages es c.args.id c.get.result c.self.invariant.1 c.get.ensures there e
    c.index_mut.ensures.value in
    let found = slot_found c.args.id (c.get.result - 1) e es at in
    let s : Slot = record { object = c.swap.new.x; parts = e.1.parts } in
    let put =
    object_put es _ c.args.id e.1 c.swap.new.x found (slot_written c.args.id (c.get.result - 1) e es at s) in (
      c.self.invariant.0
          ∙ sym (ap (λ (t : Slots). len (remove t.objects 0)) put
          ∙ ap (λ k. len (remove (put_option (objects_in es) k c.swap.new.x) 0)) c.if-id-ne0.false
          ∙ count-first (objects_in es) c.swap.new.x),
      still_numbered c.args.id (c.get.result - 1) e es at pages s c.self.invariant.1,
    )

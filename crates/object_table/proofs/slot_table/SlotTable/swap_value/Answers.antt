use Rattle.std.proofs.Common.{◌≡◌, ◌-◌, Option, None, Some, true, is_some, refl, sym, ap, ◌∙◌, arith, option_map}
use Rattle.std.proofs.Common.{option_and_then}
use Rattle.std.proofs.lemmas.Bool.{false≢true}
use Rattle.std.specs.FinMap.{get, len, remove}
use Rattle.object_table.specs.Maps.{put_option}
use Rattle.object_table.specs.Setting.{value_in, with_value}
use Rattle.object_table.specs.Slots.{Slots, objects_in, slots_of}
use Rattle.object_table.specs.declared.object.Object.{Object}
use Rattle.object_table.specs.declared.property.PropValue.{PropValue}
use Rattle.object_table.specs.declared.slot_table.Slot.{Slot}
use Rattle.object_table.proofs.Live.{count_again}
use Rattle.object_table.proofs.Slots.{get-read, object_put, object_open, at_least_one, place_within, stands_at}
use Rattle.object_table.proofs.Slots.{slot_found, slot_written, still_numbered}
use Rattle.object_table.proofs.slot_table.SlotTable.swap_value.Goals as goal

is_there : (v : PropValue) (o : Option Object) → is_some (option_and_then (value_in v) o) ≡ true → is_some o ≡ true
is_there v None h = absurd (false≢true h)
is_there v (Some o) h = refl

pub overflow_sub-place : goal.overflow_sub-place
overflow_sub-place c =
    let es = c.self.inside.slots.items in
    let pages = c.self.inside.numbers.pages.items in
    let had = ap (λ (s : Slots). get s.objects c.args.id) c.self.view_is in
    let stands = object_open es c.args.id
    (is_there c.args.value.now (get (objects_in es) c.args.id)
    (ap (λ o. is_some (option_and_then (value_in c.args.value.now) o)) had ∙ c.requires)) in
    at_least_one pages es c.args.id c.get.result c.self.invariant.1 c.get.ensures stands

pub index_mut-requires : goal.index_mut-requires
index_mut-requires c =
    let es = c.self.inside.slots.items in
    let pages = c.self.inside.numbers.pages.items in
    let had = ap (λ (s : Slots). get s.objects c.args.id) c.self.view_is in
    let stands = object_open es c.args.id
    (is_there c.args.value.now (get (objects_in es) c.args.id)
    (ap (λ o. is_some (option_and_then (value_in c.args.value.now) o)) had ∙ c.requires)) in
    omega (
      arith,
      place_within pages es c.args.id c.get.result c.self.invariant.1 c.get.ensures stands,
      c.self.inside.slots.ok.0,
    )

pub swap_value-requires : goal.swap_value-requires
swap_value-requires c =
    let es = c.self.inside.slots.items in
    let pages = c.self.inside.numbers.pages.items in
    let had = ap (λ (s : Slots). get s.objects c.args.id) c.self.view_is in
    let stands = object_open es c.args.id
    (is_there c.args.value.now (get (objects_in es) c.args.id)
    (ap (λ o. is_some (option_and_then (value_in c.args.value.now) o)) had ∙ c.requires)) in
    let e = c.index_mut.result.now in
    let at = stands_at pages es c.args.id c.get.result c.self.invariant.1 c.get.ensures stands e
    c.index_mut.ensures.value in
    let found = slot_found c.args.id (c.get.result - 1) e es at in
    let there =
    get-read (λ t. t.object) es c.args.id ∙ ap (option_and_then (λ t. t.object)) (sym found) ∙ c.in-Some.is in
    sym (ap (λ o. is_some (option_and_then (value_in c.args.value.now) o)) (sym had ∙ there)) ∙ c.requires

pub unreachable-requires : goal.unreachable-requires
unreachable-requires c =
    let es = c.self.inside.slots.items in
    let pages = c.self.inside.numbers.pages.items in
    let had = ap (λ (s : Slots). get s.objects c.args.id) c.self.view_is in
    let stands = object_open es c.args.id
    (is_there c.args.value.now (get (objects_in es) c.args.id)
    (ap (λ o. is_some (option_and_then (value_in c.args.value.now) o)) had ∙ c.requires)) in
    let e = c.index_mut.result.now in
    let at = stands_at pages es c.args.id c.get.result c.self.invariant.1 c.get.ensures stands e
    c.index_mut.ensures.value in
    let found = slot_found c.args.id (c.get.result - 1) e es at in
    let there =
    get-read (λ t. t.object) es c.args.id ∙ ap (option_and_then (λ t. t.object)) (sym found) ∙ c.in-None.is in
    false≢true (sym (ap (λ o. is_some (option_and_then (value_in c.args.value.now) o)) (sym had ∙ there)) ∙ c.requires)

pub returns-clause-value : goal.returns-clause-value
returns-clause-value c =
    let es = c.self.inside.slots.items in
    let pages = c.self.inside.numbers.pages.items in
    let had = ap (λ (s : Slots). get s.objects c.args.id) c.self.view_is in
    let stands = object_open es c.args.id
    (is_there c.args.value.now (get (objects_in es) c.args.id)
    (ap (λ o. is_some (option_and_then (value_in c.args.value.now) o)) had ∙ c.requires)) in
    let e = c.index_mut.result.now in
    let at = stands_at pages es c.args.id c.get.result c.self.invariant.1 c.get.ensures stands e
    c.index_mut.ensures.value in
    let found = slot_found c.args.id (c.get.result - 1) e es at in
    let there =
    get-read (λ t. t.object) es c.args.id ∙ ap (option_and_then (λ t. t.object)) (sym found) ∙ c.in-Some.is in
    ap (option_and_then (value_in c.args.value.now)) (sym had ∙ there) ∙ c.swap_value.ensures.value

pub returns-clause-slots : goal.returns-clause-slots
returns-clause-slots c =
    let es = c.self.inside.slots.items in
    let pages = c.self.inside.numbers.pages.items in
    let had = ap (λ (s : Slots). get s.objects c.args.id) c.self.view_is in
    let stands = object_open es c.args.id
    (is_there c.args.value.now (get (objects_in es) c.args.id)
    (ap (λ o. is_some (option_and_then (value_in c.args.value.now) o)) had ∙ c.requires)) in
    let e = c.index_mut.result.now in
    let at = stands_at pages es c.args.id c.get.result c.self.invariant.1 c.get.ensures stands e
    c.index_mut.ensures.value in
    let found = slot_found c.args.id (c.get.result - 1) e es at in
    let there =
    get-read (λ t. t.object) es c.args.id ∙ ap (option_and_then (λ t. t.object)) (sym found) ∙ c.in-Some.is in
    let s : Slot = record { object = Some c.swap_value.new.self; parts = e.1.parts } in
    let put = object_put es _ c.args.id e.1 (Some c.swap_value.new.self) found
    (slot_written c.args.id (c.get.result - 1) e es at s) in
    let is = ap (λ o. Some o) c.swap_value.ensures.object ∙ sym (ap (option_map (with_value c.args.value.now)) there) in
    rw (← c.self.view_is) (put ∙ (λ i. record (slots_of es) { objects = put_option (objects_in es) c.args.id (is i) }))

pub invariant_of-self : goal.invariant_of-self
invariant_of-self c =
    let es = c.self.inside.slots.items in
    let pages = c.self.inside.numbers.pages.items in
    let had = ap (λ (s : Slots). get s.objects c.args.id) c.self.view_is in
    let stands = object_open es c.args.id
    (is_there c.args.value.now (get (objects_in es) c.args.id)
    (ap (λ o. is_some (option_and_then (value_in c.args.value.now) o)) had ∙ c.requires)) in
    let e = c.index_mut.result.now in
    let at = stands_at pages es c.args.id c.get.result c.self.invariant.1 c.get.ensures stands e
    c.index_mut.ensures.value in
    let found = slot_found c.args.id (c.get.result - 1) e es at in
    let there =
    get-read (λ t. t.object) es c.args.id ∙ ap (option_and_then (λ t. t.object)) (sym found) ∙ c.in-Some.is in
    let s : Slot = record { object = Some c.swap_value.new.self; parts = e.1.parts } in
    let put = object_put es _ c.args.id e.1 (Some c.swap_value.new.self) found
    (slot_written c.args.id (c.get.result - 1) e es at s) in (
      c.self.invariant.0 ∙ sym (ap (λ (t : Slots). len (remove t.objects 0)) put
          ∙ count_again (objects_in es) c.args.id c.swap_value.new.self (ap is_some there)),
      still_numbered c.args.id
          (c.get.result - 1) e es at pages s c.self.invariant.1,
    )

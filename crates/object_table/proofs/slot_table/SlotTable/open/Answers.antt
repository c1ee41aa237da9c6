use Rattle.std.proofs.Common.{◌≡◌, ◌++◌, ◌+◌, ◌≤◌, ℕ, List, [], ◌∷◌, length, None, Some, cond, sym, ap, ◌∙◌}
use Rattle.std.proofs.Common.{option_and_then, arith, rules}
use Rattle.std.specs.FinMap.{len, remove}
use Rattle.std.specs.FinSet as set
use Rattle.std.specs.Map.{lookup}
use Rattle.std.specs.Ordering.{eq_by_cmp, nat_cmp}
use Rattle.object_table.specs.Pages.{number_at}
use Rattle.object_table.specs.Slots.{Slots, slots_of, slot_number, empty_slot}
use Rattle.object_table.specs.declared.slot_table.Slot.{Slot}
use Rattle.object_table.proofs.Opened.{contains-inserted, inserted_again, keys_of-updated}
use Rattle.object_table.proofs.Slots.{ids, read-same, none_numbered, open_numbered, numbered-added, added-updates}
use Rattle.object_table.proofs.slot_table.SlotTable.open.Goals as goal

-- an empty slot is added
added : (es fs : List (ℕ × Slot)) (k : ℕ)
    → ((q : ℕ) → lookup (eq_by_cmp nat_cmp q) fs
    ≡ cond (eq_by_cmp nat_cmp k q) (Some empty_slot) (lookup (eq_by_cmp nat_cmp q) es))
    → lookup (eq_by_cmp nat_cmp k) es ≡ None
    → slots_of fs ≡ record (slots_of es) { ids = set.insert (slots_of es).ids k }
added es fs k updates absent =
    let objects =
    read-same (λ s. s.object) es fs k empty_slot updates (sym (ap (option_and_then (λ s. s.object)) absent)) in
    let parts =
    read-same (λ s. s.parts) es fs k empty_slot updates (sym (ap (option_and_then (λ s. s.parts)) absent)) in
    λ i. record { objects = objects i; parts = parts i; ids = keys_of-updated ids es fs k empty_slot updates i }

-- the same, at the end
appended : (es : List (ℕ × Slot)) (k : ℕ) → slot_number es k ≡ 0
    → slots_of (es ++ (k, empty_slot) ∷ []) ≡ record (slots_of es) { ids = set.insert (slots_of es).ids k }
appended es k none =
    let absent = none_numbered es k none in
    added es (es ++ (k, empty_slot) ∷ []) k (added-updates es k empty_slot absent) absent

pub returns-then-get-gt0-clause-inside : goal.returns-then-get-gt0-clause-inside
returns-then-get-gt0-clause-inside c =
    let some : 1 ≤ slot_number c.self.inside.slots.items c.args.id =
    omega (arith, c.if-get-gt0.true, c.get.ensures, c.self.invariant.1 c.args.id) in
    rw (← c.self.view_is) (open_numbered c.self.inside.slots.items c.args.id some)

pub returns-then-get-gt0-clause-ok : goal.returns-then-get-gt0-clause-ok
returns-then-get-gt0-clause-ok c =
    let again = inserted_again ids c.args.self.now.ids c.args.id (returns-then-get-gt0-clause-inside c) in
    λ i. record c.args.self.now { ids = again i }

pub returns-clause-ok : goal.returns-clause-ok
returns-clause-ok c =
    let es = c.self.inside.slots.items in
    let none : slot_number es c.args.id ≡ 0 =
    omega (arith, c.if-get-gt0.false, c.get.ensures, c.self.invariant.1 c.args.id) in
    rw (← c.self.view_is, c.push_reserved.ensures.items, c.in_ok-reserve.ensures.items) (appended es c.args.id none)

pub returns-clause-inside : goal.returns-clause-inside
returns-clause-inside c = ap (λ (s : Slots). set.contains s.ids c.args.id) (returns-clause-ok c)
    ∙ contains-inserted ids c.args.self.now.ids c.args.id

pub invariant_of-self-2 : goal.invariant_of-self-2
invariant_of-self-2 c =
    let es = c.self.inside.slots.items in
    let pages = c.self.inside.numbers.pages.items in
    let none : number_at pages c.args.id ≡ 0 = omega (arith, c.if-get-gt0.false, c.get.ensures) in
    let long : c.in-Ok.number ≡ length es + 1 = search rules in
    let last = appended es c.args.id (sym (c.self.invariant.1 c.args.id) ∙ none) in
    rw (c.push_reserved.ensures.items, c.in_ok-reserve.ensures.items) (
      c.self.invariant.0 ∙ sym (ap (λ (s : Slots). len (remove s.objects 0)) last),
      numbered-added pages _ es c.args.id
          c.in-Ok.number empty_slot c.self.invariant.1 none long c.in_ok-set.ensures.ok,
    )

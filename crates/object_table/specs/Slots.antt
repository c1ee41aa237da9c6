-- Slots of ids: an object, and a list of parts.
use Rattle.std.specs.Prelude.{◌≡◌, ℕ, zero, suc, List, [], ◌∷◌, map, slice_get, Option, None, option_map, refl}
use Rattle.std.specs.Prelude.{if◌then◌else◌}
use Rattle.std.specs.Ordering.{nat_cmp, eq_by_cmp}
use Rattle.std.specs.FinMap.{FinMap, code as map_code}
use Rattle.std.specs.FinSet.{FinSet, code as set_code}
use Rattle.std.specs.Coded.{Coded, code_by, coded×, coded_ℕ, coded_list}
use Rattle.object_table.specs.Content.{coded_object}
use Rattle.object_table.specs.Opened.{map_of, keys_of}
use Rattle.object_table.specs.Pages.{number_at}
use Rattle.object_table.specs.declared.object.Object.{Object}
use Rattle.object_table.specs.declared.slot_table.Slot.{Slot}

-- the objects and the lists of parts by id, and the ids that are open
pub record Slots : Type 0 where
  pub objects : FinMap nat_cmp Object
  pub parts : FinMap nat_cmp (List ℕ)
  pub ids : FinSet nat_cmp

-- the slot of an id that has neither an object nor a list
abbrev pub empty_slot : Slot
empty_slot = record { object = None; parts = None }

abbrev pub objects_in : List (ℕ × Slot) → FinMap nat_cmp Object
objects_in es = map_of (map (λ e. (e.0, e.1.object)) es)

abbrev pub parts_in : List (ℕ × Slot) → FinMap nat_cmp (List ℕ)
parts_in es = map_of (map (λ e. (e.0, e.1.parts)) es)

-- the number after this one, where 0 is none
abbrev pub following : ℕ → ℕ
following zero = 0
following (suc n) = suc (suc n)

-- the number of the first slot of an id, counted from 1; 0 where it has none
abbrev pub slot_number : {V : Type 0} → List (ℕ × V) → ℕ → ℕ
slot_number [] id = 0
slot_number (e ∷ es) id = if eq_by_cmp nat_cmp id e.0 then 1 else following (slot_number es id)

-- the slot with a number
abbrev pub slot_at : {V : Type 0} → List (ℕ × V) → ℕ → Option V
slot_at es zero = None
slot_at es (suc n) = option_map (λ e. e.1) (slice_get es n)

-- the pages have the number of each id's slot
abbrev pub AreNumbered : {V : Type 0} → List (List ℕ) → List (ℕ × V) → Type 0
AreNumbered pages es = (id : ℕ) → number_at pages id ≡ slot_number es id

-- slots by their entries
abbrev pub slots_of : List (ℕ × Slot) → Slots
slots_of es = record { objects = objects_in es; parts = parts_in es; ids = keys_of es }

abbrev pub coded_slots : Coded Slots
coded_slots = code_by (FinMap nat_cmp Object × (FinMap nat_cmp (List ℕ) × FinSet nat_cmp))
    (coded× (map_code coded_ℕ coded_object) (coded× (map_code coded_ℕ (coded_list coded_ℕ)) (set_code coded_ℕ)))
    (λ s. (s.objects, (s.parts, s.ids))) (λ p. record { objects = p.0; parts = p.1.0; ids = p.1.1 }) (λ _. refl)

-- Where an id stands first.
use Rattle.std.proofs.Common.{◌≡◌, ℕ, ◌+◌, ◌<◌, Bool, true, false, cond, List, [], ◌∷◌, ◌++◌, length, refl, sym, ◌∙◌}
use Rattle.std.proofs.Common.{ap, arith, ltb, inl, inr, Option, Some, None, position, is_some, not, ◌==◌, ◌||◌, find}
use Rattle.std.proofs.Common.{slice_get, option_and_then, map}
use Rattle.std.specs.List.{position_from, position_or_len, list_any}
use Rattle.std.proofs.lemmas.List.{length-map}
use Rattle.std.proofs.lemmas.List.Quantifiers.{position-Some}
use Rattle.std.proofs.lemmas.Option.{slice_get-map, slice_get_cases}
use Rattle.std.proofs.lemmas.List.Folds.{find_at}
use Rattle.ht_values.proofs.Positions.{placed, position-push}
use Rattle.stack_text.specs.Document.{Sheet, sheet_ids, parts_of}
use Rattle.stack_file.specs.Views.{sheet_seen}
use Rattle.stack_file.specs.declared.sheets.SheetLines.{SheetLines}
use Rattle.std.proofs.lemmas.Iterator.Adapters.{position_from-zero}
use Rattle.std.proofs.lemmas.Bool.Decides.{nat_tests}

from_is_some : {X : Type 0} (p : X → Bool) (i : ℕ) (xs : List X) → is_some (position_from p i xs) ≡ list_any p xs
from_is_some p i [] = refl
from_is_some p i (x ∷ xs) =
    elim (p x) as (λ b. is_some (cond b (Some i) (position_from p (i + 1) xs)) ≡ (b || list_any p xs))
    [ true ↦ refl | false ↦ from_is_some p (i + 1) xs ]

pub position-is_some : {X : Type 0} (p : X → Bool) (xs : List X) → is_some (position p xs) ≡ list_any p xs
position-is_some p xs = ap is_some (position_from-zero p xs) ∙ from_is_some p 0 xs

other_place : (o : Option ℕ) (n : ℕ) → placed false o n ≡ o
other_place None n = refl
other_place (Some i) n = refl

free_place : (o : Option ℕ) (n : ℕ) → is_some o ≡ false → placed true o n ≡ Some n
free_place None n e = refl
free_place (Some i) n e = cc

one_id : (a b : ℕ) → (a == b) ≡ true → a ≡ b
one_id a b e = grind (arith, nat_tests)

-- the first time that an id comes
pub placed-first : (old new : ℕ → Option ℕ) (ids : List ℕ) (id : ℕ) → ((q : ℕ) → old q ≡ position (λ x. x == q) ids)
    → is_some (old id) ≡ false → ((q : ℕ) → new q ≡ cond (id == q) (Some (length ids)) (old q))
    → (q : ℕ) → new q ≡ position (λ x. x == q) (ids ++ id ∷ [])
placed-first old new ids id is free updates q =
    updates q ∙ by (id == q) refl ∙ ap (λ o. placed (id == q) o (length ids)) (is q)
    ∙ sym (position-push (λ x. x == q) ids id)
  where
    by : (b : Bool) → (id == q) ≡ b → cond b (Some (length ids)) (old q) ≡ placed b (old q) (length ids)
    by true e = sym (free_place (old q) (length ids) (ap (λ k. is_some (old k)) (sym (one_id id q e)) ∙ free))
    by false e = sym (other_place (old q) (length ids))

-- the place of an id among the backgrounds is that of its background
place_seen : (bs : List SheetLines) (id : ℕ)
    → position_or_len (λ x. x == id) (sheet_ids (map sheet_seen bs))
    ≡ position_or_len (λ b. b.id == id) (map sheet_seen bs)
place_seen [] id = refl
place_seen (b ∷ bs) id = ap (λ n. cond (not (b.id == id)) (1 + n) 0) (place_seen bs id)

within : {X : Type 0} (xs : List X) (n m : ℕ) → m ≡ length xs
    → slice_get xs n ≡ option_and_then (slice_get xs) (cond (ltb n m) (Some n) None)
within xs n m same =
    elim (slice_get_cases xs n).1 [
      | inl h ↦ let yes : ltb n m ≡ true = grind (arith, nat_tests, h.1) in rw yes refl
      | inr h ↦ let no : ltb n m ≡ false = grind (arith, nat_tests, h.0) in rw no h.1
    ]

found_at : (bs : List SheetLines) (id : ℕ)
    → find (λ b. b.id == id) (map sheet_seen bs)
    ≡ option_and_then (slice_get (map sheet_seen bs)) (position (λ x. x == id) (sheet_ids (map sheet_seen bs)))
found_at bs id =
    let same = length-map (map sheet_seen bs) (λ (b : Sheet). b.id) in
    find_at (λ b. b.id == id) (map sheet_seen bs) ∙ ap (slice_get (map sheet_seen bs)) (sym (place_seen bs id))
    ∙ within (map sheet_seen bs) _ _ same

pub parts_of-placed : (bs : List SheetLines) (id i : ℕ) (b : SheetLines)
    → position (λ x. x == id) (sheet_ids (map sheet_seen bs)) ≡ Some i → slice_get bs i ≡ Some b
    → parts_of (map sheet_seen bs) id ≡ b.parts.items
parts_of-placed bs id i b at is = rw (found_at bs id, at) (rw (slice_get-map, is) refl)

pub parts_of-none : (bs : List SheetLines) (id : ℕ) → position (λ x. x == id) (sheet_ids (map sheet_seen bs)) ≡ None
    → parts_of (map sheet_seen bs) id ≡ []
parts_of-none bs id none = rw (found_at bs id, none) refl

pub placed_within : (bs : List SheetLines) (id i : ℕ) → position (λ x. x == id) (sheet_ids (map sheet_seen bs)) ≡ Some i
    → i < length bs
placed_within bs id i at =
    let h = position-Some (λ x. x == id) (sheet_ids (map sheet_seen bs)) i 0 at in
    let a = length-map (map sheet_seen bs) (λ (b : Sheet). b.id) in
    let b = length-map bs sheet_seen in
    omega (arith, h.0)

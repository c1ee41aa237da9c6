-- What holds of each element, over the ways in which lists are made.
use Rattle.std.proofs.Common.{◌≡◌, ℕ, Bool, true, false, true≢false, cond, Some, List, [], ◌∷◌, ◌++◌, map, sym, subst}
use Rattle.std.proofs.Common.{arith, inl, inr, IsTrue, unwrap_or, option_map, ◌==◌, find}
use Rattle.std.specs.List.{AllByRecursion, flat_map}
use Rattle.std.proofs.lemmas.Bool.{or_cases}
use Rattle.std.proofs.lemmas.Bool.Decides.{nat_tests}
use Rattle.stack_text.specs.declared.sheets.Part.{Part}
use Rattle.stack_text.specs.Document.{Sheet, contains_id, parts_of}

pub each_so : {X : Type 0} {P Q : X → Type 0} → ((x : X) → P x → Q x) → (xs : List X) → AllByRecursion P xs
    → AllByRecursion Q xs
each_so f [] h = tt
each_so f (x ∷ xs) h = (f x h.0, each_so f xs h.1)

pub each_both : {X : Type 0} {P Q R : X → Type 0} → ((x : X) → P x → Q x → R x) → (xs : List X) → AllByRecursion P xs
    → AllByRecursion Q xs → AllByRecursion R xs
each_both f [] h k = tt
each_both f (x ∷ xs) h k = (f x h.0 k.0, each_both f xs h.1 k.1)

pub each_parts : {X : Type 0} (P : X → Type 0) (xs ys : List X) → AllByRecursion P (xs ++ ys)
    → AllByRecursion P xs × AllByRecursion P ys
each_parts P [] ys h = (tt, h)
each_parts P (x ∷ xs) ys h = let p = each_parts P xs ys h.1 in ((h.0, p.0), p.1)

module _ {X : Type 0} (P : X → Type 0) where
  pub each_append : (xs ys : List X) → AllByRecursion P xs → AllByRecursion P ys → AllByRecursion P (xs ++ ys)
  each_append [] ys h k = k
  each_append (x ∷ xs) ys h k = (h.0, each_append xs ys h.1 k)

  pub each_true : ((x : X) → P x) → (xs : List X) → AllByRecursion P xs
  each_true step [] = tt
  each_true step (x ∷ xs) = (step x, each_true step xs)

  module _ {Y : Type 0} (f : Y → X) where
    pub each_mapped : (ys : List Y) → AllByRecursion P (map f ys) → AllByRecursion (λ y. P (f y)) ys
    each_mapped [] h = tt
    each_mapped (y ∷ ys) h = (h.0, each_mapped ys h.1)

    pub each_map : (ys : List Y) → AllByRecursion (λ y. P (f y)) ys → AllByRecursion P (map f ys)
    each_map [] h = tt
    each_map (y ∷ ys) h = (h.0, each_map ys h.1)

  module _ {Y : Type 0} (f : Y → List X) where
    pub each_joined : (ys : List Y) → AllByRecursion P (flat_map f ys) → AllByRecursion (λ y. AllByRecursion P (f y)) ys
    each_joined [] h = tt
    each_joined (y ∷ ys) h = let both = each_parts P (f y) (flat_map f ys) h in (both.0, each_joined ys both.1)

    pub each_join : (ys : List Y) → AllByRecursion (λ y. AllByRecursion P (f y)) ys → AllByRecursion P (flat_map f ys)
    each_join [] h = tt
    each_join (y ∷ ys) h = each_append (f y) (flat_map f ys) h.0 (each_join ys h.1)

-- what holds of each id holds of one that is among them
pub each_at : (P : ℕ → Type 0) (q : ℕ) (ids : List ℕ) → AllByRecursion P ids → IsTrue (contains_id q ids) → P q
each_at P q [] h e = absurd (true≢false (sym e))
each_at P q (id ∷ ids) h e = elim (or_cases (id == q) (contains_id q ids) e) [
  | inl k ↦ let same : id ≡ q = grind (arith, nat_tests) in subst P same h.0
  | inr k ↦ each_at P q ids h.1 k
]

-- what holds of the parts of each sheet holds of those of the sheet of an id
pub each_part_of : (P : Part → Type 0) (ss : List Sheet) (id : ℕ)
    → AllByRecursion (λ (s : Sheet). AllByRecursion P s.parts) ss → AllByRecursion P (parts_of ss id)
each_part_of P [] id h = tt
each_part_of P (s ∷ ss) id h = by (s.id == id) (each_part_of P ss id h.1)
  where
    by : (t : Bool) → AllByRecursion P (parts_of ss id)
        → AllByRecursion P
        (unwrap_or (option_map (λ (x : Sheet). x.parts) (cond t (Some s) (find (λ x. x.id == id) ss))) [])
    by true k = h.0
    by false k = k

-- Flips of lists of cells by patches.
use Rattle.std.proofs.Common.{◌≡◌, ◌≢◌, ℕ, zero, suc, ◌<◌, List, [], ◌∷◌, length, get_or, set, refl, sym, ap, ◌∙◌}
use Rattle.std.proofs.Common.{arith, Some, length-set, slice_get, inl, inr}
use Rattle.std.proofs.lemmas.List.{set-get_or, get_or-set_same, get_or-set_other}
use Rattle.std.proofs.lemmas.Bool.{cases_eq}
use Rattle.std.proofs.lemmas.Option.{slice_get_within}
use Rattle.externals.specs.Cells.{Changes, flipped, taken_out, IsProper, Avoids, HasTexts, IsPatch}

set-set_apart : {X : Type 0} (xs : List X) (i j : ℕ) (a b : X) → j ≢ i → set (set xs i a) j b ≡ set (set xs j b) i a
set-set_apart [] i j a b h = refl
set-set_apart (x ∷ xs) zero zero a b h = absurd (h refl)
set-set_apart (x ∷ xs) zero (suc j) a b h = refl
set-set_apart (x ∷ xs) (suc i) zero a b h = refl
set-set_apart (x ∷ xs) (suc i) (suc j) a b h = ap (λ ys. x ∷ ys) (set-set_apart xs i j a b (λ e. h (ap suc e)))

pub set-set_same : {X : Type 0} (xs : List X) (i : ℕ) (a b : X) → set (set xs i a) i b ≡ set xs i b
set-set_same [] i a b = refl
set-set_same (x ∷ xs) zero a b = refl
set-set_same (x ∷ xs) (suc i) a b = ap (λ ys. x ∷ ys) (set-set_same xs i a b)

same_gets : {X : Type 0} (xs ys : List X) → length ys ≡ length xs → ((i : ℕ) → slice_get ys i ≡ slice_get xs i)
    → ys ≡ xs
same_gets [] [] n h = refl
same_gets [] (y ∷ ys) n h = absurd (omega arith)
same_gets (x ∷ xs) [] n h = absurd (omega arith)
same_gets (x ∷ xs) (y ∷ ys) n h =
    let first : Some y ≡ Some x = h 0 in
    let head : y ≡ x = cc in
    let tail = same_gets xs ys (omega arith) (λ i. h (suc i)) in
    λ k. head k ∷ tail k

slice_get-set_same : {X : Type 0} (xs : List X) (i : ℕ) (a : X) → i < length xs → slice_get (set xs i a) i ≡ Some a
slice_get-set_same [] i a h = absurd (omega arith)
slice_get-set_same (x ∷ xs) zero a h = refl
slice_get-set_same (x ∷ xs) (suc i) a h = slice_get-set_same xs i a (omega arith)

pub slice_get-set_other : {X : Type 0} (xs : List X) (i j : ℕ) (a : X) → j ≢ i
    → slice_get (set xs i a) j ≡ slice_get xs j
slice_get-set_other [] i j a h = refl
slice_get-set_other (x ∷ xs) zero zero a h = absurd (h refl)
slice_get-set_other (x ∷ xs) zero (suc j) a h = refl
slice_get-set_other (x ∷ xs) (suc i) zero a h = refl
slice_get-set_other (x ∷ xs) (suc i) (suc j) a h = slice_get-set_other xs i j a (λ e. h (ap suc e))

-- a cell gets its old text back, and an other one had it
get-set-patch : (old new : List (List ℕ)) (c : ℕ) (t : List ℕ) (i : ℕ) → length new ≡ length old
    → slice_get old c ≡ Some t → (i ≢ c → slice_get new i ≡ slice_get old i)
    → slice_get (set new c t) i ≡ slice_get old i
get-set-patch old new c t i n h r =
    elim (cases_eq i c) [
      | inl e ↦ rw e (slice_get-set_same new c t (omega (arith, slice_get_within old c t h)) ∙ sym h)
      | inr e ↦ slice_get-set_other new c i t e ∙ r e
    ]

pub length-flipped : (cells : List (List ℕ)) (p : Changes) → length (flipped cells p) ≡ length cells
length-flipped cells [] = refl
length-flipped cells (e ∷ p) = length-flipped (set cells e.0 e.1) p ∙ length-set cells e.0 e.1

-- a cell that isn't named may be written before or after
flipped-set : (cells : List (List ℕ)) (p : Changes) (i : ℕ) (t : List ℕ) → Avoids i p
    → flipped (set cells i t) p ≡ set (flipped cells p) i t
flipped-set cells [] i t a = refl
flipped-set cells (e ∷ p) i t a = ap (λ x. flipped x p) (set-set_apart cells i e.0 t e.1 (λ q. a.0 (sym q)))
    ∙ flipped-set (set cells e.0 e.1) p i t a.1

taken_out-set : (cells : List (List ℕ)) (p : Changes) (i : ℕ) (t : List ℕ) → Avoids i p
    → taken_out (set cells i t) p ≡ taken_out cells p
taken_out-set cells [] i t a = refl
taken_out-set cells (e ∷ p) i t a =
    let ne : e.0 ≢ i = λ q. a.0 (sym q) in
    let h = get_or-set_other cells i e.0 t e.1 ne in
    let r = ap (λ x. taken_out x p) (set-set_apart cells i e.0 t e.1 (λ q. a.0 (sym q)))
    ∙ taken_out-set (set cells e.0 e.1) p i t a.1 in
    λ k. (e.0, h k) ∷ r k

get_or-flipped : (cells : List (List ℕ)) (p : Changes) (i : ℕ) (d : List ℕ) → Avoids i p
    → get_or (flipped cells p) i d ≡ get_or cells i d
get_or-flipped cells [] i d a = refl
get_or-flipped cells (e ∷ p) i d a =
    get_or-flipped (set cells e.0 e.1) p i d a.1 ∙ get_or-set_other cells e.0 i e.1 d a.0

pub Avoids-taken_out : (cells : List (List ℕ)) (p : Changes) (i : ℕ) → Avoids i p → Avoids i (taken_out cells p)
Avoids-taken_out cells [] i a = tt
Avoids-taken_out cells (e ∷ p) i a = (a.0, Avoids-taken_out (set cells e.0 e.1) p i a.1)

pub IsProper-taken_out : (n : ℕ) (cells : List (List ℕ)) (p : Changes) → IsProper n p → IsProper n (taken_out cells p)
IsProper-taken_out n cells [] h = tt
IsProper-taken_out n cells (e ∷ p) h =
    (h.0, Avoids-taken_out (set cells e.0 e.1) p e.0 h.1, IsProper-taken_out n (set cells e.0 e.1) p h.2)

-- a flip of what was taken out undoes the flip
pub flipped_back : (cells : List (List ℕ)) (p : Changes) → IsProper (length cells) p
    → flipped (flipped cells p) (taken_out cells p) ≡ cells
flipped_back cells [] h = refl
flipped_back cells (e ∷ p) h =
    let one = set cells e.0 e.1 in
    let old = get_or cells e.0 e.1 in
    let proper : IsProper (length one) p = rw length-set h.2 in
    flipped-set (flipped one p) (taken_out one p) e.0 old (Avoids-taken_out one p e.0 h.1)
    ∙ ap (λ x. set x e.0 old) (flipped_back one p proper)
    ∙ set-set_same cells e.0 e.1 old
    ∙ set-get_or cells e.0 e.1

pub taken_out_back : (cells : List (List ℕ)) (p : Changes) → IsProper (length cells) p
    → taken_out (flipped cells p) (taken_out cells p) ≡ p
taken_out_back cells [] h = refl
taken_out_back cells (e ∷ p) h =
    let one = set cells e.0 e.1 in
    let old = get_or cells e.0 e.1 in
    let proper : IsProper (length one) p = rw length-set h.2 in
    let text : get_or (flipped one p) e.0 old ≡ e.1 =
    get_or-flipped one p e.0 old h.1 ∙ get_or-set_same cells e.0 e.1 old h.0 in
    let rest = taken_out-set (flipped one p) (taken_out one p) e.0 old (Avoids-taken_out one p e.0 h.1)
    ∙ taken_out_back one p proper in
    λ k. (e.0, text k) ∷ rest k

-- a patch of a turn gives the old cells back
pub flipped-patch : (old new : List (List ℕ)) (p : Changes) → length new ≡ length old → HasTexts old p
    → ((i : ℕ) → Avoids i p → slice_get new i ≡ slice_get old i) → flipped new p ≡ old
flipped-patch old new [] n h r = same_gets old new n (λ i. r i tt)
flipped-patch old new (e ∷ p) n h r =
    flipped-patch old (set new e.0 e.1) p (length-set new e.0 e.1 ∙ n) h.1
    (λ i a. get-set-patch old new e.0 e.1 i n h.0 (λ ne. r i (ne, a)))

pub patch_back : (old new : List (List ℕ)) (p : Changes) → IsPatch old new p → flipped new p ≡ old
patch_back old new p h = flipped-patch old new p h.count h.old_texts h.rest

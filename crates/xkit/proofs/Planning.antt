-- What a plan does to the cells, and which patch comes out.
use Rattle.std.proofs.Common.{◌≡◌, ◌≢◌, ℕ, zero, suc, ◌<◌, arith, List, [], ◌∷◌, ◌++◌, length, set, take, drop, refl}
use Rattle.std.proofs.Common.{sym, ap, ◌∙◌, Some, length-set, slice_get, slice_index_or, true, false, bytes_eq}
use Rattle.std.proofs.lemmas.Slice.Eq.{bytes_eq-Decides}
use Rattle.std.proofs.lemmas.Bool.Decides.{not_from_Decides}
use Rattle.std.proofs.lemmas.List.{set-get_or}
use Rattle.std.proofs.lemmas.Option.{slice_get-get_or, get_or_from_slice_get}
use Rattle.externals.specs.Cells.{Changes, flipped, taken_out, IsProper, Avoids, HasTexts, DiffersFrom, IsPatch}
use Rattle.externals.proofs.Flipping.{slice_get-set_other, length-flipped, IsProper-taken_out, Avoids-taken_out}
use Rattle.xkit.specs.Plans.{IsPlan}

-- a cell that isn't named stays
slice_get-flipped : (cells : List (List ℕ)) (p : Changes) (i : ℕ) → Avoids i p
    → slice_get (flipped cells p) i ≡ slice_get cells i
slice_get-flipped cells [] i a = refl
slice_get-flipped cells (e ∷ p) i a =
    slice_get-flipped (set cells e.0 e.1) p i a.1 ∙ slice_get-set_other cells e.0 i e.1 a.0

taken_out-Avoids : (cells : List (List ℕ)) (p : Changes) (i : ℕ) → Avoids i (taken_out cells p) → Avoids i p
taken_out-Avoids cells [] i a = tt
taken_out-Avoids cells (e ∷ p) i a = (a.0, taken_out-Avoids (set cells e.0 e.1) p i a.1)

HasTexts-before : (cells : List (List ℕ)) (j : ℕ) (t : List ℕ) (q : Changes) → Avoids j q → HasTexts (set cells j t) q
    → HasTexts cells q
HasTexts-before cells j t [] a h = tt
HasTexts-before cells j t (e ∷ q) a h =
    (sym (slice_get-set_other cells j e.0 t (λ k. a.0 (sym k))) ∙ h.0, HasTexts-before cells j t q a.1 h.1)

HasTexts-taken_out : (cells : List (List ℕ)) (p : Changes) → IsProper (length cells) p
    → HasTexts cells (taken_out cells p)
HasTexts-taken_out cells [] h = tt
HasTexts-taken_out cells (e ∷ p) h =
    let one = set cells e.0 e.1 in
    let proper : IsProper (length one) p = rw length-set h.2 in (
      slice_get-get_or cells e.0 e.1 h.0,
      HasTexts-before cells e.0 e.1 (taken_out one p)
          (Avoids-taken_out one p e.0 h.1) (HasTexts-taken_out one p proper),
    )

DiffersFrom-after : (cells : List (List ℕ)) (j : ℕ) (t : List ℕ) (q : Changes) → Avoids j q → DiffersFrom cells q
    → DiffersFrom (set cells j t) q
DiffersFrom-after cells j t [] a h = tt
DiffersFrom-after cells j t (e ∷ q) a h =
    (λ k. h.0 (sym (slice_get-set_other cells j e.0 t (λ n. a.0 (sym n))) ∙ k), DiffersFrom-after cells j t q a.1 h.1)

slice_get-set_same : (cells : List (List ℕ)) (i : ℕ) (t : List ℕ) → i < length cells
    → slice_get (set cells i t) i ≡ Some t
slice_get-set_same [] i t h = absurd (omega arith)
slice_get-set_same (x ∷ xs) zero t h = refl
slice_get-set_same (x ∷ xs) (suc i) t h = slice_get-set_same xs i t (omega arith)

DiffersFrom-taken_out : (cells : List (List ℕ)) (p : Changes) → IsProper (length cells) p → DiffersFrom cells p
    → DiffersFrom (flipped cells p) (taken_out cells p)
DiffersFrom-taken_out cells [] h d = tt
DiffersFrom-taken_out cells (e ∷ p) h d =
    let one = set cells e.0 e.1 in
    let proper : IsProper (length one) p = rw length-set h.2 in
    let now = slice_get-flipped one p e.0 h.1 ∙ slice_get-set_same cells e.0 e.1 h.0 in
    let was = slice_get-get_or cells e.0 e.1 h.0 in
    (λ k. d.0 (was ∙ sym k ∙ now), DiffersFrom-taken_out one p proper (DiffersFrom-after cells e.0 e.1 p h.1 d.1))

-- the patch of a plan that was carried out
pub patch_of_plan : (cells : List (List ℕ)) (p : Changes) → IsPlan cells p
    → IsPatch cells (flipped cells p) (taken_out cells p)
patch_of_plan cells p h = record {
  count = length-flipped cells p;
  proper = IsProper-taken_out (length cells) cells p h.proper;
  old_texts = HasTexts-taken_out cells p h.proper;
  rest = λ i a. slice_get-flipped cells p i (taken_out-Avoids cells p i a);
  changed = DiffersFrom-taken_out cells p h.proper h.differs;
}

-- one more cell at the end of a plan
pub flipped-push : (cells : List (List ℕ)) (p : Changes) (i : ℕ) (t : List ℕ)
    → flipped cells (p ++ (i, t) ∷ []) ≡ set (flipped cells p) i t
flipped-push cells [] i t = refl
flipped-push cells (e ∷ p) i t = flipped-push (set cells e.0 e.1) p i t

pub Avoids-push : (p : Changes) (i j : ℕ) (t : List ℕ) → j ≢ i → Avoids j p → Avoids j (p ++ (i, t) ∷ [])
Avoids-push [] i j t n a = (n, tt)
Avoids-push (e ∷ p) i j t n a = (a.0, Avoids-push p i j t n a.1)

IsProper-push : (n : ℕ) (p : Changes) (i : ℕ) (t : List ℕ) → i < n → Avoids i p → IsProper n p
    → IsProper n (p ++ (i, t) ∷ [])
IsProper-push n [] i t l a h = (l, tt, tt)
IsProper-push n (e ∷ p) i t l a h = (h.0, Avoids-push p i e.0 t (λ k. a.0 (sym k)) h.1, IsProper-push n p i t l a.1 h.2)

DiffersFrom-push : (cells : List (List ℕ)) (p : Changes) (i : ℕ) (t : List ℕ) → slice_get cells i ≢ Some t
    → DiffersFrom cells p → DiffersFrom cells (p ++ (i, t) ∷ [])
DiffersFrom-push cells [] i t n d = (n, tt)
DiffersFrom-push cells (e ∷ p) i t n d = (d.0, DiffersFrom-push cells p i t n d.1)

pub IsPlan-push : (cells : List (List ℕ)) (p : Changes) (i : ℕ) (t : List ℕ) → i < length cells → Avoids i p
    → slice_get cells i ≢ Some t → IsPlan cells p → IsPlan cells (p ++ (i, t) ∷ [])
IsPlan-push cells p i t l a n h = record {
  proper = IsProper-push (length cells) p i t l a h.proper;
  differs = DiffersFrom-push cells p i t n h.differs;
}

-- a cell that has the text already needs no plan
pub flipped-has : (cells : List (List ℕ)) (p : Changes) (i : ℕ) (t : List ℕ) → Avoids i p → slice_get cells i ≡ Some t
    → flipped cells p ≡ set (flipped cells p) i t
flipped-has cells p i t a h =
    let now = get_or_from_slice_get (flipped cells p) i t t (slice_get-flipped cells p i a ∙ h) in
    sym (set-get_or (flipped cells p) i t) ∙ ap (λ x. set (flipped cells p) i x) now

-- what the exchanges of a patch's first i members have left to do
pub record Exchanges (old : List (List ℕ)) (patch : Changes) (now : List (List ℕ)) (came : Changes) (i : ℕ) : Type 0
  where
    pub count : length now ≡ length old
    pub names : length came ≡ length patch
    pub proper : IsProper (length now) (drop i came)
    pub texts : flipped now (drop i came) ≡ flipped old patch
    pub out : take i came ++ taken_out now (drop i came) ≡ taken_out old patch

has_cell : (cells : List (List ℕ)) (i : ℕ) (t : List ℕ) → i < length cells → slice_index_or cells i [] ≡ t
    → slice_get cells i ≡ Some t
has_cell cells i t l h = slice_get-get_or cells i [] l ∙ ap Some h

pub has_text : (cells : List (List ℕ)) (i : ℕ) (t : List ℕ) → i < length cells
    → bytes_eq (slice_index_or cells i []) t ≡ true → slice_get cells i ≡ Some t
has_text cells i t l h = has_cell cells i t l ((bytes_eq-Decides (slice_index_or cells i []) t).0 h)

pub has_other : (cells : List (List ℕ)) (i : ℕ) (t : List ℕ) → bytes_eq (slice_index_or cells i []) t ≡ false
    → slice_get cells i ≢ Some t
has_other cells i t h k = not_from_Decides (bytes_eq (slice_index_or cells i []) t)
    (bytes_eq-Decides (slice_index_or cells i []) t) h (get_or_from_slice_get cells i t [] k)

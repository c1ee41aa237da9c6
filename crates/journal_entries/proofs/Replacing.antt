-- What a turn's patch weighs.
use Rattle.std.proofs.Common.{◌≡◌, ◌≢◌, ◌++◌, ℕ, zero, suc, ◌+◌, ◌<◌, ◌≤◌, true, false, List, [], ◌∷◌, length, get_or}
use Rattle.std.proofs.Common.{set, slice_get, sum_by, bytes_eq, refl, sym, ap, ◌∙◌, arith, Some, length-set}
use Rattle.std.proofs.lemmas.List.Sums.{sum_by-cons, sum_by-append}
use Rattle.std.proofs.lemmas.Bool.{false_from_ne_true}
use Rattle.std.proofs.lemmas.Slice.Eq.{bytes_eq-Decides}
use Rattle.externals.proofs.Flipping.{slice_get-set_other}
use Rattle.externals.specs.Cells.{Changes, Avoids, IsProper, HasTexts, DiffersFrom, IsPatch, taken_out}
use Rattle.stack_places.specs.Places.{size_of, text}
use Rattle.journal_entries.specs.Places.{cell}
use Rattle.journal_entries.specs.Replaced.{Replacement, differing, replaced_from, replaced_by_turn, back_weight}
use Rattle.journal_entries.specs.Replaced.{forth_weight}

abbrev back_of : Replacement → ℕ
back_of r = 32 + size_of r.old

abbrev forth_of : Replacement → ℕ
forth_of r = 32 + size_of r.new

bytes_same : (t : List ℕ) → bytes_eq t t ≡ true
bytes_same t = (bytes_eq-Decides t t).1 refl

pub bytes_differ : (a b : List ℕ) → a ≢ b → bytes_eq a b ≡ false
bytes_differ a b h = false_from_ne_true (bytes_eq a b) (λ e. h ((bytes_eq-Decides a b).0 e))

differing-same : (i c : ℕ) (t : List ℕ) → differing i c t t ≡ []
differing-same i c t = rw bytes_same refl

differing-other : (i c : ℕ) (t u : List ℕ) → t ≢ u
    → differing i c t u ≡ record { place = cell i c; old = Some (text t); new = Some (text u) } ∷ []
differing-other i c t u h = rw (bytes_differ t u h) refl

-- a cell that changed counts with its old text, and with its new one
abbrev Restores : (Replacement → ℕ) → ℕ → ℕ → List (List ℕ) → List (List ℕ) → List (List ℕ) → ℕ → Type 0
Restores f i c old new restored more =
    sum_by f (replaced_from i c old new) ≡ sum_by f (replaced_from i c old restored) + more

restore-head : (f : Replacement → ℕ) (i c : ℕ) (t u : List ℕ) (ts us : List (List ℕ)) → t ≢ u
    → Restores f i c (t ∷ ts) (u ∷ us) (t ∷ us)
    (f (record { place = cell i c; old = Some (text t); new = Some (text u) }))
restore-head f i c t u ts us h =
    let r : Replacement = record { place = cell i c; old = Some (text t); new = Some (text u) } in
    let rest = replaced_from i (c + 1) ts us in
    ap (λ d. sum_by f (d ++ rest)) (differing-other i c t u h)
    ∙ omega (arith, sum_by-cons f r rest, ap (λ d. sum_by f (d ++ rest)) (differing-same i c t))

restore-tail : (f : Replacement → ℕ) (i c : ℕ) (t u : List ℕ) (ts us vs : List (List ℕ)) (more : ℕ)
    → Restores f i (c + 1) ts us vs more → Restores f i c (t ∷ ts) (u ∷ us) (u ∷ vs) more
restore-tail f i c t u ts us vs more h = omega (
  arith,
  h,
  sum_by-append f (differing i c t u) (replaced_from i (c + 1) ts us),
  sum_by-append f (differing i c t u)
      (replaced_from i (c + 1) ts vs),
)

restore-back : (i c : ℕ) (old new : List (List ℕ)) (j : ℕ) (t : List ℕ) → j < length new → length new ≡ length old
    → slice_get old j ≡ Some t → slice_get new j ≢ Some t → Restores back_of i c old new (set new j t) (32 + length t)
restore-back i c [] [] j t l n h d = absurd (omega arith)
restore-back i c [] (u ∷ us) j t l n h d = absurd (omega arith)
restore-back i c (s ∷ ts) [] j t l n h d = absurd (omega arith)
restore-back i c (s ∷ ts) (u ∷ us) zero t l n h d =
    let same : s ≡ t = cc in
    rw (← same) (restore-head back_of i c s u ts us (λ e. d (ap (λ x. Some x) (sym e ∙ same))))
restore-back i c (s ∷ ts) (u ∷ us) (suc j) t l n h d = restore-tail back_of i c s u ts us (set us j t) (32 + length t)
    (restore-back i (c + 1) ts us j t (omega arith) (omega arith) h d)

restore-forth : (i c : ℕ) (old new : List (List ℕ)) (j : ℕ) (t : List ℕ) → j < length new → length new ≡ length old
    → slice_get old j ≡ Some t → slice_get new j ≢ Some t
    → Restores forth_of i c old new (set new j t) (32 + length (get_or new j t))
restore-forth i c [] [] j t l n h d = absurd (omega arith)
restore-forth i c [] (u ∷ us) j t l n h d = absurd (omega arith)
restore-forth i c (s ∷ ts) [] j t l n h d = absurd (omega arith)
restore-forth i c (s ∷ ts) (u ∷ us) zero t l n h d =
    let same : s ≡ t = cc in
    rw (← same) (restore-head forth_of i c s u ts us (λ e. d (ap (λ x. Some x) (sym e ∙ same))))
restore-forth i c (s ∷ ts) (u ∷ us) (suc j) t l n h d = restore-tail forth_of i c s u ts us (set us j t)
    (32 + length (get_or us j t)) (restore-forth i (c + 1) ts us j t (omega arith) (omega arith) h d)

-- other cells differ as before
still-differs : (new : List (List ℕ)) (p : Changes) (c : ℕ) (t : List ℕ) → Avoids c p → DiffersFrom new p
    → DiffersFrom (set new c t) p
still-differs new [] c t a d = tt
still-differs new (e ∷ p) c t a d =
    (λ q. d.0 (sym (slice_get-set_other new c e.0 t (λ x. a.0 (sym x))) ∙ q), still-differs new p c t a.1 d.1)

abbrev pub patch_weight : Changes → ℕ
patch_weight = sum_by (λ e. 32 + length e.1)

weighs-back : (i : ℕ) (old new : List (List ℕ)) (p : Changes) → length new ≡ length old → IsProper (length old) p
    → HasTexts old p → DiffersFrom new p → patch_weight p ≤ back_weight (replaced_by_turn i old new)
weighs-back i old new [] n proper texts d = omega arith
weighs-back i old new (e ∷ p) n proper texts d =
    let rest = weighs-back i old (set new e.0 e.1) p (length-set new e.0 e.1 ∙ n) proper.2 texts.1
    (still-differs new p e.0 e.1 proper.1 d.1) in
    omega (
      arith,
      sum_by-cons (λ x. 32 + length x.1) e p,
      rest,
      restore-back i 0 old new e.0 e.1
          (omega (arith, proper.0)) n texts.0 d.0,
    )

weighs-forth : (i : ℕ) (old new : List (List ℕ)) (p : Changes) → length new ≡ length old → IsProper (length old) p
    → HasTexts old p → DiffersFrom new p → patch_weight (taken_out new p) ≤ forth_weight (replaced_by_turn i old new)
weighs-forth i old new [] n proper texts d = omega arith
weighs-forth i old new (e ∷ p) n proper texts d =
    let rest = weighs-forth i old (set new e.0 e.1) p (length-set new e.0 e.1 ∙ n) proper.2 texts.1
    (still-differs new p e.0 e.1 proper.1 d.1) in
    omega (
      arith,
      sum_by-cons (λ x. 32 + length x.1) (e.0, get_or new e.0 e.1) (taken_out (set new e.0 e.1) p),
      rest,
      restore-forth i 0 old new e.0 e.1 (omega (arith, proper.0)) n texts.0 d.0,
    )

-- the patch of a turn weighs no more than what the turn replaces
pub patch_back : (i : ℕ) (old new : List (List ℕ)) (p : Changes) → IsPatch old new p
    → patch_weight p ≤ back_weight (replaced_by_turn i old new)
patch_back i old new p q = weighs-back i old new p q.count q.proper q.old_texts q.changed

pub patch_forth : (i : ℕ) (old new : List (List ℕ)) (p : Changes) → IsPatch old new p
    → patch_weight (taken_out new p) ≤ forth_weight (replaced_by_turn i old new)
patch_forth i old new p q = weighs-forth i old new p q.count q.proper q.old_texts q.changed

-- cells that are as they were are no replacement
pub replaced-same : (i c : ℕ) (cells : List (List ℕ)) → replaced_from i c cells cells ≡ []
replaced-same i c [] = refl
replaced-same i c (t ∷ ts) =
    ap (λ d. d ++ replaced_from i (c + 1) ts ts) (differing-same i c t) ∙ replaced-same i (c + 1) ts

-- a patch that names a cell replaces one
pub replaced-some : (i : ℕ) (old new : List (List ℕ)) (e : ℕ × List ℕ) (p : Changes) → IsPatch old new (e ∷ p)
    → 0 < length (replaced_by_turn i old new)
replaced-some i old new e p q =
    by (replaced_by_turn i old new) (patch_back i old new (e ∷ p) q) (sum_by-cons (λ x. 32 + length x.1) e p)
  where
    by : (rs : List Replacement) → patch_weight (e ∷ p) ≤ back_weight rs
        → patch_weight (e ∷ p) ≡ 32 + length e.1 + patch_weight p → 0 < length rs
    by [] h k = absurd (omega arith)
    by (r ∷ rs) h k = omega arith

-- Blocks of a text, and the delimiters in them.
use Rattle.std.proofs.Common.{◌≡◌, refl, sym, ◌∙◌, ap, subst, ℕ, zero, suc, ◌+◌, ◌-◌, ◌<◌, ◌≤◌, List, [], ◌∷◌, ◌++◌}
use Rattle.std.proofs.Common.{Bool, true, false, cond, length, take, drop, length-drop, length-take, take-append-drop}
use Rattle.std.proofs.Common.{drop-drop, zero-add, arith, count_by, slice_get, slice_index, slice_range, if◌then◌else◌}
use Rattle.std.proofs.Math.Seq.{take-add}
use Rattle.std.proofs.lemmas.List.Sums.{count_by-le-length, sum_by-append}
use Rattle.std.proofs.lemmas.List.Splits.{length-slice_split}
use Rattle.chunks.specs.declared.chunk.Span.{Span}
use Rattle.chunks.specs.Pieces.{delimited}
use Rattle.chunks.specs.Scan.{all_kept, is_delimiter, kept, scan}
use Rattle.chunks.proofs.Scans.{ended}

-- the text from a place on is a block and the rest
block_and_rest : (t : List ℕ) (at end : ℕ) → at ≤ end → drop at t ≡ slice_range t at end ++ drop end t
block_and_rest t at end low =
    let e : at + (end - at) ≡ end = omega arith in
    sym (ap (λ xs. slice_range t at end ++ xs) (sym (drop-drop (end - at) at t ∙ ap (λ n. drop n t) e))
    ∙ take-append-drop (end - at) (drop at t))

block_length : (t : List ℕ) (at end : ℕ) → at ≤ end → end ≤ length t → at + length (slice_range t at end) ≡ end
block_length t at end low high = omega (arith, length-take (end - at) (drop at t), length-drop at t)

module _ (c : ℕ) where
  abbrev cut : ℕ → Bool
  cut b = is_delimiter c b

  abbrev scanned : ℕ → ℕ → List ℕ → List Span
  scanned start at bs = scan cut all_kept start at bs

  -- the delimiters up to the end of a block
  pub counted : (t : List ℕ) (at end : ℕ) → at ≤ end
      → count_by (is_delimiter c) (take end t)
      ≡ count_by (is_delimiter c) (take at t) + count_by (is_delimiter c) (slice_range t at end)
  counted t at end low =
      let e : end ≡ at + (end - at) = omega arith in
      ap (λ n. count_by cut (take n t)) e ∙ ap (count_by cut) (take-add at (end - at) t)
      ∙ sum_by-append (λ b. cond (cut b) 1 0) (take at t) (take (end - at) (drop at t))

  pub few_counted : (t : List ℕ) (at : ℕ) → count_by (is_delimiter c) (take at t) ≤ at
  few_counted t at = omega (arith, count_by-le-length cut (take at t), length-take at t)

  -- a part ends at a delimiter
  pub part_ended : (t : List ℕ) (start i : ℕ) → i < length t → is_delimiter c (slice_index t i) ≡ true
      → scan (is_delimiter c) all_kept start i (drop i t) ≡ record { start = start; after = i }
      ∷ scan (is_delimiter c) all_kept (i + 1) (i + 1) (drop (i + 1) t)
  part_ended t start i more e = ended cut all_kept t start i 0 more e

  pub next_part : (t : List ℕ) (start i left : ℕ) → i < length t → is_delimiter c (slice_index t i) ≡ true → 0 < left
      → slice_get (scan (is_delimiter c) all_kept start i (drop i t)) left
      ≡ slice_get (scan (is_delimiter c) all_kept (i + 1) (i + 1) (drop (i + 1) t)) (left - 1)
  next_part t start i left more e some =
      let one_more : left ≡ suc (left - 1) = omega arith in
      let first : Span = record { start = start; after = i } in
      ap (λ ss. slice_get ss left) (part_ended t start i more e)
      ∙ ap (slice_get (first ∷ scanned (i + 1) (i + 1) (drop (i + 1) t))) one_more

  pub pieces_counted : (t : List ℕ) → 0 < length t → length (delimited c t) ≡ count_by (is_delimiter c) t + 1
  pieces_counted [] some = absurd (omega arith)
  pieces_counted (b ∷ bs) some = length-slice_split cut (b ∷ bs)

  counted_cons : (x : ℕ) (xs : List ℕ) → count_by cut (x ∷ xs) ≡ cond (cut x) 1 0 + count_by cut xs
  counted_cons x xs =
      sum_by-append (λ b. cond (cut b) 1 0) (x ∷ []) xs ∙ ap (λ m. m + count_by cut xs) (zero-add (cond (cut x) 1 0))

  -- where a part begins matters to no part after it
  later_start : (bs : List ℕ) (at start other n : ℕ) → 0 < n
      → slice_get (scanned start at bs) n ≡ slice_get (scanned other at bs) n
  unfolding scan
  later_start bs at start other zero some = absurd (omega arith)
  later_start [] at start other (suc n) some = refl
  later_start (b ∷ bs) at start other (suc n) some =
      elim (cut b) as (λ v. slice_get
      (if v then kept all_kept start at (scanned (at + 1) (at + 1) bs) else scanned start (at + 1) bs) (suc n)
      ≡ slice_get (if v then kept all_kept other at (scanned (at + 1) (at + 1) bs) else scanned other (at + 1) bs)
      (suc n)) [
        | true ↦ refl
        | false ↦ later_start bs (at + 1) start other (suc n) some
      ]

  passed : (xs ys : List ℕ) (at start other n : ℕ) → count_by cut xs < n
      → slice_get (scanned start at (xs ++ ys)) n ≡ slice_get (scanned other (at + length xs) ys) (n - count_by cut xs)
  unfolding scan
  passed [] ys at start other n few =
      let some : 0 < n = omega arith in
      let same_place : at + 0 ≡ at = omega arith in
      let same_number : n - 0 ≡ n = omega arith in
      later_start ys at start other n some
      ∙ sym (ap (λ m. slice_get (scanned other m ys) (n - 0)) same_place
      ∙ ap (slice_get (scanned other at ys)) same_number)
  passed (x ∷ xs) ys at start other n few =
      let many : ℕ = count_by cut xs in
      let next : at + 1 + length xs ≡ at + suc (length xs) = omega arith in
      let later : List Span = scanned (at + 1) (at + 1) (xs ++ ys) in
      let all : count_by cut (x ∷ xs) ≡ cond (cut x) 1 0 + many = counted_cons x xs in
      let less : cond (cut x) 1 0 + many < n = omega (arith, all) in
      (elim (cut x) as (λ v. cond v 1 0 + many < n
      → slice_get (if v then kept all_kept start at later else scanned start (at + 1) (xs ++ ys)) n
      ≡ slice_get (scanned other (at + suc (length xs)) ys) (n - (cond v 1 0 + many))) [
        | true ↦ λ h.
            let one_less : n ≡ suc (n - 1) = omega arith in
            let fewer : many < n - 1 = omega arith in
            let number : n - 1 - many ≡ n - (1 + many) = omega arith in
            ap (slice_get (kept all_kept start at later)) one_less
            ∙ passed xs ys (at + 1) (at + 1) other (n - 1) fewer
            ∙ ap (λ m. slice_get (scanned other m ys) (n - 1 - many)) next
            ∙ ap (slice_get (scanned other (at + suc (length xs)) ys)) number
        | false ↦ λ h.
            let fewer : many < n = omega arith in
            let number : n - many ≡ n - (0 + many) = omega arith in
            passed xs ys (at + 1) start other n fewer
            ∙ ap (λ m. slice_get (scanned other m ys) (n - many)) next
            ∙ ap (slice_get (scanned other (at + suc (length xs)) ys)) number
      ] less) ∙ sym (ap (λ m. slice_get (scanned other (at + suc (length xs)) ys) (n - m)) all)

  uncut : (xs ys : List ℕ) (at start : ℕ) → count_by cut xs ≡ 0
      → scanned start at (xs ++ ys) ≡ scanned start (at + length xs) ys
  unfolding scan
  uncut [] ys at start none =
      let same_place : at + 0 ≡ at = omega arith in sym (ap (λ m. scanned start m ys) same_place)
  uncut (x ∷ xs) ys at start none =
      let many : ℕ = count_by cut xs in
      let next : at + 1 + length xs ≡ at + suc (length xs) = omega arith in
      let all : cond (cut x) 1 0 + many ≡ 0 = sym (counted_cons x xs) ∙ none in
      elim (cut x) as (λ v. cond v 1 0 + many ≡ 0
      → (if v then kept all_kept start at (scanned (at + 1) (at + 1) (xs ++ ys)) else scanned start (at + 1)
      (xs ++ ys)) ≡ scanned start (at + suc (length xs)) ys) [
        | true ↦ λ h. absurd (omega arith)
        | false ↦ λ h. let fewer : many ≡ 0 =
            omega arith in uncut xs ys (at + 1) start fewer ∙ ap (λ m. scanned start m ys) next
      ] all

  -- a block with fewer delimiters than are to be passed
  pub block_passed : (t : List ℕ) (start at end left many : ℕ) → at ≤ end → end ≤ length t
      → many ≡ count_by (is_delimiter c) (slice_range t at end) → many < left
      → slice_get (scan (is_delimiter c) all_kept start at (drop at t)) left
      ≡ slice_get (scan (is_delimiter c) all_kept end end (drop end t)) (left - many)
  block_passed t start at end left many low high count few =
      let block : List ℕ = slice_range t at end in
      ap (λ bs. slice_get (scanned start at bs) left) (block_and_rest t at end low)
      ∙ passed block (drop end t) at start end left (subst (λ m. m < left) count few)
      ∙ ap (λ m. slice_get (scanned end m (drop end t)) (left - count_by cut block)) (block_length t at end low high)
      ∙ ap (λ m. slice_get (scanned end end (drop end t)) (left - m)) (sym count)

  -- a block without a delimiter
  pub block_uncut : (t : List ℕ) (start at end : ℕ) → at ≤ end → end ≤ length t
      → count_by (is_delimiter c) (slice_range t at end) ≡ 0
      → scan (is_delimiter c) all_kept start at (drop at t) ≡ scan (is_delimiter c) all_kept start end (drop end t)
  block_uncut t start at end low high none =
      let block : List ℕ = slice_range t at end in
      ap (scanned start at) (block_and_rest t at end low) ∙ uncut block (drop end t) at start none
      ∙ ap (λ m. scanned start m (drop end t)) (block_length t at end low high)

-- Pieces stand in order, and the part from one to another cuts the text.
use Rattle.std.proofs.Common.{◌≡◌, refl, sym, ◌∙◌, ap, subst, ℕ, zero, suc, ◌+◌, ◌-◌, ◌≤◌, List, [], ◌∷◌, ◌++◌, Bool}
use Rattle.std.proofs.Common.{true, false, cond, length, map, drop, take, slice_get, Option, Some, None, arith}
use Rattle.std.specs.Prelude.{⊤, nat_le, IfSome, if◌then◌else◌, ◌==◌}
use Rattle.std.specs.List.{filter, slice_split, onto_first}
use Rattle.std.specs.Option.{option_map, unwrap_or}
use Rattle.std.proofs.lemmas.Option.{same_Some}
use Rattle.std.proofs.lemmas.List.{append_assoc, drop-drop, take-append-drop}
use Rattle.std.proofs.lemmas.List.Splits.{slice_split-cons_no, slice_split-cons_yes}
use Rattle.chunks.specs.declared.chunk.Chunk.{Chunk}
use Rattle.ht_values.specs.declared.word.ChunkKind.{ChunkKind}
use Rattle.ht_values.specs.declared.word.ChunkKind.TheVariants as kind
use Rattle.chunks.specs.declared.chunk.Span.{Span}
use Rattle.chunks.specs.Change.{closed_up, removed}
use Rattle.chunks.specs.Laws.{IsCutBy, PartsCut, NoneDeleted}
use Rattle.chunks.specs.Pieces.{is_gap, is_wide, delimited, spans, spans_from, count, found, across, first_from}
use Rattle.chunks.specs.Pieces.{last_to, number_at, left, middle, right, stretch}

-- the parts follow one another from a place on, up to the end
abbrev InOrder : ℕ → ℕ → List Span → Type 0
InOrder at end [] = ⊤
InOrder at end (s ∷ ss) = (at ≤ s.start) × (s.start ≤ s.after) × (s.after ≤ end) × InOrder s.after end ss

earlier : (low at end : ℕ) (ss : List Span) → low ≤ at → InOrder at end ss → InOrder low end ss
earlier low at end [] l h = tt
earlier low at end (s ∷ ss) l h = let below : at ≤ s.start = h.0 in (omega arith, h.1, h.2, h.3)

filter_cons : (at end : ℕ) (s : Span) (ss fs : List Span) (v : Bool) → InOrder at end (s ∷ ss) → InOrder s.after end fs
    → InOrder at end (cond v (s ∷ fs) fs)
filter_cons at end s ss fs true h r = (h.0, h.1, h.2, r)
filter_cons at end s ss fs false h r = let a : at ≤ s.start = h.0 in let b : s.start ≤ s.after = h.1 in let l : at
    ≤ s.after = omega arith in earlier at s.after end fs l r

filter_order : (at end : ℕ) (ss : List Span) → InOrder at end ss → InOrder at end (filter is_wide ss)
filter_order at end [] h = tt
filter_order at end (s ∷ ss) h =
    filter_cons at end s ss (filter is_wide ss) (is_wide s) h (filter_order s.after end ss h.3)

char_order : (at : ℕ) (bs : List ℕ) → InOrder at (at + length bs) (spans_from at 0 (map (λ b. b ∷ []) bs))
char_order at [] = tt
char_order at (b ∷ bs) =
    let e : at + 1 + 0 + length bs ≡ at + suc (length bs) = omega arith in
    let l : at + 1 ≤ at + 1 + 0 = omega arith in (
      omega arith,
      omega arith,
      omega arith,
      earlier (at + 1) (at + 1 + 0) (at + suc (length bs))
          (spans_from (at + 1 + 0) 0 (map (λ c. c ∷ []) bs)) l
          (subst (λ n. InOrder (at + 1 + 0) n (spans_from (at + 1 + 0) 0 (map (λ c. c ∷ []) bs))) e
          (char_order (at + 1 + 0) bs)),
    )

-- the first part ends in time, and those after it are in order
abbrev Fits : ℕ → ℕ → List (List ℕ) → Type 0
Fits at end [] = ⊤
Fits at end (q ∷ qs) = (at + length q ≤ end) × InOrder (at + length q) end (spans_from (at + length q + 1) 1 qs)

whole : (at end : ℕ) (ps : List (List ℕ)) → Fits at end ps → InOrder at end (spans_from at 1 ps)
whole at end [] h = tt
whole at end (q ∷ qs) h = (omega arith, omega arith, h.0, h.1)

fits_onto : (at end b : ℕ) (ps : List (List ℕ)) → at + 1 ≤ end → Fits (at + 1) end ps → Fits at end (onto_first b ps)
fits_onto at end b [] l h = (l, tt)
fits_onto at end b (q ∷ qs) l h =
    let e : at + 1 + length q ≡ at + suc (length q) = omega arith in
    subst (λ n. (n ≤ end) × InOrder n end (spans_from (n + 1) 1 qs)) e (h.0, h.1)

module _ (cut : ℕ → Bool) where
  fits_cons : (at end b : ℕ) (bs : List ℕ) (v : Bool) → cut b ≡ v → at + 1 ≤ end
      → Fits (at + 1) end (slice_split cut bs) → Fits at end (slice_split cut (b ∷ bs))
  fits_cons at end b bs true c l h =
      let e : at + 1 ≡ at + 0 + 1 = omega arith in
      let low : at + 0 ≤ at + 1 = omega arith in
      let rest : InOrder (at + 0) end (spans_from (at + 1) 1 (slice_split cut bs)) = earlier (at + 0) (at + 1) end
      (spans_from (at + 1) 1 (slice_split cut bs)) low (whole (at + 1) end (slice_split cut bs) h) in
      let first : at + 0 ≤ end = omega arith in
      subst (Fits at end) (sym (slice_split-cons_yes cut b bs c))
      (first, subst (λ n. InOrder (at + 0) end (spans_from n 1 (slice_split cut bs))) e rest)
  fits_cons at end b bs false c l h =
      subst (Fits at end) (sym (slice_split-cons_no cut b bs c)) (fits_onto at end b (slice_split cut bs) l h)

  fits : (at end : ℕ) (bs : List ℕ) → at + length bs ≤ end → Fits at end (slice_split cut bs)
  fits at end [] l = (l, tt)
  fits at end (b ∷ bs) l =
      let next : at + 1 + length bs ≤ end = omega arith in
      let one : at + 1 ≤ end = omega arith in
      fits_cons at end b bs (cut b) refl one (fits (at + 1) end bs next)

  parts_order : (t : List ℕ) → InOrder 0 (length t) (spans_from 0 1 (slice_split cut t))
  parts_order t =
      let l : 0 + length t ≤ length t = omega arith in whole 0 (length t) (slice_split cut t) (fits 0 (length t) t l)

delimited_order : (c : ℕ) (t : List ℕ) → InOrder 0 (length t) (spans_from 0 1 (delimited c t))
delimited_order c [] = tt
delimited_order c (b ∷ bs) = parts_order (λ x. x == c) (b ∷ bs)

spans_order : (d : ℕ) (k : ChunkKind) (t : List ℕ) → InOrder 0 (length t) (spans d k t)
unfolding spans
spans_order d kind.Char t = let e : 0 + length t
    ≡ length t = omega arith in subst (λ n. InOrder 0 n (spans_from 0 0 (map (λ b. b ∷ []) t))) e (char_order 0 t)
spans_order d kind.Word t = filter_order 0 (length t) (spans_from 0 1 (slice_split is_gap t)) (parts_order is_gap t)
spans_order d kind.Item t = delimited_order d t
spans_order d kind.Line t = delimited_order 13 t

-- a part of the list lies from its low place on up to the end
lies_at : (at end : ℕ) (ss : List Span) (j : ℕ) (b : Span) → InOrder at end ss → slice_get ss j ≡ Some b
    → (at ≤ b.after) × (b.after ≤ end)
lies_at at end [] j b h e = let no : ⊥ = cc in absurd no
lies_at at end (x ∷ xs) zero b h e =
    let low : at ≤ x.start = h.0 in let up : x.start ≤ x.after = h.1 in let l : at ≤ x.after = omega arith in
    subst (λ y. (at ≤ y.after) × (y.after ≤ end)) (same_Some x b e) (l, h.2)
lies_at at end (x ∷ xs) (suc j) b h e =
    let low : at ≤ x.start = h.0 in let up : x.start ≤ x.after = h.1 in
    let r = lies_at x.after end xs j b h.3 e in
    let past : x.after ≤ b.after = r.0 in
    (omega arith, r.1)

pair_lies : (at end : ℕ) (ss : List Span) (i j : ℕ) (a b : Span) → i ≤ j → InOrder at end ss → slice_get ss i ≡ Some a
    → slice_get ss j ≡ Some b → (a.start ≤ b.after) × (b.after ≤ end)
pair_lies at end [] i j a b l h e f = let no : ⊥ = cc in absurd no
pair_lies at end (x ∷ xs) zero zero a b l h e f =
    subst (λ y. (y.start ≤ b.after) × (b.after ≤ end)) (same_Some x a e)
    (subst (λ y. (x.start ≤ y.after) × (y.after ≤ end)) (same_Some x b f) (h.1, h.2))
pair_lies at end (x ∷ xs) zero (suc j) a b l h e f =
    let up : x.start ≤ x.after = h.1 in
    let r = lies_at x.after end xs j b h.3 f in
    let past : x.after ≤ b.after = r.0 in
    let fine : x.start ≤ b.after = omega arith in
    subst (λ y. (y.start ≤ b.after) × (b.after ≤ end)) (same_Some x a e) (fine, r.1)
pair_lies at end (x ∷ xs) (suc i) zero a b l h e f = let no : ⊥ = omega arith in absurd no
pair_lies at end (x ∷ xs) (suc i) (suc j) a b l h e f =
    let m : i ≤ j = omega arith in pair_lies x.after end xs i j a b m h.3 e f

module _ (t : List ℕ) (s : Span) (forward : s.start ≤ s.after) where
  rejoined : left t s ++ middle t s ++ right t s ≡ t
  rejoined =
      let n : ℕ = s.after - s.start in
      let rest : List ℕ = drop s.start t in
      let e : s.start + n ≡ s.after = omega arith in
      append_assoc (take s.start t) (take n rest) (drop s.after t)
      ∙ ap (λ xs. take s.start t ++ (take n rest ++ xs)) (sym (drop-drop n s.start t ∙ ap (λ k. drop k t) e))
      ∙ ap (λ xs. take s.start t ++ xs) (take-append-drop n rest)
      ∙ take-append-drop s.start t

across_cuts : (t : List ℕ) (ss : List Span) (i j : ℕ) (s : Span) (oa ob : Option Span) → i ≤ j → InOrder 0 (length t) ss
    → slice_get ss i ≡ oa → slice_get ss j ≡ ob → across oa ob ≡ Some s → IsCutBy t s
across_cuts t ss i j s None ob l h ea eb e = let no : ⊥ = cc in absurd no
across_cuts t ss i j s (Some a) None l h ea eb e = let no : ⊥ = cc in absurd no
across_cuts t ss i j s (Some a) (Some b) l h ea eb e =
    let r = pair_lies 0 (length t) ss i j a b l h ea eb in
    let m : Span = record { start = a.start; after = b.after } in
    subst (IsCutBy t) (same_Some m s e) (record { forward = r.0; within = r.1; three = rejoined t m r.0 })

stretch_cuts : (t : List ℕ) (ss : List Span) (first last : ℕ) (s : Span) (v : Bool) → InOrder 0 (length t) ss
    → nat_le first last ≡ v → (if v then across (slice_get ss (first - 1)) (slice_get ss (last - 1)) else None) ≡ Some s
    → IsCutBy t s
stretch_cuts t ss first last s false h n e = let no : ⊥ = cc in absurd no
stretch_cuts t ss first last s true h n e =
    let l : first - 1 ≤ last - 1 = grind arith in
    across_cuts t ss (first - 1) (last - 1) s (slice_get ss (first - 1)) (slice_get ss (last - 1)) l h refl refl e

pub none_deleted : NoneDeleted
unfolding removed
none_deleted d c t e = ap (λ o. unwrap_or (option_map (λ s. closed_up c.kind (left t s) (right t s)) o) t) e

pub parts_cut : PartsCut
unfolding found
parts_cut d c t s e =
    let many : ℕ = count d c.kind t in
    let first : ℕ = first_from (number_at many c.from) in
    let last : ℕ = last_to many (number_at many c.to) in
    stretch_cuts t (spans d c.kind t) first last s (nat_le first last) (spans_order d c.kind t) refl e

pub stretch_within : (d : ℕ) (k : ChunkKind) (t : List ℕ) (first last : ℕ) (o : Option Span)
    → o ≡ stretch (spans d k t) first last → IfSome o (IsCutBy t)
stretch_within d k t first last None e = tt
stretch_within d k t first last (Some s) e =
    stretch_cuts t (spans d k t) first last s (nat_le first last) (spans_order d k t) refl (sym e)

pub found_within : (d : ℕ) (c : Chunk) (t : List ℕ) (o : Option Span) → o ≡ found d c t → IfSome o (IsCutBy t)
found_within d c t None e = tt
found_within d c t (Some s) e = parts_cut d c t s (sym e)

-- What is kept, in rows: a row for each card and one for what is shared, and in each an entry for each part.
use Rattle.std.proofs.Common.{◌≡◌, ◌++◌, inl, inr, ℕ, true, false, cond, List, [], ◌∷◌, map, Option, Some, None}
use Rattle.std.proofs.Common.{option_and_then, refl, ap, ◌∙◌, arith, nat_eq, IfSome}
use Rattle.std.specs.Ordering.{nat_cmp, eq_by_cmp}
use Rattle.std.specs.declared.cmp.Ordering.{Ordering}
use Rattle.std.specs.FinMap.{find}
use Rattle.std.specs.List.{AllByRecursion, IsDistinct, flat_map}
use Rattle.std.proofs.lemmas.Bool.{cases_eq, and_right}
use Rattle.std.proofs.lemmas.Bool.Decides.{nat_tests}
use Rattle.object_table.specs.Pairs.{Pair, pair_cmp}
use Rattle.object_table.proofs.Pairs.{pair_tied}
use Rattle.object_table.proofs.Slots.{tied_apart, tied_same}
use Rattle.stack_text.specs.declared.sheets.PartContent.{PartContent}
use Rattle.stack_text.specs.Document.{Sheet, Document}
use Rattle.stack_text.specs.Listing.{contents_on, content_entries, all_contents}
use Rattle.stack_text.proofs.Entries.{keys, missing, found_each}

-- the first that is found
abbrev either : {X : Type 0} → Option X → Option X → Option X
either (Some x) other = Some x
either None other = other

find-append : {K X : Type 0} (R : K → K → Ordering) (q : K) (xs ys : List (K × X))
    → find R q (xs ++ ys) ≡ either (find R q xs) (find R q ys)
find-append R q [] ys = refl
find-append R q (e ∷ xs) ys = elim (eq_by_cmp R q e.0)
    as (λ b. cond b (Some e.1) (find R q (xs ++ ys)) ≡ either (cond b (Some e.1) (find R q xs)) (find R q ys))
    [ true ↦ refl | false ↦ find-append R q xs ys ]

pair_apart : (f c e n : ℕ) → nat_eq c n ≡ false → eq_by_cmp pair_cmp (f, c) (e, n) ≡ false
pair_apart f c e n h = pair_tied (f, c) (e, n) ∙ and_right (nat_eq f e) (nat_eq c n) h

pair_other : (f c e n : ℕ) → nat_eq f e ≡ false → eq_by_cmp pair_cmp (f, c) (e, n) ≡ false
pair_other f c e n h = pair_tied (f, c) (e, n) ∙ rw h refl

pair_same : (f e n : ℕ) → nat_eq f e ≡ true → eq_by_cmp pair_cmp (f, n) (e, n) ≡ true
pair_same f e n h = let own : nat_eq n n ≡ true = grind (arith, nat_tests) in pair_tied (f, n) (e, n) ∙ rw (h, own) refl

abbrev Row : Type 0
Row = ℕ × List (ℕ × PartContent)

module _ {X : Type 0} (pick : PartContent → Option X) where
  -- a row of another card has nothing
  row-other : (f c n : ℕ) (kept : List (ℕ × PartContent)) → nat_eq c n ≡ false
      → find pair_cmp (f, c) (content_entries pick n kept) ≡ None
  row-other f c n [] h = refl
  row-other f c n (e ∷ kept) h = by (pick e.1) refl (row-other f c n kept h)
    where
      by : (o : Option X) → pick e.1 ≡ o → find pair_cmp (f, c) (content_entries pick n kept) ≡ None
          → find pair_cmp (f, c) (content_entries pick n (e ∷ kept)) ≡ None
      by None is others = rw is others
      by (Some x) is others = let other = pair_apart f c e.0 n h in rw (is, other) others

  -- a card's row has what is found in it
  row-same : (f n : ℕ) (kept : List (ℕ × PartContent)) → IsDistinct nat_eq (keys kept)
      → find pair_cmp (f, n) (content_entries pick n kept) ≡ option_and_then pick (find nat_cmp f kept)
  unfolding IsDistinct
  row-same f n [] once = refl
  row-same f n (e ∷ kept) once = elim (cases_eq f e.0) [
    | inl k ↦
        let same : nat_eq f e.0 ≡ true = grind (arith, nat_tests) in
        here (pick e.1) refl same (tied_same f e.0 k)
        (row-same f n kept once.1 ∙ ap (option_and_then pick)
        (ap (λ z. find nat_cmp z kept) k ∙ missing e.0 kept once.0))
    | inr k ↦
        let other : nat_eq f e.0 ≡ false = grind (arith, nat_tests) in
        there (pick e.1) refl other (tied_apart f e.0 k) (row-same f n kept once.1)
  ]
    where
      here : (o : Option X) → pick e.1 ≡ o → nat_eq f e.0 ≡ true → eq_by_cmp nat_cmp f e.0 ≡ true
          → find pair_cmp (f, n) (content_entries pick n kept) ≡ None
          → find pair_cmp (f, n) (content_entries pick n (e ∷ kept)) ≡ option_and_then pick (find nat_cmp f (e ∷ kept))
      here None is same tied none = rw (tied, is) none
      here (Some x) is same tied none = let pair = pair_same f e.0 n same in rw (tied, is, pair) refl

      there : (o : Option X) → pick e.1 ≡ o → nat_eq f e.0 ≡ false → eq_by_cmp nat_cmp f e.0 ≡ false
          → find pair_cmp (f, n) (content_entries pick n kept) ≡ option_and_then pick (find nat_cmp f kept)
          → find pair_cmp (f, n) (content_entries pick n (e ∷ kept)) ≡ option_and_then pick (find nat_cmp f (e ∷ kept))
      there None is other tied others = rw (tied, is) others
      there (Some x) is other tied others = let pair = pair_other f n e.0 n other in rw (tied, is, pair) others

  abbrev of_rows : List Row → List (Pair × X)
  of_rows rows = flat_map (λ (r : Row). content_entries pick r.0 r.1) rows

  rows-none : (f c : ℕ) (rows : List Row) → AllByRecursion (λ n. nat_eq c n ≡ false) (keys rows)
      → find pair_cmp (f, c) (of_rows rows) ≡ None
  rows-none f c [] h = refl
  rows-none f c (r ∷ rows) h = find-append pair_cmp (f, c) (content_entries pick r.0 r.1) (of_rows rows)
      ∙ ap (λ o. either o (find pair_cmp (f, c) (of_rows rows))) (row-other f c r.0 r.1 h.0) ∙ rows-none f c rows h.1

  -- what is found in the row that is found
  abbrev pub looked_up : ℕ → ℕ → List Row → Option X
  looked_up f c rows = option_and_then (λ (row : List (ℕ × PartContent)). option_and_then pick (find nat_cmp f row))
      (find nat_cmp c rows)

  nothing_more : (o : Option X) → either o None ≡ o
  nothing_more None = refl
  nothing_more (Some x) = refl

  rows-found : (f c : ℕ) (rows : List Row) → IsDistinct nat_eq (keys rows)
      → AllByRecursion (λ (r : Row). IsDistinct nat_eq (keys r.1)) rows
      → find pair_cmp (f, c) (of_rows rows) ≡ looked_up f c rows
  unfolding IsDistinct
  rows-found f c [] once each = refl
  rows-found f c (r ∷ rows) once each = elim (cases_eq c r.0) [
    | inl k ↦
        rw (tied_same c r.0 k)
        (find-append pair_cmp (f, c) (content_entries pick r.0 r.1) (of_rows rows)
        ∙ ap (either (find pair_cmp (f, c) (content_entries pick r.0 r.1)))
        (ap (λ z. find pair_cmp (f, z) (of_rows rows)) k ∙ rows-none f r.0 rows once.0)
        ∙ nothing_more (find pair_cmp (f, c) (content_entries pick r.0 r.1))
        ∙ ap (λ z. find pair_cmp (f, z) (content_entries pick r.0 r.1)) k
        ∙ row-same f r.0 r.1 each.0)
    | inr k ↦
        let other : nat_eq c r.0 ≡ false = grind (arith, nat_tests) in
        rw (tied_apart c r.0 k)
        (find-append pair_cmp (f, c) (content_entries pick r.0 r.1) (of_rows rows)
        ∙ ap (λ o. either o (find pair_cmp (f, c) (of_rows rows))) (row-other f c r.0 r.1 other)
        ∙ rows-found f c rows once.1 each.1)
  ]

abbrev pub row_of : Sheet → Row
row_of c = (c.id, contents_on c)

-- the shared row, and one for each card
abbrev pub rows_of : Document → List Row
rows_of d = (0, flat_map contents_on d.backgrounds) ∷ map row_of d.cards

module _ {X : Type 0} (pick : PartContent → Option X) where
  card_rows : (cs : List Sheet) → flat_map (λ (c : Sheet). content_entries pick c.id (contents_on c)) cs
      ≡ of_rows pick (map row_of cs)
  card_rows [] = refl
  card_rows (c ∷ cs) = ap (λ (es : List (Pair × X)). content_entries pick c.id (contents_on c) ++ es) (card_rows cs)

  -- what a document keeps is looked up by its rows
  pub content-found : (d : Document) (f c : ℕ) → IsDistinct nat_eq (keys (rows_of d))
      → AllByRecursion (λ (r : Row). IsDistinct nat_eq (keys r.1)) (rows_of d)
      → find pair_cmp (f, c) (all_contents pick d) ≡ looked_up pick f c (rows_of d)
  content-found d f c once each = ap
      (λ (es : List (Pair × X)). find pair_cmp (f, c)
      (content_entries pick 0 (flat_map contents_on d.backgrounds) ++ es)) (card_rows d.cards)
      ∙ rows-found pick f c (rows_of d) once each

  -- what holds of each value that is kept holds of the one that is looked up
  pub looked_up_each : (Q : X → Type 0) (f c : ℕ) (rows : List Row)
      → AllByRecursion (λ (r : Row). AllByRecursion (λ (e : ℕ × PartContent). IfSome (pick e.1) Q) r.1) rows
      → IfSome (looked_up pick f c rows) Q
  looked_up_each Q f c rows h = in_row (find nat_cmp c rows)
      (found_each (λ (row : List (ℕ × PartContent)). AllByRecursion (λ (e : ℕ × PartContent). IfSome (pick e.1) Q) row)
      c rows h)
    where
      picked : (o : Option PartContent) → IfSome o (λ x. IfSome (pick x) Q) → IfSome (option_and_then pick o) Q
      picked None h = tt
      picked (Some x) h = h

      in_row : (o : Option (List (ℕ × PartContent)))
          → IfSome o (λ row. AllByRecursion (λ (e : ℕ × PartContent). IfSome (pick e.1) Q) row)
          → IfSome (option_and_then (λ (row : List (ℕ × PartContent)). option_and_then pick (find nat_cmp f row)) o) Q
      in_row None h = tt
      in_row (Some row) h = picked (find nat_cmp f row) (found_each (λ x. IfSome (pick x) Q) f row h)

-- A scan finds the pieces, from any place on.
use Rattle.std.proofs.Common.{◌≡◌, refl, sym, ◌∙◌, ap, subst, ℕ, zero, suc, ◌+◌, ◌<◌, List, [], ◌∷◌, Bool, true, false}
use Rattle.std.proofs.Common.{cond, length, map, slice_get, Option, Some, None, arith, ◌-◌, drop, ◌≤◌}
use Rattle.std.specs.Prelude.{if◌then◌else◌, slice_index, ◌==◌, nat_lt}
use Rattle.std.specs.List.{filter, slice_split, onto_first}
use Rattle.std.proofs.lemmas.List.Splits.{slice_split-cons_no, slice_split-cons_yes}
use Rattle.std.proofs.Math.Seq.{drop-cons, drop-length}
use Rattle.ht_values.specs.declared.word.ChunkKind.TheVariants as kind
use Rattle.chunks.specs.declared.chunk.Span.{Span}
use Rattle.chunks.specs.Pieces.{is_gap, is_wide, is_full, count, delimited, spans, spans_from}
use Rattle.chunks.specs.Scan.{all_kept, is_delimiter, kept, scan}

-- the first part begins at another place
abbrev pub widened : ℕ → List Span → List Span
widened start [] = []
widened start (s ∷ ss) = record { start = start; after = s.after } ∷ ss

widened_same : (at gap : ℕ) (ps : List (List ℕ)) → widened at (spans_from at gap ps) ≡ spans_from at gap ps
widened_same at gap [] = refl
widened_same at gap (p ∷ ps) = refl

module _ (cut : ℕ → Bool) (keep : Span → Bool) where
  some_part : (t : List ℕ) → (q : List ℕ) × (qs : List (List ℕ)) × (slice_split cut t ≡ q ∷ qs)
  some_part [] = ([], [], refl)
  some_part (b ∷ bs) = by b bs (cut b) refl (some_part bs)
    where
      by : (b : ℕ) (bs : List ℕ) (v : Bool) → cut b ≡ v
          → (q : List ℕ) × (qs : List (List ℕ)) × (slice_split cut bs ≡ q ∷ qs)
          → (q : List ℕ) × (qs : List (List ℕ)) × (slice_split cut (b ∷ bs) ≡ q ∷ qs)
      by b bs true e r = ([], slice_split cut bs, slice_split-cons_yes cut b bs e)
      by b bs false e r = (b ∷ r.0, r.1, slice_split-cons_no cut b bs e ∙ ap (onto_first b) r.2)

  longer : (start at b : ℕ) (q : List ℕ) (qs : List (List ℕ))
      → widened start (spans_from (at + 1) 1 (q ∷ qs)) ≡ widened start (spans_from at 1 (onto_first b (q ∷ qs)))
  longer start at b q qs =
      let e : at + 1 + length q ≡ at + suc (length q) = omega arith in
      ap (λ n. let s : Span = record { start = start; after = n } in s ∷ spans_from (n + 1) 1 qs) e

  pub scan_split : (start at : ℕ) (bs : List ℕ)
      → scan cut keep start at bs ≡ filter keep (widened start (spans_from at 1 (slice_split cut bs)))
  unfolding scan
  scan_split start at [] = let e : at + 0 ≡ at = omega arith in ap (λ n. kept keep start n []) (sym e)
  scan_split start at (b ∷ bs) =
      let qs : List (List ℕ) = slice_split cut bs in
      let e : at + 0 ≡ at = omega arith in
      let r = some_part bs in
      elim (cut b)
      as (λ v. (if v then kept keep start at (scan cut keep (at + 1) (at + 1) bs) else scan cut keep start (at + 1)
      bs) ≡ filter keep (widened start (spans_from at 1 (cond v ([] ∷ qs) (onto_first b qs))))) [
        | true ↦ ap (kept keep start at)
            (scan_split (at + 1) (at + 1) bs ∙ ap (filter keep) (widened_same (at + 1) 1 qs))
            ∙ ap (λ n. kept keep start n (filter keep (spans_from (n + 1) 1 qs))) (sym e)
        | false ↦ scan_split start (at + 1) bs
            ∙ ap (filter keep)
            (subst (λ ps. widened start (spans_from (at + 1) 1 ps) ≡ widened start (spans_from at 1 (onto_first b ps)))
            (sym r.2) (longer start at b r.0 r.1))
      ]

  -- what the next byte does to a scan
  module _ (t : List ℕ) (start i left : ℕ) (more : i < length t) where
    opened : drop i t ≡ slice_index t i ∷ drop (i + 1) t
    opened = let e : i + 1 ≡ suc i = omega arith in drop-cons t i 0 more ∙ ap (λ n. slice_index t i ∷ drop n t) (sym e)

    turned : scan cut keep start i (drop i t)
        ≡ (if cut (slice_index t i) then kept keep start i (scan cut keep (i + 1) (i + 1) (drop (i + 1) t)) else scan
        cut keep start (i + 1) (drop (i + 1) t))
    unfolding scan
    turned = ap (scan cut keep start i) opened

    pub inside : cut (slice_index t i) ≡ false
        → scan cut keep start i (drop i t) ≡ scan cut keep start (i + 1) (drop (i + 1) t)
    inside e = turned ∙ ap (λ v. if v then kept keep start i (scan cut keep (i + 1) (i + 1) (drop (i + 1) t)) else scan
        cut keep start (i + 1) (drop (i + 1) t)) e

    pub ended : cut (slice_index t i) ≡ true
        → scan cut keep start i (drop i t) ≡ kept keep start i (scan cut keep (i + 1) (i + 1) (drop (i + 1) t))
    ended e = turned ∙ ap (λ v. if v then kept keep start i (scan cut keep (i + 1) (i + 1) (drop (i + 1) t)) else scan
        cut keep start (i + 1) (drop (i + 1) t)) e

  -- at the end of the text
  pub finished : (t : List ℕ) (start : ℕ)
      → scan cut keep start (length t) (drop (length t) t) ≡ kept keep start (length t) []
  unfolding scan
  finished t start = ap (scan cut keep start (length t)) (drop-length t)

pub kept_first : (keep : Span → Bool) (start at : ℕ) (later : List Span)
    → keep (record { start = start; after = at }) ≡ true
    → kept keep start at later ≡ record { start = start; after = at } ∷ later
kept_first keep start at later e =
    let s : Span = record { start = start; after = at } in ap (λ v. if v then s ∷ later else later) e

pub kept_none : (keep : Span → Bool) (start at : ℕ) (later : List Span)
    → keep (record { start = start; after = at }) ≡ false → kept keep start at later ≡ later
kept_none keep start at later e =
    let s : Span = record { start = start; after = at } in ap (λ v. if v then s ∷ later else later) e

-- the last part, if it is a piece
module _ (cut : ℕ → Bool) (keep : Span → Bool) (t : List ℕ) (start i left : ℕ) (done : length t ≤ i)
    (within : i ≤ length t) where
  ending : scan cut keep start i (drop i t) ≡ kept keep start (length t) []
  ending = let e : i ≡ length t =
      omega arith in ap (λ n. scan cut keep start n (drop n t)) e ∙ finished cut keep t start

  pub last_found : left ≡ 0 → keep (record { start = start; after = length t }) ≡ true
      → slice_get (scan cut keep start i (drop i t)) left ≡ Some (record { start = start; after = length t })
  last_found e k = ap (λ n. slice_get (scan cut keep start i (drop i t)) n) e
      ∙ ap (λ xs. slice_get xs 0) (ending ∙ kept_first keep start (length t) [] k)

  pub last_dropped : keep (record { start = start; after = length t }) ≡ false
      → slice_get (scan cut keep start i (drop i t)) left ≡ None
  last_dropped k = ap (λ xs. slice_get xs left) (ending ∙ kept_none keep start (length t) [] k)

  pub none_left : 0 < left → keep (record { start = start; after = length t }) ≡ true
      → slice_get (scan cut keep start i (drop i t)) left ≡ None
  none_left some k =
      let e : left ≡ suc (left - 1) = omega arith in
      ap (λ xs. slice_get xs left) (ending ∙ kept_first keep start (length t) [] k)
      ∙ ap (λ n. slice_get (let s : Span = record { start = start; after = length t } in s ∷ []) n) e

  pub end_kept : keep (record { start = start; after = length t }) ≡ true
      → length (scan cut keep start i (drop i t)) ≡ 1
  end_kept k = ap (λ xs. length xs) (ending ∙ kept_first keep start (length t) [] k)

  pub end_dropped : keep (record { start = start; after = length t }) ≡ false
      → length (scan cut keep start i (drop i t)) ≡ 0
  end_dropped k = ap (λ xs. length xs) (ending ∙ kept_none keep start (length t) [] k)

filter_all : (ss : List Span) → filter all_kept ss ≡ ss
filter_all [] = refl
filter_all (s ∷ ss) = ap (λ xs. s ∷ xs) (filter_all ss)

pub word_spans : (d : ℕ) (t : List ℕ) → scan is_gap is_wide 0 0 t ≡ spans d kind.Word t
unfolding spans
word_spans d t = scan_split is_gap is_wide 0 0 t ∙ ap (filter is_wide) (widened_same 0 1 (slice_split is_gap t))

delimited_spans : (c b : ℕ) (bs : List ℕ)
    → scan (λ x. x == c) all_kept 0 0 (b ∷ bs) ≡ spans_from 0 1 (delimited c (b ∷ bs))
delimited_spans c b bs =
    let parts : List (List ℕ) = slice_split (λ x. x == c) (b ∷ bs) in
    scan_split (λ x. x == c) all_kept 0 0 (b ∷ bs) ∙ filter_all (widened 0 (spans_from 0 1 parts))
    ∙ widened_same 0 1 parts

pub delimited_places : (c : ℕ) (t : List ℕ) → 0 < length t
    → scan (is_delimiter c) all_kept 0 0 t ≡ spans_from 0 1 (delimited c t)
delimited_places c [] more = let no : ⊥ = omega arith in absurd no
delimited_places c (b ∷ bs) more = delimited_spans c b bs

-- each byte is a piece
abbrev bytes_of : List ℕ → List (List ℕ)
bytes_of t = map (λ b. b ∷ []) t

abbrev one_from : ℕ → Option Span
one_from at = Some (record { start = at; after = at + 1 })

char_from : (at k : ℕ) (t : List ℕ) → k < length t → slice_get (spans_from at 0 (bytes_of t)) k ≡ one_from (at + k)
char_from at k [] more = let no : ⊥ = omega arith in absurd no
char_from at zero (b ∷ bs) more = let e : at + 0 ≡ at = omega arith in ap one_from (sym e)
char_from at (suc k) (b ∷ bs) more = let below : k < length bs = omega arith in let e : at + 1 + 0 + k
    ≡ at + suc k = omega arith in char_from (at + 1 + 0) k bs below ∙ ap one_from e

pub char_found : (k : ℕ) (t : List ℕ) → k < length t
    → slice_get (spans_from 0 0 (bytes_of t)) k ≡ Some (record { start = k; after = k + 1 })
char_found k t more = let e : 0 + k ≡ k = omega arith in char_from 0 k t more ∙ ap one_from e

char_past : (at k : ℕ) (t : List ℕ) → length t ≤ k → slice_get (spans_from at 0 (bytes_of t)) k ≡ None
char_past at k [] more = refl
char_past at zero (b ∷ bs) more = let no : ⊥ = omega arith in absurd no
char_past at (suc k) (b ∷ bs) more = let below : length bs ≤ k = omega arith in char_past (at + 1 + 0) k bs below

pub char_none : (k : ℕ) (t : List ℕ) → length t ≤ k → slice_get (spans_from 0 0 (bytes_of t)) k ≡ None
char_none k t more = char_past 0 k t more

pub char_spans : (d : ℕ) (t : List ℕ) → spans_from 0 0 (bytes_of t) ≡ spans d kind.Char t
unfolding spans
char_spans d t = refl

pub not_wide : (at : ℕ) → nat_lt at (at + 0) ≡ false
not_wide at = grind arith

pub wide : (at n : ℕ) → nat_lt at (at + suc n) ≡ true
wide at n = grind arith

length_wide : (at gap : ℕ) (ps : List (List ℕ))
    → length (filter is_wide (spans_from at gap ps)) ≡ length (filter is_full ps)
length_wide at gap [] = refl
length_wide at gap ([] ∷ ps) =
    let s : Span = record { start = at; after = at + 0 } in
    let rest : List Span = filter is_wide (spans_from (at + 0 + gap) gap ps) in
    ap (λ v. length (cond v (s ∷ rest) rest)) (not_wide at) ∙ length_wide (at + 0 + gap) gap ps
length_wide at gap ((b ∷ bs) ∷ ps) =
    let s : Span = record { start = at; after = at + suc (length bs) } in
    let rest : List Span = filter is_wide (spans_from (at + suc (length bs) + gap) gap ps) in
    ap (λ v. length (cond v (s ∷ rest) rest)) (wide at (length bs))
    ∙ ap (λ n. suc n) (length_wide (at + suc (length bs) + gap) gap ps)

pub char_count : (d : ℕ) (t : List ℕ) → length t ≡ count d kind.Char t
unfolding count
char_count d [] = refl
char_count d (b ∷ bs) = ap (λ n. suc n) (char_count d bs)

pub word_count : (d : ℕ) (t : List ℕ) → length (scan is_gap is_wide 0 0 t) ≡ count d kind.Word t
unfolding spans count
word_count d t = ap (λ ss. length ss) (word_spans d t) ∙ length_wide 0 1 (slice_split is_gap t)

pub item_spans : (d : ℕ) (t : List ℕ) → spans_from 0 1 (delimited d t) ≡ spans d kind.Item t
unfolding spans
item_spans d t = refl

pub line_spans : (d : ℕ) (t : List ℕ) → spans_from 0 1 (delimited 13 t) ≡ spans d kind.Line t
unfolding spans
line_spans d t = refl

pub item_count : (d : ℕ) (t : List ℕ) → length (delimited d t) ≡ count d kind.Item t
unfolding count
item_count d t = refl

pub line_count : (d : ℕ) (t : List ℕ) → length (delimited 13 t) ≡ count d kind.Line t
unfolding count
line_count d t = refl

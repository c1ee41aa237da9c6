-- What the pieces are after a put.
use Rattle.std.proofs.Common.{◌≡◌, refl, sym, ◌∙◌, ap, subst, ℕ, zero, suc, ◌+◌, ◌-◌, ◌<◌, ◌≤◌, List, [], ◌∷◌, ◌++◌}
use Rattle.std.proofs.Common.{Bool, true, false, cond, length, map, take, drop, min, max, nat_lt, nat_le, Option, Some}
use Rattle.std.proofs.Common.{None, Ok, Err, Result, pos, ◌==◌, ◌||◌, replicate, inl, inr, ◌⊎◌, append_assoc, get_or}
use Rattle.std.proofs.Common.{length-append, arith, int_lt, slice_get, slice_set, if◌then◌else◌}
use Rattle.std.specs.List.{filter, slice_split, onto_first}
use Rattle.std.specs.Option.{option_map, unwrap_or}
use Rattle.std.specs.Result.{result_unwrap_or}
use Rattle.std.proofs.lemmas.Bool.{cases_lt, eq-eqb}
use Rattle.std.proofs.lemmas.Bool.Decides.{nat_tests}
use Rattle.std.proofs.lemmas.Option.{same_Some, slice_get-map, slice_get_cases, slice_get_within}
use Rattle.std.proofs.lemmas.List.{append-nil, length-drop, length-map, length-replicate, length-take, map-append}
use Rattle.std.proofs.lemmas.List.{map-set, nil_from_length, set_split}
use Rattle.std.proofs.lemmas.List.Elements.{filter-append}
use Rattle.std.proofs.lemmas.List.Splits.{length-slice_split, slice_split-cons_no, slice_split-cons_yes}
use Rattle.ht_values.specs.declared.fault.Fault.{Fault}
use Rattle.ht_values.specs.declared.fault.Fault.TheVariants.{BadArgument, TooLong}
use Rattle.ht_values.specs.Outcome.{within_limit}
use Rattle.ht_values.specs.declared.text.TheConstants.{LIMIT}
use Rattle.ht_values.specs.declared.word.ChunkKind.{ChunkKind}
use Rattle.ht_values.specs.declared.word.ChunkKind.TheVariants as kind
use Rattle.chunks.specs.declared.chunk.Span.{Span}
use Rattle.ht_values.specs.declared.word.Where.TheVariants as place
use Rattle.chunks.specs.Change.{padding, put, put_at, put_from}
use Rattle.chunks.specs.Laws.{IsClean, IsPiece, IsReached, IsWhole, PieceIsPut, PutReadsBack, between, one, with_piece}
use Rattle.chunks.specs.Pieces.{across, count, found, middle_of, read, delimited, is_full, is_gap, is_wide, left}
use Rattle.chunks.specs.Pieces.{middle, pieces, right, spans, spans_from, stretch}
use Rattle.chunks.proofs.Parts.{part_replaced, split_one}
use Rattle.chunks.proofs.Scans.{char_found, not_wide, wide}
use Rattle.chunks.proofs.Stands.{pieces_stand}

-- ---- what a put gives

at_least_one : (n : ℕ) → (int_lt (pos (n + 1)) (pos 1) || int_lt (pos (n + 1)) (pos (n + 1))) ≡ false
at_least_one n = grind (arith, nat_tests)

limited : (t u : List ℕ) (v : Bool) → ◌≡◌ {A = Result (List ℕ) Fault} (if v then Ok t else Err TooLong) (Ok u) → t ≡ u
limited t u true e = ap (λ r. result_unwrap_or r t) e
limited t u false e = let no_text : ⊥ = cc in absurd no_text

pub count_spans : (d : ℕ) (k : ChunkKind) (t : List ℕ) → length (spans d k t) ≡ length (pieces d k t)
count_spans d k t = sym (length-map (spans d k t) (middle t)) ∙ ap (λ ps. length ps) (pieces_stand d k t)

module _ (d : ℕ) (k : ChunkKind) (n : ℕ) (p t : List ℕ) where
  put_gives : (u : List ℕ) → put d (one k n) place.Into p t ≡ Ok u → put_from d k (n + 1) (n + 1) place.Into p t ≡ u
  unfolding put
  put_gives u e =
      let whole : List ℕ = put_from d k (n + 1) (n + 1) place.Into p t in
      limited whole u (nat_le (length whole) LIMIT)
      (sym (ap (λ v. if v then Err BadArgument else within_limit whole) (at_least_one n)) ∙ e)

  stretched : (ss : List Span) (s : Span) → slice_get ss n ≡ Some s → stretch ss (n + 1) (n + 1) ≡ Some s
  stretched ss s e =
      let at : n + 1 - 1 ≡ n = omega arith in
      let fits : nat_le (n + 1) (n + 1) ≡ true = grind arith in
      ap (λ v. if v then across (slice_get ss (n + 1 - 1)) (slice_get ss (n + 1 - 1)) else None) fits
      ∙ ap (λ m. across (slice_get ss m) (slice_get ss m)) at
      ∙ ap (λ o. across o o) e

  not_stretched : (ss : List Span) (many : ℕ) → many ≤ n → stretch ss (n + 1) many ≡ None
  not_stretched ss many past =
      let short : nat_le (n + 1) many ≡ false = grind arith in
      ap (λ v. if v then across (slice_get ss (n + 1 - 1)) (slice_get ss (many - 1)) else None) short

  found_put : (s : Span) → n < count d k t → slice_get (spans d k t) n ≡ Some s
      → put_from d k (n + 1) (n + 1) place.Into p t ≡ left t s ++ p ++ right t s
  found_put s within e =
      let many : ℕ = count d k t in
      let least : min (n + 1) many ≡ n + 1 = omega arith in
      ap (λ m. put_at d k many (n + 1) place.Into p t (stretch (spans d k t) (n + 1) m)) least
      ∙ ap (put_at d k many (n + 1) place.Into p t) (stretched (spans d k t) s e)

  past_put : count d k t ≤ n → put_from d k (n + 1) (n + 1) place.Into p t ≡ t ++ padding d k (count d k t) (n + 1) t
      ++ p
  past_put past =
      let many : ℕ = count d k t in
      let least : min (n + 1) many ≡ many = omega arith in
      ap (λ m. put_at d k many (n + 1) place.Into p t (stretch (spans d k t) (n + 1) m)) least
      ∙ ap (put_at d k many (n + 1) place.Into p t) (not_stretched (spans d k t) many past)

  replaced_with : (ps : List (List ℕ)) → n < length ps → with_piece k n p ps ≡ slice_set ps n p
  replaced_with ps within = let e : nat_lt n (length ps)
      ≡ true = grind arith in ap (λ v. if v then slice_set ps n p else ps ++ between k (n - length ps) ++ p ∷ []) e

  added_with : (ps : List (List ℕ)) → length ps ≤ n → with_piece k n p ps ≡ ps ++ between k (n - length ps) ++ p ∷ []
  added_with ps past = let e : nat_lt n (length ps)
      ≡ false = grind arith in ap (λ v. if v then slice_set ps n p else ps ++ between k (n - length ps) ++ p ∷ []) e

-- ---- a piece replaced

abbrev single : ℕ → List ℕ
single b = b ∷ []

char_replaced : (d n : ℕ) (p t : List ℕ) (s : Span) → length p ≡ 1 → slice_get (spans d kind.Char t) n ≡ Some s
    → map single (left t s ++ p ++ right t s) ≡ slice_set (map single t) n p
unfolding spans
char_replaced d n [] t s one_byte e = absurd (omega arith)
char_replaced d n (b ∷ []) t s one_byte e =
    let within : n < length t =
    omega (arith, slice_get_within (spans d kind.Char t) n s e, count_spans d kind.Char t, length-map t single) in
    let place_is = same_Some (record { start = n; after = n + 1 }) s (sym (char_found n t within) ∙ e) in
    let next : n + 1 ≡ suc n = omega arith in
    let whole : take n t ++ (b ∷ []) ++ drop (n + 1) t
    ≡ slice_set t n b = append_assoc (take n t) (b ∷ []) (drop (n + 1) t) ∙ ap (λ m. take n t ++ b ∷ drop m t) next
    ∙ sym (set_split t n b within) in
    subst (λ q. map single (left t q ++ (b ∷ []) ++ right t q) ≡ slice_set (map single t) n (b ∷ [])) place_is
    (ap (map single) whole ∙ map-set single t n b)
char_replaced d n (b ∷ c ∷ bs) t s one_byte e = absurd (omega arith)

-- a wide part among all parts, and what is left when it is replaced
record IsWideAt (at : ℕ) (ps : List (List ℕ)) (n : ℕ) (s : Span) (x : List ℕ) : Type 0 where
  index : ℕ
  stands : slice_get (spans_from at 1 ps) index ≡ Some s
  filtered : filter is_full (slice_set ps index x) ≡ slice_set (filter is_full ps) n x

full : (x : List ℕ) → 0 < length x → is_full x ≡ true
full [] some = absurd (omega arith)
full (b ∷ bs) some = refl

wide_at : (x : List ℕ) (some : 0 < length x) (ps : List (List ℕ)) (at n : ℕ) (s : Span)
    → slice_get (filter is_wide (spans_from at 1 ps)) n ≡ Some s → IsWideAt at ps n s x
wide_at x some [] at n s e = let no_part : ⊥ = cc in absurd no_part
wide_at x some ([] ∷ ps) at n s e =
    let first : Span = record { start = at; after = at + 0 } in
    let rest : List Span = filter is_wide (spans_from (at + 0 + 1) 1 ps) in
    let r = wide_at x some ps (at + 0 + 1) n s
    (sym (ap (λ v. slice_get (cond v (first ∷ rest) rest) n) (not_wide at)) ∙ e) in
    record { index = suc r.index; stands = r.stands; filtered = r.filtered }
wide_at x some ((b ∷ bs) ∷ ps) at zero s e =
    let first : Span = record { start = at; after = at + suc (length bs) } in
    let rest : List Span = filter is_wide (spans_from (at + suc (length bs) + 1) 1 ps) in
    record {
      index = 0;
      stands = sym (ap (λ v. slice_get (cond v (first ∷ rest) rest) 0) (wide at (length bs))) ∙ e;
      filtered = ap (λ v. cond v (x ∷ filter is_full ps) (filter is_full ps)) (full x some);
    }
wide_at x some ((b ∷ bs) ∷ ps) at (suc n) s e =
    let first : Span = record { start = at; after = at + suc (length bs) } in
    let rest : List Span = filter is_wide (spans_from (at + suc (length bs) + 1) 1 ps) in
    let r = wide_at x some ps (at + suc (length bs) + 1) n s
    (sym (ap (λ v. slice_get (cond v (first ∷ rest) rest) (suc n)) (wide at (length bs))) ∙ e) in
    record { index = suc r.index; stands = r.stands; filtered = ap (λ qs. (b ∷ bs) ∷ qs) r.filtered }

word_replaced : (d n : ℕ) (p t : List ℕ) (s : Span) → 0 < length p → IsWhole is_gap p
    → slice_get (spans d kind.Word t) n ≡ Some s
    → filter is_full (slice_split is_gap (left t s ++ p ++ right t s))
    ≡ slice_set (filter is_full (slice_split is_gap t)) n p
unfolding spans
word_replaced d n p t s some whole e =
    let w = wide_at p some (slice_split is_gap t) 0 n s e in
    ap (filter is_full) (part_replaced is_gap p whole t w.index s w.stands) ∙ w.filtered

delimited_full : (c : ℕ) (t : List ℕ) → 0 < length t → delimited c t ≡ slice_split (λ b. b == c) t
delimited_full c [] some = absurd (omega arith)
delimited_full c (b ∷ bs) some = refl

delimited_replaced : (c n : ℕ) (p t : List ℕ) (s : Span) → IsClean c p
    → slice_get (spans_from 0 1 (delimited c t)) n ≡ Some s → 0 < length (left t s ++ p ++ right t s)
    → delimited c (left t s ++ p ++ right t s) ≡ slice_set (delimited c t) n p
delimited_replaced c n p [] s clean e some = let no_part : ⊥ = cc in absurd no_part
delimited_replaced c n p (b ∷ bs) s clean e some =
    delimited_full c (left (b ∷ bs) s ++ p ++ right (b ∷ bs) s) some
    ∙ part_replaced (λ x. x == c) p clean (b ∷ bs) n s e

piece_replaced : (d : ℕ) (k : ChunkKind) (n : ℕ) (p t : List ℕ) (s : Span) → IsPiece d k p
    → slice_get (spans d k t) n ≡ Some s → 0 < length (left t s ++ p ++ right t s)
    → pieces d k (left t s ++ p ++ right t s) ≡ slice_set (pieces d k t) n p
unfolding spans
piece_replaced d kind.Char n p t s h e some = char_replaced d n p t s h e
piece_replaced d kind.Word n p t s h e some = word_replaced d n p t s h.0 h.1 e
piece_replaced d kind.Item n p t s h e some = delimited_replaced d n p t s h e some
piece_replaced d kind.Line n p t s h e some = delimited_replaced 13 n p t s h e some

-- ---- a piece added past the last

onto_append : (b : ℕ) (ps qs : List (List ℕ)) → 0 < length ps → onto_first b (ps ++ qs) ≡ onto_first b ps ++ qs
onto_append b [] qs some = absurd (omega arith)
onto_append b (p ∷ ps) qs some = refl

module _ (cut : ℕ → Bool) (g : ℕ) (rest : List ℕ) (cuts : cut g ≡ true) where
  split_after_cons : (b : ℕ) (bs : List ℕ) (v : Bool) → cut b ≡ v
      → slice_split cut (bs ++ g ∷ rest) ≡ slice_split cut bs ++ slice_split cut rest
      → slice_split cut (b ∷ (bs ++ g ∷ rest)) ≡ slice_split cut (b ∷ bs) ++ slice_split cut rest
  split_after_cons b bs true e h = slice_split-cons_yes cut b (bs ++ g ∷ rest) e ∙ ap (λ ps. [] ∷ ps) h
      ∙ sym (ap (λ ps. ps ++ slice_split cut rest) (slice_split-cons_yes cut b bs e))
  split_after_cons b bs false e h =
      let some : 0 < length (slice_split cut bs) = omega (arith, length-slice_split cut bs) in
      slice_split-cons_no cut b (bs ++ g ∷ rest) e ∙ ap (onto_first b) h
      ∙ onto_append b (slice_split cut bs) (slice_split cut rest) some
      ∙ sym (ap (λ ps. ps ++ slice_split cut rest) (slice_split-cons_no cut b bs e))

  split_after : (t : List ℕ) → slice_split cut (t ++ g ∷ rest) ≡ slice_split cut t ++ slice_split cut rest
  split_after [] = slice_split-cons_yes cut g rest cuts
  split_after (b ∷ bs) = split_after_cons b bs (cut b) refl (split_after bs)

split_copies : (c n : ℕ) (p : List ℕ) → IsClean c p
    → slice_split (λ b. b == c) (replicate n c ++ p) ≡ replicate n [] ++ p ∷ []
split_copies c zero p clean = split_one (λ b. b == c) p clean
split_copies c (suc n) p clean = slice_split-cons_yes (λ b. b == c) c (replicate n c ++ p) (eq-eqb c c refl)
    ∙ ap (λ ps. [] ∷ ps) (split_copies c n p clean)

char_added : (p t : List ℕ) → length p ≡ 1 → map single (t ++ [] ++ p) ≡ map single t ++ [] ++ p ∷ []
char_added [] t one_byte = absurd (omega arith)
char_added (b ∷ []) t one_byte = ap (λ xs. map single (xs ++ b ∷ [])) (append-nil t) ∙ map-append single t (b ∷ [])
    ∙ sym (ap (λ xs. xs ++ (b ∷ []) ∷ []) (append-nil (map single t)))
char_added (b ∷ c ∷ bs) t one_byte = absurd (omega arith)

one_word : (p : List ℕ) → 0 < length p → IsWhole is_gap p → filter is_full (slice_split is_gap p) ≡ p ∷ []
one_word p some whole = ap (filter is_full) (split_one is_gap p whole) ∙ ap (λ v. cond v (p ∷ []) []) (full p some)

word_added : (d many first : ℕ) (p t : List ℕ) → 0 < length p → IsWhole is_gap p
    → filter is_full (slice_split is_gap (t ++ padding d kind.Word many first t ++ p))
    ≡ filter is_full (slice_split is_gap t) ++ [] ++ p ∷ []
word_added d many first p [] some whole = one_word p some whole
word_added d many first p (b ∷ bs) some whole =
    let t : List ℕ = b ∷ bs in
    ap (λ xs. filter is_full (slice_split is_gap xs)) (append_assoc t (32 ∷ []) p)
    ∙ ap (filter is_full) (split_after is_gap 32 p refl t)
    ∙ filter-append is_full (slice_split is_gap t) (slice_split is_gap p)
    ∙ ap (λ ps. filter is_full (slice_split is_gap t) ++ ps) (one_word p some whole)
    ∙ sym (ap (λ xs. xs ++ p ∷ []) (append-nil (filter is_full (slice_split is_gap t))))

delimited_added : (c n : ℕ) (p t : List ℕ) → IsClean c p → length (delimited c t) ≤ n
    → 0 < length (t ++ replicate (n + 1 - max (length (delimited c t)) 1) c ++ p)
    → delimited c (t ++ replicate (n + 1 - max (length (delimited c t)) 1) c ++ p) ≡ delimited c t
    ++ replicate (n - length (delimited c t)) [] ++ p ∷ []
delimited_added c n p [] clean past some =
    let copies : n + 1 - max 0 1 ≡ n = omega arith in
    let missing : n - 0 ≡ n = omega arith in
    delimited_full c (replicate (n + 1 - max 0 1) c ++ p) some
    ∙ ap (λ m. slice_split (λ b. b == c) (replicate m c ++ p)) copies
    ∙ split_copies c n p clean
    ∙ sym (ap (λ m. replicate m [] ++ p ∷ []) missing)
delimited_added c n p (b ∷ bs) clean past some =
    let t : List ℕ = b ∷ bs in
    let many : ℕ = length (slice_split (λ x. x == c) t) in
    let least : 1 ≤ many = omega (arith, length-slice_split (λ x. x == c) t) in
    let copies : n + 1 - max many 1 ≡ suc (n - many) = omega arith in
    let cut : (c == c) ≡ true = eq-eqb c c refl in
    delimited_full c (t ++ replicate (n + 1 - max many 1) c ++ p) some
    ∙ ap (λ m. slice_split (λ x. x == c) (t ++ replicate m c ++ p)) copies
    ∙ ap (slice_split (λ x. x == c)) (append_assoc t (c ∷ replicate (n - many) c) p)
    ∙ split_after (λ x. x == c) c (replicate (n - many) c ++ p) cut t
    ∙ ap (λ ps. slice_split (λ x. x == c) t ++ ps) (split_copies c (n - many) p clean)
    ∙ sym (append_assoc (slice_split (λ x. x == c) t) (replicate (n - many) []) (p ∷ []))

piece_added : (d : ℕ) (k : ChunkKind) (n : ℕ) (p t : List ℕ) → IsPiece d k p → length (pieces d k t) ≤ n
    → 0 < length (t ++ padding d k (length (pieces d k t)) (n + 1) t ++ p)
    → pieces d k (t ++ padding d k (length (pieces d k t)) (n + 1) t ++ p) ≡ pieces d k t
    ++ between k (n - length (pieces d k t)) ++ p ∷ []
piece_added d kind.Char n p t h past some = char_added p t h
piece_added d kind.Word n p t h past some = word_added d (length (pieces d kind.Word t)) (n + 1) p t h.0 h.1
piece_added d kind.Item n p t h past some = delimited_added d n p t h past some
piece_added d kind.Line n p t h past some = delimited_added 13 n p t h past some

pub piece_is_put : PieceIsPut
unfolding count
piece_is_put d k n p t u h e some = by (slice_get_cases (spans d k t) n).1
  where
    same : put_from d k (n + 1) (n + 1) place.Into p t ≡ u
    same = put_gives d k n p t u e

    by : ((s : Span) × (n < length (spans d k t)) × (slice_get (spans d k t) n ≡ Some s)
        × (get_or (spans d k t) n s ≡ s)) ⊎ ((length (spans d k t) ≤ n) × (slice_get (spans d k t) n ≡ None))
        → pieces d k u ≡ with_piece k n p (pieces d k t)
    by (inl r) =
        let s : Span = r.0 in
        let within : n < length (pieces d k t) = omega (arith, r.1, count_spans d k t) in
        let whole : u ≡ left t s ++ p ++ right t s = sym same ∙ found_put d k n p t s within r.2 in
        let full_text : 0 < length (left t s ++ p ++ right t s) = subst (λ xs. 0 < length xs) whole some in
        ap (pieces d k) whole ∙ piece_replaced d k n p t s h r.2 full_text
        ∙ sym (replaced_with d k n p t (pieces d k t) within)
    by (inr r) =
        let past : length (pieces d k t) ≤ n = omega (arith, r.0, count_spans d k t) in
        let whole : u ≡ t ++ padding d k (length (pieces d k t)) (n + 1) t ++ p = sym same ∙ past_put d k n p t past in
        let full_text : 0 < length (t ++ padding d k (length (pieces d k t)) (n + 1) t ++ p) =
        subst (λ xs. 0 < length xs) whole some in
        ap (pieces d k) whole ∙ piece_added d k n p t h past full_text ∙ sym (added_with d k n p t (pieces d k t) past)

-- ---- what is put is read back

last_of : (ps : List (List ℕ)) (p : List ℕ) → slice_get (ps ++ p ∷ []) (length ps) ≡ Some p
last_of [] p = refl
last_of (q ∷ qs) p = last_of qs p

set_at_place : (ps : List (List ℕ)) (n : ℕ) (p : List ℕ) → n < length ps → slice_get (slice_set ps n p) n ≡ Some p
set_at_place [] n p within = absurd (omega arith)
set_at_place (q ∷ qs) zero p within = refl
set_at_place (q ∷ qs) (suc n) p within = let less : n < length qs = omega arith in set_at_place qs n p less

-- the pieces before one that is put past the last
reached : (d : ℕ) (k : ChunkKind) (n : ℕ) (t : List ℕ) → IsReached d k n t → length (pieces d k t) ≤ n
    → length (pieces d k t ++ between k (n - length (pieces d k t))) ≡ n
unfolding count
reached d kind.Char n t h past = ap (λ ps. length ps) (append-nil (pieces d kind.Char t)) ∙ (omega arith)
reached d kind.Word n t h past = ap (λ ps. length ps) (append-nil (pieces d kind.Word t)) ∙ (omega arith)
reached d kind.Item n t h past =
    let m : ℕ = n - length (pieces d kind.Item t) in
    length-append (pieces d kind.Item t) (replicate m [])
    ∙ ap (λ j. length (pieces d kind.Item t) + j) (length-replicate m []) ∙ (omega arith)
reached d kind.Line n t h past =
    let m : ℕ = n - length (pieces d kind.Line t) in
    length-append (pieces d kind.Line t) (replicate m [])
    ∙ ap (λ j. length (pieces d kind.Line t) + j) (length-replicate m []) ∙ (omega arith)

piece_there : (d : ℕ) (k : ChunkKind) (n : ℕ) (p t : List ℕ) → IsReached d k n t
    → (n < length (pieces d k t)) ⊎ (length (pieces d k t) ≤ n) → slice_get (with_piece k n p (pieces d k t)) n ≡ Some p
piece_there d k n p t h (inl within) =
    ap (λ ps. slice_get ps n) (replaced_with d k n p t (pieces d k t) within) ∙ set_at_place (pieces d k t) n p within
piece_there d k n p t h (inr past) =
    let front : List (List ℕ) = pieces d k t ++ between k (n - length (pieces d k t)) in
    ap (λ ps. slice_get ps n) (added_with d k n p t (pieces d k t) past)
    ∙ sym (ap (slice_get (front ++ p ∷ [])) (reached d k n t h past))
    ∙ last_of front p

same_text : (x p : List ℕ) → ◌≡◌ {A = Option (List ℕ)} (Some x) (Some p) → x ≡ p
same_text x p e = ap (λ o. unwrap_or o x) e

-- the piece of a text at a number is what is read there
piece_read : (d : ℕ) (k : ChunkKind) (n : ℕ) (p u : List ℕ) → slice_get (pieces d k u) n ≡ Some p
    → read d (one k n) u ≡ p
unfolding count found
piece_read d k n p u e = by (slice_get_cases (spans d k u) n).1
  where
    within : n < length (pieces d k u)
    within = slice_get_within (pieces d k u) n p e

    by : ((s : Span) × (n < length (spans d k u)) × (slice_get (spans d k u) n ≡ Some s)
        × (get_or (spans d k u) n s ≡ s)) ⊎ ((length (spans d k u) ≤ n) × (slice_get (spans d k u) n ≡ None))
        → read d (one k n) u ≡ p
    by (inl r) =
        let many : ℕ = length (pieces d k u) in
        let first : max (n + 1) 1 ≡ n + 1 = omega arith in
        let inside : n < many = within in
        let last : min (n + 1) many ≡ n + 1 = omega arith in
        let stands : Some (middle u r.0)
        ≡ Some p = sym (slice_get-map (middle u) (spans d k u) n ∙ ap (option_map (middle u)) r.2)
        ∙ ap (λ ps. slice_get ps n) (pieces_stand d k u) ∙ e in
        ap (λ a. middle_of u (stretch (spans d k u) a (min (n + 1) many))) first
        ∙ ap (λ b. middle_of u (stretch (spans d k u) (n + 1) b)) last
        ∙ ap (middle_of u) (stretched d k n p u (spans d k u) r.0 r.2)
        ∙ same_text (middle u r.0) p stands
    by (inr r) = absurd (omega (arith, within, r.0, count_spans d k u))

-- nothing is read of a text of no bytes
read_nothing : (o : Option Span) → middle_of [] o ≡ []
read_nothing None = refl
read_nothing (Some s) = nil_from_length (middle [] s)
    (omega (arith, length-take {A = ℕ} (s.after - s.start) (drop s.start []), length-drop {A = ℕ} s.start []))

-- what is put stands in the outcome
put_within : (d : ℕ) (k : ChunkKind) (n : ℕ) (p t u : List ℕ) → put d (one k n) place.Into p t ≡ Ok u
    → length p ≤ length u
unfolding count
put_within d k n p t u e = by (slice_get_cases (spans d k t) n).1
  where
    same : put_from d k (n + 1) (n + 1) place.Into p t ≡ u
    same = put_gives d k n p t u e

    by : ((s : Span) × (n < length (spans d k t)) × (slice_get (spans d k t) n ≡ Some s)
        × (get_or (spans d k t) n s ≡ s)) ⊎ ((length (spans d k t) ≤ n) × (slice_get (spans d k t) n ≡ None))
        → length p ≤ length u
    by (inl r) =
        let s : Span = r.0 in
        let within : n < length (pieces d k t) = omega (arith, r.1, count_spans d k t) in
        let whole : u ≡ left t s ++ p ++ right t s = sym same ∙ found_put d k n p t s within r.2 in
        omega (arith, ap (λ xs. length xs) whole, length-append (left t s ++ p) (right t s), length-append (left t s) p)
    by (inr r) =
        let past : length (pieces d k t) ≤ n = omega (arith, r.0, count_spans d k t) in
        let pad : List ℕ = padding d k (length (pieces d k t)) (n + 1) t in
        let whole : u ≡ t ++ pad ++ p = sym same ∙ past_put d k n p t past in
        omega (arith, ap (λ xs. length xs) whole, length-append (t ++ pad) p)

pub put_reads_back : PutReadsBack
put_reads_back d k n p t [] h r e = read_nothing (found d (one k n) [])
    ∙ sym (nil_from_length p (let short = put_within d k n p t [] e in omega arith))
put_reads_back d k n p t (b ∷ bs) h r e =
    piece_read d k n p (b ∷ bs)
    (ap (λ ps. slice_get ps n) (piece_is_put d k n p t (b ∷ bs) h e (omega arith))
    ∙ piece_there d k n p t r (cases_lt n (length (pieces d k t))))

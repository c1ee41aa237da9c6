-- Texts of many lines, in pieces.
use Rattle.std.proofs.Common.{◌≡◌, ℕ, zero, suc, ◌+◌, ◌-◌, ◌<◌, ◌≤◌, Bool, true, false, cond, ltb, leb, List, [], ◌∷◌}
use Rattle.std.proofs.Common.{◌++◌, length, map, refl, sym, ap, subst, ◌∙◌, arith, ◌&&◌, ◌==◌, not, codes, decimal}
use Rattle.std.specs.List.{AllByRecursion, join_with_byte, slice_split, onto_first}
use Rattle.std.proofs.lemmas.Bool.{lt-ltb, ltb-true, and_parts, or_parts, not-true}
use Rattle.std.proofs.lemmas.Bool.Decides.{nat_tests}
use Rattle.std.proofs.lemmas.List.{append-nil, length-append}
use Rattle.std.proofs.lemmas.List.Splits.{join_with_byte-slice_split, slice_split_none, slice_split_at}
use Rattle.std.proofs.lemmas.List.Elements.{All-from_recursion, recursion_from_All}
use Rattle.ht_values.specs.Text.{IsText}
use Rattle.ht_values.specs.Delimited.{delimited}
use Rattle.stack_text.specs.Words.{spelled, barred}
use Rattle.stack_text.specs.Reading.{◌>>=◌, give, line_after, is_piece, piece_at, pieces_at, text_of_pieces, count_at}
use Rattle.stack_text.specs.Reading.{block_after}
use Rattle.stack_text.proofs.Elements.{each_append}
use Rattle.stack_text.proofs.Forms.{Reads, both, both_held, gives, said, resaid, giving}
use Rattle.stack_text.proofs.Keyed.{has, keyed, Spelled}
use Rattle.stack_text.proofs.Texts.{long_texts}
use Rattle.stack_text.proofs.Flags.{tested, piece_counts}

abbrev AreBytes : List ℕ → Type 0
AreBytes t = AllByRecursion (λ b. b < 256) t

-- a piece that fits where there is so much room
abbrev pub Fits : Bool → ℕ → List ℕ → Type 0
Fits alone room p = AreBytes p × (is_piece alone room p ≡ true)

piece_words : (alone : Bool) (room : ℕ) → Spelled (piece_at alone room) (Fits alone room) spelled
piece_words alone room = tested long_texts (is_piece alone room)

abbrev pub FitInTurn : Bool → ℕ → List (List ℕ) → Type 0
FitInTurn alone room [] = Unit {0}
FitInTurn alone room (p ∷ ps) = Fits alone room p × FitInTurn alone (room - (length p + 1)) ps

abbrev head_of : List (List ℕ) → List ℕ
head_of [] = []
head_of (p ∷ ps) = p

abbrev tail_of : List (List ℕ) → List (List ℕ)
tail_of [] = []
tail_of (p ∷ ps) = ps

pieces-reads : (alone : Bool) (n room : ℕ)
    → Reads (pieces_at alone n room) (λ used ps. (length ps ≡ n) × FitInTurn alone room ps) (λ ps. map barred ps)
    (λ ps. [])
pieces-reads alone zero room = resaid (gives []) to from
  where
    to : (used : List ℕ) (ps : List (List ℕ)) → ps ≡ []
        → ((length ps ≡ 0) × FitInTurn alone room ps) × ([] ≡ map barred ps) × ◌≡◌ {A = List ℕ} [] []
    to used [] h = ((refl, tt), refl, refl)
    to used (p ∷ ps) h = absurd cc

    from : (used : List ℕ) (ps : List (List ℕ)) → (length ps ≡ 0) × FitInTurn alone room ps → ps ≡ []
    from used [] h = refl
    from used (p ∷ ps) h = absurd cc
pieces-reads alone (suc n) room =
    resaid (both (line_after (codes "|") (piece_at alone room))
    (λ p. pieces_at alone n (room - (length p + 1)) >>= λ ps. give (p ∷ ps))
    (keyed (codes "|") (piece_at alone room) (piece_words alone room) refl)
    (λ p. giving (pieces-reads alone n (room - (length p + 1))) (λ ps. p ∷ ps) tail_of (λ ps. refl))
    head_of (λ p used y h. ap head_of h.1))
    to from
  where
    Read : List (List ℕ) → Type 0
    Read y = Fits alone room (head_of y)
        × (((length (tail_of y) ≡ n) × FitInTurn alone (room - (length (head_of y) + 1)) (tail_of y))
        × (y ≡ head_of y ∷ tail_of y))

    to : (used : List ℕ) (y : List (List ℕ)) → Read y
        → ((length y ≡ suc n) × FitInTurn alone room y) × (barred (head_of y) ∷ map barred (tail_of y) ≡ map barred y)
        × ◌≡◌ {A = List ℕ} [] []
    to used [] h = absurd (let e : ◌≡◌ {A = List (List ℕ)} [] ([] ∷ []) = h.1.1 in cc)
    to used (p ∷ ps) h = ((ap suc h.1.0.0, (h.0, h.1.0.1)), refl, refl)

    from : (used : List ℕ) (y : List (List ℕ)) → (length y ≡ suc n) × FitInTurn alone room y → Read y
    from used [] h = absurd cc
    from used (p ∷ ps) h = (h.1.0, ((omega (arith, h.0), h.1.1), refl))

-- ---- what pieces make a text

abbrev is_return : ℕ → Bool
is_return b = b == 13

abbrev joined : List (List ℕ) → List ℕ
joined ps = join_with_byte 13 ps

piece_tests : (alone : Bool) (room : ℕ) (p : List ℕ) → is_piece alone room p ≡ true
    → (has 13 p ≡ false) × (length p < room) × ((alone && (length p == 0)) ≡ false)
piece_tests alone room p h =
    let p0 = and_parts (not (has 13 p)) (ltb (length p) room && not (alone && (length p == 0))) h in
    let p1 = and_parts (ltb (length p) room) (not (alone && (length p == 0))) p0.1 in
    (not-true _ p0.0, ltb-true _ _ p1.0, not-true _ p1.1)

none_has : (p : List ℕ) → has 13 p ≡ false → AllByRecursion (λ b. is_return b ≡ false) p
none_has [] h = tt
none_has (b ∷ p) h = let q = or_parts (b == 13) (has 13 p) h in (q.0, none_has p q.1)

has_none : (p : List ℕ) → AllByRecursion (λ b. is_return b ≡ false) p → has 13 p ≡ false
has_none [] h = refl
has_none (b ∷ p) h = rw (h.0, has_none p h.1) refl

split-joined : (alone : Bool) (room : ℕ) (p : List ℕ) (ps : List (List ℕ)) → FitInTurn alone room (p ∷ ps)
    → slice_split is_return (joined (p ∷ ps)) ≡ p ∷ ps
split-joined alone room p [] h =
    slice_split_none is_return p (All-from_recursion _ p (none_has p (piece_tests alone room p h.0.1).0))
split-joined alone room p (q ∷ ps) h =
    slice_split_at is_return p 13 (joined (q ∷ ps))
    (All-from_recursion _ p (none_has p (piece_tests alone room p h.0.1).0)) refl
    ∙ ap (λ (ls : List (List ℕ)). p ∷ ls) (split-joined alone (room - (length p + 1)) q ps h.1)

some_pieces : (t : List ℕ) → 0 < length t → delimited 13 t ≡ slice_split is_return t
some_pieces [] h = absurd (omega arith)
some_pieces (b ∷ bs) h = refl

pieces-joined : (n : ℕ) (ps : List (List ℕ)) → length ps ≡ n → FitInTurn (n == 1) 30001 ps
    → delimited 13 (joined ps) ≡ ps
pieces-joined n [] e h = refl
pieces-joined n (p ∷ []) e h =
    let one : (n == 1) ≡ true = rw (← e) refl in
    let t = piece_tests (n == 1) 30001 p h.0.1 in
    let some : (length p == 0) ≡ false = subst (λ b. (b && (length p == 0)) ≡ false) one t.2 in
    some_pieces p (grind (arith, nat_tests)) ∙ split-joined (n == 1) 30001 p [] h
pieces-joined n (p ∷ q ∷ ps) e h = some_pieces (joined (p ∷ q ∷ ps))
    (omega (arith, length-append p (13 ∷ joined (q ∷ ps)))) ∙ split-joined (n == 1) 30001 p (q ∷ ps) h

joined-pieces : (t : List ℕ) → joined (delimited 13 t) ≡ t
joined-pieces [] = refl
joined-pieces (b ∷ bs) = join_with_byte-slice_split 13 (b ∷ bs)

joined-bytes : (alone : Bool) (room : ℕ) (ps : List (List ℕ)) → FitInTurn alone room ps → AreBytes (joined ps)
joined-bytes alone room [] h = tt
joined-bytes alone room (p ∷ []) h = h.0.0
joined-bytes alone room (p ∷ q ∷ ps) h = each_append (λ b. b < 256) p (13 ∷ joined (q ∷ ps)) h.0.0
    (omega arith, joined-bytes alone (room - (length p + 1)) (q ∷ ps) h.1)

joined-short : (alone : Bool) (room : ℕ) (p : List ℕ) (ps : List (List ℕ)) → FitInTurn alone room (p ∷ ps)
    → length (joined (p ∷ ps)) < room
joined-short alone room p [] h = (piece_tests alone room p h.0.1).1
joined-short alone room p (q ∷ ps) h =
    let one = (piece_tests alone room p h.0.1).1 in
    let others = joined-short alone (room - (length p + 1)) q ps h.1 in
    omega (arith, length-append p (13 ∷ joined (q ∷ ps)))

joined_text : (alone : Bool) (ps : List (List ℕ)) → FitInTurn alone 30001 ps → IsText (joined ps)
joined_text alone ps h = record {
  short = short ps h;
  bytes = All-from_recursion (λ b. b < 256) (joined ps)
      (joined-bytes alone 30001 ps h);
}
  where
    short : (qs : List (List ℕ)) → FitInTurn alone 30001 qs → length (joined qs) ≤ 30000
    short [] k = omega arith
    short (q ∷ qs) k = omega (arith, joined-short alone 30001 q qs k)

-- the pieces of a text
abbrev IsPiece : List ℕ → Type 0
IsPiece p = AreBytes p × AllByRecursion (λ b. is_return b ≡ false) p

onto_first-pieces : (b : ℕ) (ps : List (List ℕ)) → b < 256 → is_return b ≡ false → AllByRecursion IsPiece ps
    → AllByRecursion IsPiece (onto_first b ps)
onto_first-pieces b [] lt no' h = (((lt, tt), (no', tt)), tt)
onto_first-pieces b (p ∷ ps) lt no' h = (((lt, h.0.0), (no', h.0.1)), h.1)

split-pieces : (t : List ℕ) → AreBytes t → AllByRecursion IsPiece (slice_split is_return t)
split-pieces [] h = ((tt, tt), tt)
split-pieces (b ∷ bs) h = by (is_return b) refl (split-pieces bs h.1)
  where
    by : (c : Bool) → is_return b ≡ c → AllByRecursion IsPiece (slice_split is_return bs)
        → AllByRecursion IsPiece (cond c ([] ∷ slice_split is_return bs) (onto_first b (slice_split is_return bs)))
    by true e others = ((tt, tt), others)
    by false e others = onto_first-pieces b (slice_split is_return bs) h.0 e others

pieces-are : (t : List ℕ) → AreBytes t → AllByRecursion IsPiece (delimited 13 t)
pieces-are [] h = tt
pieces-are (b ∷ bs) h = split-pieces (b ∷ bs) h

passes : (alone : Bool) (room : ℕ) (p : List ℕ) → has 13 p ≡ false → length p < room
    → (alone && (length p == 0)) ≡ false → is_piece alone room p ≡ true
passes alone room p none short some = let lt = lt-ltb (length p) room short in rw (none, lt, some) refl

fit-from : (alone : Bool) (room : ℕ) (p : List ℕ) (ps : List (List ℕ)) → AllByRecursion IsPiece (p ∷ ps)
    → length (joined (p ∷ ps)) < room → AllByRecursion (λ (q : List ℕ). (alone && (length q == 0)) ≡ false) (p ∷ ps)
    → FitInTurn alone room (p ∷ ps)
fit-from alone room p [] each short some = ((each.0.0, passes alone room p (has_none p each.0.1) short some.0), tt)
fit-from alone room p (q ∷ ps) each short some =
    let sum = length-append p (13 ∷ joined (q ∷ ps)) in (
      (each.0.0, passes alone room p (has_none p each.0.1) (omega arith) some.0),
      fit-from alone (room - (length p + 1))
          q ps each.1 (omega arith) some.1,
    )

none_alone : (ps : List (List ℕ)) → AllByRecursion (λ (q : List ℕ). (false && (length q == 0)) ≡ false) ps
none_alone [] = tt
none_alone (p ∷ ps) = (refl, none_alone ps)

-- they fit
pieces-fit : (t : List ℕ) → IsText t → FitInTurn (length (delimited 13 t) == 1) 30001 (delimited 13 t)
pieces-fit t h = by (delimited 13 t) (joined-pieces t) (pieces-are t (recursion_from_All (λ b. b < 256) t h.bytes)) refl
  where
    short : length t ≤ 30000
    short = h.short

    -- the empty text has no piece
    some : (p : List ℕ) → delimited 13 t ≡ p ∷ [] → joined (p ∷ []) ≡ t → (true && (length p == 0)) ≡ false
    some p e is = at t e is
      where
        at : (u : List ℕ) → delimited 13 u ≡ p ∷ [] → p ≡ u → (length p == 0) ≡ false
        at [] e is = absurd cc
        at (b ∷ bs) e is = let n : length p ≡ length (b ∷ bs) = ap length is in let some : 0
            < length p = omega (arith, n) in grind (arith, nat_tests)

    by : (ps : List (List ℕ)) → joined ps ≡ t → AllByRecursion IsPiece ps → delimited 13 t ≡ ps
        → FitInTurn (length ps == 1) 30001 ps
    by [] is each e = tt
    by (p ∷ []) is each e = fit-from true 30001 p [] each
        (let n : length p ≡ length t = ap length is in omega (arith, n)) (some p e is, tt)
    by (p ∷ q ∷ ps) is each e =
        let n : length (joined (p ∷ q ∷ ps)) ≡ length t = ap length is in
        let more : (length (p ∷ q ∷ ps) == 1) ≡ false = grind (arith, nat_tests) in
        subst (λ alone. FitInTurn alone 30001 (p ∷ q ∷ ps)) (sym more)
        (fit-from false 30001 p (q ∷ ps) each (omega (arith, n)) (none_alone (p ∷ q ∷ ps)))

-- ---- blocks

pub text_of_pieces-reads : (n : ℕ)
    → Reads (text_of_pieces n) (λ used t. IsText t × (length (delimited 13 t) ≡ n)) (λ t. map barred (delimited 13 t))
    (λ t. [])
unfolding text_of_pieces
text_of_pieces-reads n =
    resaid (both_held (pieces_at (n == 1) n 30001) (λ ps. give (joined ps)) (pieces-reads (n == 1) n 30001)
    (λ ps. gives (joined ps)) (delimited 13)
    (λ ps used t h. ap (delimited 13) h.1 ∙ pieces-joined n ps h.0.0 h.0.1))
    (λ used t h. (
      (subst IsText (sym h.1) (joined_text (n == 1) (delimited 13 t) h.0.1), h.0.0),
      append-nil
          (map barred (delimited 13 t)),
      refl,
    ))
    (λ used t h. (
      (h.1, subst (λ k. FitInTurn (k == 1) 30001 (delimited 13 t)) h.1 (pieces-fit t h.0)),
      sym
          (joined-pieces t),
    ))

pub few_pieces : (t : List ℕ) → IsText t
    → (length (delimited 13 t) < 10000000) × (leb (length (delimited 13 t)) 30001 ≡ true)
few_pieces t h = (omega (arith, few), grind (arith, nat_tests, few))
  where
    least : (ps : List (List ℕ)) → length ps ≤ length (joined ps) + 1
    least [] = omega arith
    least (p ∷ []) = omega arith
    least (p ∷ q ∷ ps) = omega (arith, least (q ∷ ps), length-append p (13 ∷ joined (q ∷ ps)))

    few : length (delimited 13 t) ≤ 30001
    few =
        let short : length t ≤ 30000 = h.short in
        let same : length (joined (delimited 13 t)) ≡ length t = ap length (joined-pieces t) in
        omega (arith, least (delimited 13 t))

-- a key, the number of pieces, and the pieces
pub block-reads : (key : List ℕ) → has 10 key ≡ false
    → Reads (block_after key) (λ used t. IsText t)
    (λ t. (key ++ decimal (length (delimited 13 t))) ∷ map barred (delimited 13 t)) (λ t. [])
unfolding block_after
block-reads key plain =
    said (both (line_after key count_at) (λ n. text_of_pieces n) (keyed key count_at piece_counts plain)
    text_of_pieces-reads (λ t. length (delimited 13 t)) (λ n used t h. h.1))
    (λ used t h. h.1.0)
    (λ used t h. (few_pieces t h, (h, refl)))

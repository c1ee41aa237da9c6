-- What a text begins with is the longest token or gap.
use Rattle.std.proofs.Common.{◌≡◌, ℕ, zero, suc, ◌+◌, ◌<◌, ◌≤◌, inl, inr, List, [], ◌∷◌, ◌++◌, Bool, true, false}
use Rattle.std.proofs.Common.{length, take, drop, cond, Option, Some, None, refl, sym, ap, ◌∙◌, subst, arith, codes}
use Rattle.std.proofs.Common.{rules, length-append, zero-add, slice_index, nat_eq, ◌==◌, eqb, eqb-true, true≢false}
use Rattle.std.specs.Char.{is_ascii_digit}
use Rattle.std.specs.List.{AllByRecursion, list_all, prefix_len, starts_with}
use Rattle.std.proofs.lemmas.Bool.Decides.{nat_tests, Decides-eqb}
use Rattle.std.specs.Str.{bytes_eq}
use Rattle.std.proofs.lemmas.Slice.Eq.{starts_is, bytes_eq-Decides}
use Rattle.std.proofs.lemmas.List.{take-append-drop, length-take-le}
use Rattle.std.proofs.lemmas.List.Folds.{length-prefix_len}
use Rattle.std.proofs.Math.Seq.{take-append_seam}
use Rattle.ht_lex.specs.declared.key.Key.{Key}
use Rattle.ht_lex.specs.declared.key.Key.TheVariants as k
use Rattle.ht_lex.specs.declared.key.TokenKind.{TokenKind}
use Rattle.ht_lex.specs.declared.key.TokenKind.TheVariants as kind
use Rattle.ht_lex.specs.declared.lexeme.Class.{Class}
use Rattle.ht_lex.specs.declared.lexeme.Class.TheVariants as class
use Rattle.ht_lex.specs.declared.lexeme.Lexeme.{Lexeme}
use Rattle.ht_lex.specs.declared.lexeme.Lexeme.TheVariants.{Gap, Token, Nothing}
use Rattle.ht_lex.specs.Words.{begins_word, goes_on_word, is_word, kind_of_word, symbols}
use Rattle.ht_lex.specs.Lexemes.{is_in, past, word_lexeme, quoted_lexeme, continued_lexeme, symbol_among}
use Rattle.ht_lex.specs.Lexemes.{symbol_lexeme, first_lexeme, other_lexeme, single, single_or, IsLongest}
use Rattle.ht_lex.specs.Pieces.{is_blank, is_return, is_quote, Among, Spells, NoLonger, Longest, word, digits, quoted}
use Rattle.ht_lex.specs.Pieces.{symbol, return, blanks, continued, comment}
use Rattle.std.specs.Cmp.{first_so, second_so}
use Rattle.std.specs.Cmp.Derive.{both_true}
use Rattle.ht_lex.proofs.Symbols.{single_is_symbol}
use Rattle.ht_lex.proofs.Runs.{run_on, passing_le, run_passes, run_begins, run_within}
use Rattle.ht_lex.proofs.Runs.{closed_len, closed_at, closed_take, closed_within}

-- What a first byte begins: blanks, a return, digits, a word, a text in quotes, a continued line, or else a comment or
-- a symbol.
abbrev rank : ℕ → ℕ
rank b = cond (is_blank b) 0 (cond (is_return b) 1
    (cond (is_ascii_digit b) 2 (cond (begins_word b) 3 (cond (is_quote b) 4 (cond (b == 0xC2) 5 6)))))

blank_rank : (b : ℕ) → is_blank b ≡ true → rank b ≡ 0
blank_rank b e = grind (arith, nat_tests)

digit_rank : (b : ℕ) → is_ascii_digit b ≡ true → rank b ≡ 2
digit_rank b e = grind (arith, nat_tests)

word_rank : (b : ℕ) → begins_word b ≡ true → rank b ≡ 3
word_rank b e = grind (arith, nat_tests)

-- The rank of what a kind of piece begins with.
abbrev rank_of : {what : Option TokenKind} {w : List ℕ} → Spells what w → ℕ
rank_of (word e) = 3
rank_of (digits f e) = 2
rank_of (quoted w e) = 4
rank_of (symbol row e) = 6
rank_of return = 1
rank_of (blanks f e) = 0
rank_of (continued w e) = 5
rank_of (comment e f) = 6

-- What holds of each row of a table holds of one of them.
among_all : (P : List ℕ × Key → Type 0) (rows : List (List ℕ × Key)) (row : List ℕ × Key) → AllByRecursion P rows
    → Among row rows → P row
among_all P [] row h m = absurd m
among_all P (r ∷ rows) row h (inl e) = subst P e h.0
among_all P (r ∷ rows) row h (inr m) = among_all P rows row h.1 m

-- a symbol is one or two bytes, and begins as no other piece does
abbrev IsSymbol : List ℕ × Key → Type 0
IsSymbol row = (rank (slice_index row.0 0) ≡ 6) × (0 < length row.0) × (length row.0 ≤ 2)

are_symbols : AllByRecursion IsSymbol symbols
unfolding symbols
are_symbols = search rules

is_symbol : (row : List ℕ × Key) → Among row symbols → IsSymbol row
is_symbol row = among_all IsSymbol symbols row are_symbols

first_passes : (p : ℕ → Bool) (w : List ℕ) → 0 < length w → list_all p w ≡ true → p (slice_index w 0) ≡ true
first_passes p [] f e = absurd (omega arith)
first_passes p (x ∷ w) f e = first_so (p x) (list_all p w) e

begins_hyphen : (w : List ℕ) → starts_with nat_eq w (codes "--") ≡ true → w ≡ codes "--" ++ drop 2 w
begins_hyphen w e = (starts_is Decides-eqb w (codes "--") (starts_with nat_eq w (codes "--")) refl).0 e

spelled_rank : {what : Option TokenKind} {w : List ℕ} → (h : Spells what w) → rank (slice_index w 0) ≡ rank_of h
spelled_rank (word {w} e) =
    word_rank (slice_index w 0) (first_so (begins_word (slice_index w 0)) (list_all goes_on_word w) e)
spelled_rank (digits {w} f e) = digit_rank (slice_index w 0) (first_passes is_ascii_digit w f e)
spelled_rank (quoted w e) = refl
spelled_rank (symbol row e) = (is_symbol row e).0
spelled_rank return = refl
spelled_rank (blanks {w} f e) = blank_rank (slice_index w 0) (first_passes is_blank w f e)
spelled_rank (continued w e) = refl
spelled_rank (comment {w} e f) = ap (λ v. rank (slice_index v 0)) (begins_hyphen w e)

-- a piece begins as its text does
first_of : (piece rest text : List ℕ) → piece ++ rest ≡ text → 0 < length piece
    → slice_index piece 0 ≡ slice_index text 0
first_of [] rest text e f = absurd (omega arith)
first_of (x ∷ piece) rest text e f = ap (λ l. slice_index l 0) e

-- The rank of a piece is that of the text.
same_rank : {what : Option TokenKind} (text piece rest : List ℕ) (n r : ℕ) → rank (slice_index text 0) ≡ r
    → piece ++ rest ≡ text → n < length piece → (h : Spells what piece) → rank_of h ≡ r
same_rank text piece rest n r e f le h = sym (spelled_rank h) ∙ ap rank (first_of piece rest text f (omega arith)) ∙ e

past_zero : (c : Class) (text : List ℕ) → past c text 0 ≡ prefix_len (is_in c) text
past_zero c text = zero-add (prefix_len (is_in c) text)

-- A run whose first byte is known goes on from the second.
past_first : (c : Class) (text : List ℕ) → is_in c 0 ≡ false → is_in c (slice_index text 0) ≡ true
    → past c text 1 ≡ prefix_len (is_in c) text
past_first c [] none e = cc
past_first c (x ∷ xs) none e = omega (arith, run_on (is_in c) x xs e)

-- What passes isn't longer than the run.
run_bound : (p : ℕ → Bool) (text piece rest : List ℕ) → piece ++ rest ≡ text → list_all p piece ≡ true
    → prefix_len p text < length piece → ⊥
run_bound p text piece rest f e le = absurd (omega (arith, passing_le p piece rest e, ap (prefix_len p) f))

no_blank : (text : List ℕ) → rank (slice_index text 0) ≡ 0 → NoLonger text (prefix_len is_blank text)
no_blank text e what piece rest f le (blanks {w} g p) = run_bound is_blank text w rest f p le
no_blank text e what piece rest f le h =
    absurd (omega (arith, same_rank text piece rest (prefix_len is_blank text) 0 e f le h))

no_return : (text : List ℕ) → rank (slice_index text 0) ≡ 1 → NoLonger text 1
no_return text e what piece rest f le return = absurd (omega arith)
no_return text e what piece rest f le h = absurd (omega (arith, same_rank text piece rest 1 1 e f le h))

no_digits : (text : List ℕ) → rank (slice_index text 0) ≡ 2 → NoLonger text (prefix_len is_ascii_digit text)
no_digits text e what piece rest f le (digits {w} g p) = run_bound is_ascii_digit text w rest f p le
no_digits text e what piece rest f le h =
    absurd (omega (arith, same_rank text piece rest (prefix_len is_ascii_digit text) 2 e f le h))

no_word : (text : List ℕ) → rank (slice_index text 0) ≡ 3 → NoLonger text (prefix_len goes_on_word text)
no_word text e what piece rest f le (word {w} p) =
    run_bound goes_on_word text w rest f (second_so (begins_word (slice_index w 0)) (list_all goes_on_word w) p) le
no_word text e what piece rest f le h =
    absurd (omega (arith, same_rank text piece rest (prefix_len goes_on_word text) 3 e f le h))

-- the length of a run, and of what it takes
taken_len : (p : ℕ → Bool) (text : List ℕ) → p 0 ≡ false → p (slice_index text 0) ≡ true
    → 0 < length (take (prefix_len p text) text)
taken_len p text e f = omega (arith, run_begins p text e f, length-prefix_len p text)

take_first : (k : ℕ) (text : List ℕ) → 0 < k → slice_index (take k text) 0 ≡ slice_index text 0
take_first zero text f = absurd (omega arith)
take_first (suc k) [] f = refl
take_first (suc k) (x ∷ text) f = refl

blank_longest : (text : List ℕ) → is_blank (slice_index text 0) ≡ true → IsLongest text (Gap (past class.Blank text 0))
blank_longest text e = subst (λ n. Longest None text n) (sym (past_zero class.Blank text)) (record {
  spelled = blanks (taken_len is_blank text refl e) (run_passes is_blank text);
  within = run_within is_blank text;
  longest = no_blank text (blank_rank (slice_index text 0) e);
})

digits_longest : (text : List ℕ) → is_ascii_digit (slice_index text 0) ≡ true
    → IsLongest text (Token kind.Number (past class.Digit text 0))
digits_longest text e = subst (λ n. Longest (Some kind.Number) text n) (sym (past_zero class.Digit text)) (record {
  spelled = digits (taken_len is_ascii_digit text refl e) (run_passes is_ascii_digit text);
  within = run_within is_ascii_digit text;
  longest = no_digits text (digit_rank (slice_index text 0) e);
})

begins_goes_on : (b : ℕ) → begins_word b ≡ true → goes_on_word b ≡ true
begins_goes_on b e = grind (arith, nat_tests)

word_longest : (text : List ℕ) → begins_word (slice_index text 0) ≡ true → IsLongest text (word_lexeme text)
word_longest text e =
    let k = prefix_len goes_on_word text in
    let some : 0 < k = run_begins goes_on_word text refl (begins_goes_on (slice_index text 0) e) in
    let begins : begins_word (slice_index (take k text) 0) ≡ true = ap begins_word (take_first k text some) ∙ e in
    subst (λ n. Longest (Some (kind_of_word (take n text))) text n)
    (sym (past_first class.Word text refl (begins_goes_on (slice_index text 0) e))) (record {
      spelled = word (both_true begins (run_passes goes_on_word text));
      within = run_within goes_on_word text;
      longest = no_word text (word_rank (slice_index text 0) e);
    })

return_longest : (text : List ℕ) → is_return (slice_index text 0) ≡ true → IsLongest text (Token kind.Eol 1)
return_longest [] e = cc
return_longest (x ∷ text) e =
    let is : x ≡ 13 = eqb-true x 13 e in
    record {
      spelled = subst (λ v. Spells (Some kind.Eol) (v ∷ [])) (sym is) return;
      within = omega arith;
      longest = no_return (x ∷ text) (ap rank is);
    }

-- A choice that a test makes, with what the test tells.
by_test : (b : Bool) (x y : Lexeme) (P : Lexeme → Type 0) → (b ≡ true → P x) → (b ≡ false → P y) → P (cond b x y)
by_test true x y P f g = f refl
by_test false x y P f g = g refl

cons_same : (a b : ℕ) (x y : List ℕ) → a ∷ x ≡ b ∷ y → x ≡ y
cons_same a b x y e = cc

-- the length of a piece that a byte opens and another closes
shut_len : (o c : ℕ) (w : List ℕ) → length (o ∷ (w ++ c ∷ [])) ≡ suc (suc (length w))
shut_len o c w = omega (arith, length-append w (c ∷ []))

-- The run between the two bytes is as long as what stands there.
shut_run : (p : ℕ → Bool) (o c : ℕ) (w rest xs : List ℕ) → list_all p w ≡ true → p c ≡ false
    → (o ∷ (w ++ c ∷ [])) ++ rest ≡ o ∷ xs → prefix_len p xs ≡ length w
shut_run p o c w rest xs e f same =
    ap (prefix_len p) (sym (cons_same o o ((w ++ c ∷ []) ++ rest) xs same)) ∙ closed_len p w rest c e f

shut_at : (p : ℕ → Bool) (o c : ℕ) (w rest xs : List ℕ) → list_all p w ≡ true → p c ≡ false
    → (o ∷ (w ++ c ∷ [])) ++ rest ≡ o ∷ xs → slice_index xs (prefix_len p xs) ≡ c
shut_at p o c w rest xs e f same =
    ap (slice_index xs) (shut_run p o c w rest xs e f same)
    ∙ ap (λ l. slice_index l (length w)) (sym (cons_same o o ((w ++ c ∷ []) ++ rest) xs same)) ∙ closed_at w rest c

quoted_longest : (xs : List ℕ) → IsLongest (34 ∷ xs) (quoted_lexeme (34 ∷ xs))
quoted_longest xs =
    let q = is_in class.Quotable in
    let k = prefix_len q xs in
    let one : 1 + k ≡ suc k = omega arith in
    subst (λ n. IsLongest (34 ∷ xs) (cond (is_quote (slice_index (34 ∷ xs) n)) (Token kind.Quoted (n + 1)) Nothing))
    (sym one)
    (by_test (is_quote (slice_index xs k)) (Token kind.Quoted (suc k + 1)) Nothing (IsLongest (34 ∷ xs)) closes
    unclosed)
  where
    closes : is_quote (slice_index xs (prefix_len (is_in class.Quotable) xs)) ≡ true
        → IsLongest (34 ∷ xs) (Token kind.Quoted (suc (prefix_len (is_in class.Quotable) xs) + 1))
    closes e =
        let q = is_in class.Quotable in
        let k = prefix_len q xs in
        let at : slice_index xs k ≡ 34 = eqb-true (slice_index xs k) 34 e in
        let two : suc k + 1 ≡ suc (suc k) = omega arith in
        subst (λ n. Longest (Some kind.Quoted) (34 ∷ xs) n) (sym two) (record {
          spelled = subst (λ v. Spells (Some kind.Quoted) (34 ∷ v)) (sym (closed_take k xs 34 at (omega arith)))
              (quoted (take k xs) (run_passes q xs));
          within = omega (arith, closed_within k xs (omega (arith, at)));
          longest = no_quoted k refl;
        })
      where
        no_quoted : (k : ℕ) → k ≡ prefix_len (is_in class.Quotable) xs → NoLonger (34 ∷ xs) (suc (suc k))
        no_quoted k is what piece rest f le (quoted w p) =
            absurd (omega (arith, shut_len 34 34 w, shut_run (is_in class.Quotable) 34 34 w rest xs p refl f))
        no_quoted k is what piece rest f le h =
            absurd (omega (arith, same_rank (34 ∷ xs) piece rest (suc (suc k)) 4 refl f le h))

    unclosed : is_quote (slice_index xs (prefix_len (is_in class.Quotable) xs)) ≡ false → NoLonger (34 ∷ xs) 0
    unclosed e what piece rest f le (quoted w p) = let at : is_quote
        (slice_index xs (prefix_len (is_in class.Quotable) xs)) ≡ true =
        ap is_quote (shut_at (is_in class.Quotable) 34 34 w rest xs p refl f) in cc
    unclosed e what piece rest f le h = absurd (omega (arith, same_rank (34 ∷ xs) piece rest 0 4 refl f le h))

continued_longest : (xs : List ℕ) → IsLongest (0xC2 ∷ xs) (continued_lexeme (0xC2 ∷ xs))
continued_longest xs =
    let k = prefix_len is_blank xs in
    let one : 1 + k ≡ suc k = omega arith in
    subst (λ n. IsLongest (0xC2 ∷ xs) (cond (is_return (slice_index (0xC2 ∷ xs) n)) (Gap (n + 1)) Nothing)) (sym one)
    (by_test (is_return (slice_index xs k)) (Gap (suc k + 1)) Nothing (IsLongest (0xC2 ∷ xs)) closes unclosed)
  where
    closes : is_return (slice_index xs (prefix_len is_blank xs)) ≡ true
        → IsLongest (0xC2 ∷ xs) (Gap (suc (prefix_len is_blank xs) + 1))
    closes e =
        let k = prefix_len is_blank xs in
        let at : slice_index xs k ≡ 13 = eqb-true (slice_index xs k) 13 e in
        let two : suc k + 1 ≡ suc (suc k) = omega arith in
        subst (λ n. Longest None (0xC2 ∷ xs) n) (sym two) (record {
          spelled = subst (λ v. Spells None (0xC2 ∷ v)) (sym (closed_take k xs 13 at (omega arith)))
              (continued (take k xs) (run_passes is_blank xs));
          within = omega (arith, closed_within k xs (omega (arith, at)));
          longest = no_continued k refl;
        })
      where
        no_continued : (k : ℕ) → k ≡ prefix_len is_blank xs → NoLonger (0xC2 ∷ xs) (suc (suc k))
        no_continued k is what piece rest f le (continued w p) =
            absurd (omega (arith, shut_len 0xC2 13 w, shut_run is_blank 0xC2 13 w rest xs p refl f))
        no_continued k is what piece rest f le h =
            absurd (omega (arith, same_rank (0xC2 ∷ xs) piece rest (suc (suc k)) 5 refl f le h))

    unclosed : is_return (slice_index xs (prefix_len is_blank xs)) ≡ false → NoLonger (0xC2 ∷ xs) 0
    unclosed e what piece rest f le (continued w p) = let at : is_return (slice_index xs (prefix_len is_blank xs))
        ≡ true = ap is_return (shut_at is_blank 0xC2 13 w rest xs p refl f) in cc
    unclosed e what piece rest f le h = absurd (omega (arith, same_rank (0xC2 ∷ xs) piece rest 0 5 refl f le h))

-- two hyphens
hyphens_longest : (text : List ℕ) → starts_with nat_eq text (codes "--") ≡ true
    → IsLongest text (Gap (past class.Commented text 0))
hyphens_longest text e =
    subst (λ t. IsLongest t (Gap (past class.Commented t 0))) (sym (begins_hyphen text e)) (go (drop 2 text))
  where
    go : (xs : List ℕ) → IsLongest (45 ∷ 45 ∷ xs) (Gap (past class.Commented (45 ∷ 45 ∷ xs) 0))
    go xs = subst (λ n. Longest None (45 ∷ 45 ∷ xs) n) (sym (past_zero class.Commented (45 ∷ 45 ∷ xs) ∙ two)) (record {
      spelled = comment refl (run_passes (is_in class.Commented) xs);
      within = omega (arith, run_within (is_in class.Commented) xs);
      longest = no_comment (prefix_len (is_in class.Commented) xs) refl;
    })
      where
        two : prefix_len (is_in class.Commented) (45 ∷ 45 ∷ xs) ≡ suc (suc (prefix_len (is_in class.Commented) xs))
        two = omega arith

        no_comment : (k : ℕ) → k ≡ prefix_len (is_in class.Commented) xs → NoLonger (45 ∷ 45 ∷ xs) (suc (suc k))
        no_comment k is what piece rest f le (comment {w} g p) =
            run_bound (is_in class.Commented) (45 ∷ 45 ∷ xs) w rest f p (omega (arith, two))
        no_comment k is what piece rest f le (symbol row p) =
            absurd (omega (arith, (is_symbol row p).2))
        no_comment k is what piece rest f le h =
            absurd (omega (arith, same_rank (45 ∷ 45 ∷ xs) piece rest (suc (suc k)) 6 refl f le h))

-- Each row of a table stands so to those after it.
abbrev EachToLater : (List ℕ × Key → List ℕ × Key → Type 0) → List (List ℕ × Key) → Type 0
EachToLater R [] = Unit {0}
EachToLater R (row ∷ rows) = AllByRecursion (R row) rows × EachToLater R rows

-- the other row isn't longer
abbrev IsAsLong : List ℕ × Key → List ℕ × Key → Type 0
IsAsLong row other = length other.0 ≤ length row.0

symbols_longest_first : EachToLater IsAsLong symbols
unfolding symbols
symbols_longest_first = search rules

-- no symbol of the table that is longer begins the text
abbrev NoRow : List (List ℕ × Key) → List ℕ → ℕ → Type 0
NoRow rows text n = (row : List ℕ × Key) (rest : List ℕ) → Among row rows → row.0 ++ rest ≡ text → n < length row.0 → ⊥

record TheRow (rows : List (List ℕ × Key)) (text : List ℕ) (k : TokenKind) (n : ℕ) : Type 0 where
  row : List ℕ × Key
  among : Among row rows
  kind_is : kind.Key row.1 ≡ k
  size_is : length row.0 ≡ n
  begins : starts_with nat_eq text row.0 ≡ true
  longest : NoRow rows text n

abbrev Chosen : List (List ℕ × Key) → List ℕ → Lexeme → Type 0
Chosen rows text Nothing = NoRow rows text 0
Chosen rows text (Token k n) = TheRow rows text k n
Chosen rows text (Gap n) = ⊥

no_row_here : (row other : List ℕ × Key) (text rest : List ℕ) → row ≡ other → starts_with nat_eq text row.0 ≡ false
    → other.0 ++ rest ≡ text → ⊥
no_row_here row other text rest e f g =
    let at : text ≡ row.0 ++ rest = sym g ∙ ap (λ (v : List ℕ × Key). v.0 ++ rest) (sym e) in
    let yes : starts_with nat_eq text row.0 ≡ true =
    (starts_is Decides-eqb text row.0 (starts_with nat_eq text row.0) refl).1 rest at in
    absurd (true≢false (sym yes ∙ f))

none_over : (row : List ℕ × Key) (rows : List (List ℕ × Key)) (text : List ℕ) (n : ℕ)
    → starts_with nat_eq text row.0 ≡ false → NoRow rows text n → NoRow (row ∷ rows) text n
none_over row rows text n f h = go
  where
    go : NoRow (row ∷ rows) text n
    go other rest (inl e) g le = no_row_here row other text rest e f g
    go other rest (inr m) g le = h other rest m g le

passed_over : (row : List ℕ × Key) (rows : List (List ℕ × Key)) (text : List ℕ) (v : Lexeme)
    → starts_with nat_eq text row.0 ≡ false → Chosen rows text v → Chosen (row ∷ rows) text v
passed_over row rows text Nothing f h = none_over row rows text 0 f h
passed_over row rows text (Token k n) f h = record {
  row = h.row;
  among = inr h.among;
  kind_is = h.kind_is;
  size_is = h.size_is;
  begins = h.begins;
  longest = none_over row rows text n f h.longest;
}
passed_over row rows text (Gap n) f h = h

among_chosen : (rows : List (List ℕ × Key)) (text : List ℕ) → EachToLater IsAsLong rows
    → Chosen rows text (symbol_among rows text)
among_chosen [] text h = λ row rest m g le. m
among_chosen (row ∷ rows) text h = by_test_rows (starts_with nat_eq text row.0) refl (among_chosen rows text h.1)
  where
    first : starts_with nat_eq text row.0 ≡ true → NoRow (row ∷ rows) text (length row.0)
    first f other rest (inl e) g le = absurd (omega (arith, ap (λ (v : List ℕ × Key). length v.0) e))
    first f other rest (inr m) g le = absurd (omega (arith, among_all (IsAsLong row) rows other h.0 m))

    by_test_rows : (b : Bool) → starts_with nat_eq text row.0 ≡ b → Chosen rows text (symbol_among rows text)
        → Chosen (row ∷ rows) text (cond b (Token (kind.Key row.1) (length row.0)) (symbol_among rows text))
    by_test_rows true f later =
        record { row = row; among = inl refl; kind_is = refl; size_is = refl; begins = f; longest = first f }
    by_test_rows false f later = passed_over row rows text (symbol_among rows text) f later

no_hyphens : (text piece rest : List ℕ) → starts_with nat_eq text (codes "--") ≡ false → piece ++ rest ≡ text
    → starts_with nat_eq piece (codes "--") ≡ true → ⊥
no_hyphens text piece rest f g e =
    let at : text ≡ codes "--" ++ (drop 2 piece ++ rest) = sym g ∙ ap (λ l. l ++ rest) (begins_hyphen piece e) in
    let yes : starts_with nat_eq text (codes "--")
    ≡ true = (starts_is Decides-eqb text (codes "--") (starts_with nat_eq text (codes "--")) refl).1
    (drop 2 piece ++ rest) at in
    absurd (true≢false (sym yes ∙ f))

chosen_longest : (text : List ℕ) (v : Lexeme) → rank (slice_index text 0) ≡ 6
    → starts_with nat_eq text (codes "--") ≡ false → Chosen symbols text v → IsLongest text v
chosen_longest text Nothing r f h = go
  where
    go : NoLonger text 0
    go what piece rest g le (symbol row m) = h row rest m g le
    go what piece rest g le (comment {w} p q) = no_hyphens text w rest f g p
    go what piece rest g le s = absurd (omega (arith, same_rank text piece rest 0 6 r g le s))
chosen_longest text (Token k n) r f h =
    let there : text ≡ h.row.0 ++ drop (length h.row.0) text =
    (starts_is Decides-eqb text h.row.0 (starts_with nat_eq text h.row.0) refl).0 h.begins in
    let taken : take n text ≡ h.row.0 = ap (λ v. take v text) (sym h.size_is) ∙ ap (take (length h.row.0)) there
    ∙ take-append_seam h.row.0 (drop (length h.row.0) text) in
    let spelling : Spells (Some (kind.Key h.row.1)) h.row.0 = symbol h.row h.among in
    record {
      spelled = subst (λ v. Spells (Some k) v) (sym taken) (subst (λ v. Spells (Some v) h.row.0) h.kind_is spelling);
      within = omega (arith, h.size_is, ap (length {A = ℕ}) there, length-append h.row.0 (drop (length h.row.0) text));
      longest = go;
    }
  where
    go : NoLonger text n
    go what piece rest g le (symbol row m) = h.longest row rest m g le
    go what piece rest g le (comment {w} p q) = no_hyphens text w rest f g p
    go what piece rest g le s = absurd (omega (arith, same_rank text piece rest n 6 r g le s))
chosen_longest text (Gap n) r f h = absurd h

symbol_longest : (text : List ℕ) → rank (slice_index text 0) ≡ 6 → starts_with nat_eq text (codes "--") ≡ false
    → IsLongest text (symbol_lexeme text)
unfolding symbol_lexeme
symbol_longest text r f =
    chosen_longest text (symbol_among symbols text) r f (among_chosen symbols text symbols_longest_first)

opened : (o : ℕ) (text : List ℕ) (front : List ℕ → Lexeme) → 0 < o
    → ((xs : List ℕ) → IsLongest (o ∷ xs) (front (o ∷ xs))) → slice_index text 0 ≡ o → IsLongest text (front text)
opened o [] front f h e = absurd (omega arith)
opened o (x ∷ xs) front f h e = subst (λ v. IsLongest (v ∷ xs) (front (v ∷ xs))) (sym e) (h xs)

-- what a symbol of one byte begins, if it begins nothing longer
abbrev IsFront : ℕ → Type 0
IsFront b = (rank b ≡ 6) × ((rest : List ℕ) → starts_with nat_eq (b ∷ rest) (codes "--") ≡ false)

front_row : (x b : ℕ) (key : Key) (other : Option Key) → IsFront x
    → ((found : Key) → other ≡ Some found → IsFront b)
    → (found : Key) → cond (eqb b x) (Some key) other ≡ Some found → IsFront b
front_row x b key other here later found = by (eqb b x) refl
  where
    by : (c : Bool) → eqb b x ≡ c → cond c (Some key) other ≡ Some found → IsFront b
    by true e is = subst IsFront (sym (eqb-true b x e)) here
    by false e is = later found is

single_front : (b : ℕ) (key : Key) → single b ≡ Some key → IsFront b
single_front b =
    front_row 40 b k.LeftParen _ (refl, λ rest. refl) (front_row 41 b k.RightParen _ (refl, λ rest. refl)
    (front_row 44 b k.CommaSign _ (refl, λ rest. refl) (front_row 43 b k.Plus _ (refl, λ rest. refl)
    (front_row 42 b k.Star _ (refl, λ rest. refl) (front_row 47 b k.Slash _ (refl, λ rest. refl)
    (front_row 94 b k.Caret _ (refl, λ rest. refl) (front_row 61 b k.Equal _ (refl, λ rest. refl) (λ found is. absurd cc))))))))

single_longest : (text : List ℕ) (key : Key) → single (slice_index text 0) ≡ Some key
    → IsLongest text (Token (kind.Key key) 1)
single_longest [] key e = absurd cc
single_longest (b ∷ rest) key e =
    let front = single_front b key e in
    subst (IsLongest (b ∷ rest)) (single_is_symbol (b ∷ rest) key e)
    (symbol_longest (b ∷ rest) front.0 (front.1 rest))

other_longest : (text : List ℕ) → begins_word (slice_index text 0) ≡ false → IsLongest text (other_lexeme text)
unfolding other_lexeme
other_longest text no_word =
    let b = slice_index text 0 in
    by_test (is_blank b) _ _ (IsLongest text) (blank_longest text) (λ no_blank.
    by_test (is_return b) _ _ (IsLongest text) (return_longest text) (λ no_return.
    by_test (is_ascii_digit b) _ _ (IsLongest text) (digits_longest text) (λ no_digit.
    by_test (is_quote b) _ _ (IsLongest text)
    (λ e. opened 34 text quoted_lexeme (omega arith) quoted_longest (eqb-true b 34 e)) (λ no_quote.
    by_test (b == 0xC2) _ _ (IsLongest text)
    (λ e. opened 0xC2 text continued_lexeme (omega arith) continued_longest (eqb-true b 0xC2 e)) (λ no_more.
    by_test (starts_with nat_eq text (codes "--")) _ _ (IsLongest text) (hyphens_longest text) (symbol_longest text
    (grind (arith, nat_tests))))))))

single_or_longest : (text : List ℕ) (o : Option Key) → single (slice_index text 0) ≡ o
    → IsLongest text (other_lexeme text) → IsLongest text (single_or o (other_lexeme text))
single_or_longest text (Some key) e later = single_longest text key e
single_or_longest text None e later = later

-- What the code finds is the longest.
pub longest_is_taken : (text : List ℕ) → IsLongest text (first_lexeme text)
longest_is_taken text = by_test (begins_word (slice_index text 0)) _ _ (IsLongest text) (word_longest text)
    (λ no_word. single_or_longest text _ refl (other_longest text no_word))

-- the two rows aren't spelled alike
abbrev Differs : List ℕ × Key → List ℕ × Key → Type 0
Differs row other = bytes_eq row.0 other.0 ≡ false

symbols_differ : EachToLater Differs symbols
unfolding symbols
symbols_differ = search rules

none_alike : (row other : List ℕ × Key) (rows : List (List ℕ × Key)) → AllByRecursion (Differs row) rows
    → Among other rows → row.0 ≡ other.0 → ⊥
none_alike row other rows h m e =
    let no = among_all (Differs row) rows other h m in
    let yes : bytes_eq row.0 other.0 ≡ true = (bytes_eq-Decides row.0 other.0).1 e in cc

key_once : (rows : List (List ℕ × Key)) (row other : List ℕ × Key) → EachToLater Differs rows → Among row rows
    → Among other rows → row.0 ≡ other.0 → row.1 ≡ other.1
key_once [] row other h m n e = absurd m
key_once (r ∷ rows) row other h m n e = go m n (key_once rows row other h.1)
  where
    go : Among row (r ∷ rows) → Among other (r ∷ rows)
        → (Among row rows → Among other rows → row.0 ≡ other.0 → row.1 ≡ other.1) → row.1 ≡ other.1
    go (inl f) (inl g) later = ap (λ (v : List ℕ × Key). v.1) (sym f ∙ g)
    go (inl f) (inr n) later = absurd (none_alike r other rows h.0 n (ap (λ (v : List ℕ × Key). v.0) f ∙ e))
    go (inr m) (inl g) later = absurd (none_alike r row rows h.0 m (ap (λ (v : List ℕ × Key). v.0) g ∙ sym e))
    go (inr m) (inr n) later = later m n e

abbrev BeginsOtherwise : List ℕ × Key → Type 0
BeginsOtherwise row = starts_with nat_eq row.0 (codes "--") ≡ false

-- no symbol begins with two hyphens
symbols_no_hyphens : AllByRecursion BeginsOtherwise symbols
unfolding symbols
symbols_no_hyphens = search rules

comment_no_symbol : (w : List ℕ) (row : List ℕ × Key) → starts_with nat_eq w (codes "--") ≡ true → Among row symbols
    → w ≡ row.0 → ⊥
comment_no_symbol w row e m same =
    let begins = among_all BeginsOtherwise symbols row symbols_no_hyphens m in
    let no : starts_with nat_eq w (codes "--") ≡ false = ap (λ v. starts_with nat_eq v (codes "--")) same ∙ begins in cc

-- What is spelled alike is the same.
pub spelled_once : {what other : Option TokenKind} {w v : List ℕ} → Spells what w → Spells other v → w ≡ v
    → what ≡ other
spelled_once (word e) (word f) same = ap (λ w. Some (kind_of_word w)) same
spelled_once (digits g e) (digits h f) same = refl
spelled_once (quoted w e) (quoted v f) same = refl
spelled_once (symbol row m) (symbol other n) same =
    ap (λ k. Some (kind.Key k)) (key_once symbols row other symbols_differ m n same)
spelled_once (symbol row m) (comment {w} e f) same = absurd (comment_no_symbol w row e m (sym same))
spelled_once return return same = refl
spelled_once (blanks g e) (blanks h f) same = refl
spelled_once (continued w e) (continued v f) same = refl
spelled_once (comment g e) (comment h f) same = refl
spelled_once (comment {w} e f) (symbol row m) same = absurd (comment_no_symbol w row e m same)
spelled_once g h same = absurd (omega (arith, spelled_rank g, spelled_rank h, ap (λ v. rank (slice_index v 0)) same))

-- A text has one longest piece at its front.
pub longest_once : {what other : Option TokenKind} {text : List ℕ} {m n : ℕ} → Longest what text m
    → Longest other text n → (what ≡ other) × (m ≡ n)
longest_once {what} {other} {text} {m} {n} g h = (spelled_once g.spelled h.spelled (ap (λ k. take k text) same), same)
  where
    not_less : {what other : Option TokenKind} {m n : ℕ} → Longest what text m → Longest other text n → m < n → ⊥
    not_less {what} {other} {m} {n} g h le = g.longest other (take n text) (drop n text) (take-append-drop n text)
        (omega (arith, length-take-le n text h.within)) h.spelled

    same : m ≡ n
    same = let above = not_less g h in let below = not_less h g in grind arith

word_some : (w : List ℕ) → is_word w ≡ true → 0 < length w
word_some [] e = cc
word_some (x ∷ w) e = omega arith

hyphens_some : (w : List ℕ) → starts_with nat_eq w (codes "--") ≡ true → 0 < length w
hyphens_some [] e = cc
hyphens_some (x ∷ w) e = omega arith

pub spelled_some : {what : Option TokenKind} {w : List ℕ} → Spells what w → 0 < length w
spelled_some (word {w} e) = word_some w e
spelled_some (digits g e) = g
spelled_some (quoted w e) = omega arith
spelled_some (symbol row m) = (is_symbol row m).1
spelled_some return = omega arith
spelled_some (blanks g e) = g
spelled_some (continued w e) = omega arith
spelled_some (comment {w} e f) = hyphens_some w e

-- Where nothing begins no piece does.
pub nothing_longer : {what : Option TokenKind} {text : List ℕ} {n : ℕ} → NoLonger text 0 → Longest what text n → ⊥
nothing_longer {what} {text} {n} f h =
    f what (take n text) (drop n text) (take-append-drop n text) (spelled_some h.spelled) h.spelled

pub end_begins : NoLonger [] 0
end_begins what piece rest f le h = absurd (omega (arith, ap (length {A = ℕ}) f, length-append piece rest))

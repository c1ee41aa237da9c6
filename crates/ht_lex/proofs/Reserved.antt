-- The code's table has the reserved words by their first letters, and a word's key is found under its own first letter.
use Rattle.std.proofs.Common.{◌≡◌, ℕ, ◌-◌, ◌<◌, ◌≤◌, List, [], ◌∷◌, Bool, true, false, cond, nat_lt, length, map, None}
use Rattle.std.proofs.Common.{◌&&◌, Some, slice_index, Bor, refl, ap, sym, ◌∙◌, arith, rules, tests, ◌==◌, true≢false}
use Rattle.std.specs.Cmp.{first_so, second_so}
use Rattle.std.specs.Char.{to_ascii_lowercase, is_ascii_lowercase}
use Rattle.std.specs.List.{list_all, range_with_len}
use Rattle.std.proofs.Math.ListN.{get_or}
use Rattle.std.proofs.lemmas.List.{get_or-map}
use Rattle.std.proofs.lemmas.List.FromFn.{get_or-map-range_with_len}
use Rattle.ht_values.specs.Text.{entry, same}
use Rattle.ht_lex.specs.declared.key.Key.{Key}
use Rattle.ht_lex.specs.declared.names.TheConstants.{RESERVED}
use Rattle.ht_lex.specs.Words.{Rows, reserved_words, key_of}

-- the first byte, in lower case
abbrev pub initial : List ℕ → ℕ
initial w = to_ascii_lowercase (slice_index w 0)

-- the rows whose words begin with a letter
abbrev pub under : ℕ → Rows → Rows
under n [] = []
under n (row ∷ rows) = cond (initial row.0 == n) (row ∷ under n rows) (under n rows)

same_initial : (a b : List ℕ) → same a b ≡ true → (initial a == initial b) ≡ true
same_initial [] [] f = refl
same_initial [] (y ∷ ys) f = absurd (true≢false (sym f))
same_initial (x ∷ xs) [] f = absurd (true≢false (sym f))
same_initial (x ∷ xs) (y ∷ ys) f = first_so (to_ascii_lowercase x == to_ascii_lowercase y) (same xs ys) f

pub among_under : (rows : Rows) (w : List ℕ) → entry (under (initial w) rows) w ≡ entry rows w
among_under [] w = refl
among_under (row ∷ rows) w = go (initial row.0 == initial w) refl (among_under rows w)
  where
    other : (s : Bool) → same row.0 w ≡ s → (initial row.0 == initial w) ≡ false
        → entry rows w ≡ cond s (Some row.1) (entry rows w)
    other false f e = refl
    other true f e = absurd (true≢false (sym (same_initial row.0 w f) ∙ e))

    go : (b : Bool) → (initial row.0 == initial w) ≡ b → entry (under (initial w) rows) w ≡ entry rows w
        → entry (cond b (row ∷ under (initial w) rows) (under (initial w) rows)) w ≡ entry (row ∷ rows) w
    go true e later = ap (λ k. cond (same row.0 w) (Some row.1) k) later
    go false e later = later ∙ other (same row.0 w) refl e

none_under : (rows : Rows) (n : ℕ) → list_all (λ row. is_ascii_lowercase (initial row.0)) rows ≡ true
    → is_ascii_lowercase n ≡ false → under n rows ≡ []
none_under [] n h f = refl
none_under (row ∷ rows) n h f = go (initial row.0 == n) refl
    (none_under rows n (second_so (is_ascii_lowercase (initial row.0))
    (list_all (λ row. is_ascii_lowercase (initial row.0)) rows) h) f)
  where
    go : (b : Bool) → (initial row.0 == n) ≡ b → under n rows ≡ [] → cond b (row ∷ under n rows) (under n rows) ≡ []
    go true e later =
        let same : initial row.0 ≡ n = search (rules, tests, e) in
        let lower : is_ascii_lowercase (initial row.0)
        ≡ true = first_so (is_ascii_lowercase (initial row.0))
        (list_all (λ row. is_ascii_lowercase (initial row.0)) rows) h in
        absurd (true≢false (sym lower ∙ ap is_ascii_lowercase same ∙ f))
    go false e later = later

letters : list_all (λ row. is_ascii_lowercase (initial row.0)) reserved_words ≡ true
unfolding reserved_words
letters = refl

-- The rows of a table, as the definitions see them.
abbrev pub plain : Bor (List (Bor (List ℕ) × Key)) → Rows
plain rows = map (λ row. (row.0.now, row.1)) rows.now

pub plain_at : (table : List (Bor (List (Bor (List ℕ) × Key)))) (place : ℕ) (d : Bor (List (Bor (List ℕ) × Key)))
    → place < length table
    → map (λ row. (row.0.now, row.1)) (get_or table place d).now
    ≡ get_or (map {B = Rows} (λ rows. map (λ row. (row.0.now, row.1)) rows.now) table) place []
plain_at table place d low = sym (get_or-map plain table place d [] low)

pub rows_by_letter : map (λ rows. map (λ row. (row.0.now, row.1)) rows.now) RESERVED.now
    ≡ map (λ n. under n reserved_words) (range_with_len 97 26)
unfolding reserved_words
rows_by_letter = refl

pub found_under : (w : List ℕ) (first : ℕ) → first ≡ initial w → 97 ≤ first → first ≤ 122
    → entry (get_or (map (λ n. under n reserved_words) (range_with_len 97 26)) (first - 97) []) w ≡ key_of w
unfolding key_of
found_under w first e low high =
    ap (λ rows. entry rows w) (get_or-map-range_with_len (λ n. under n reserved_words) 97 26 (first - 97) (initial w) []
    (omega arith) (omega (arith, e))) ∙ among_under reserved_words w

pub none_found : (w : List ℕ) (first : ℕ) → first ≡ initial w → is_ascii_lowercase first ≡ false → key_of w ≡ None
unfolding key_of
none_found w first e none =
    sym (among_under reserved_words w)
    ∙ ap (λ rows. entry rows w) (none_under reserved_words (initial w) letters
    (ap is_ascii_lowercase (sym e) ∙ none))

-- ---- no word of one byte is reserved

longer_differs : (v w : List ℕ) → nat_lt 1 (length v) ≡ true → length w < 2 → same v w ≡ false
longer_differs [] w long short = cc
longer_differs (a ∷ []) w long short = cc
longer_differs (a ∷ b ∷ v) [] long short = refl
longer_differs (a ∷ b ∷ v) (x ∷ []) long short = go (to_ascii_lowercase a == to_ascii_lowercase x)
  where
    go : (c : Bool) → (c && false) ≡ false
    go true = refl
    go false = refl
longer_differs (a ∷ b ∷ v) (x ∷ y ∷ w) long short = absurd (omega arith)

none_short : (rows : Rows) (w : List ℕ) → list_all (λ row. nat_lt 1 (length row.0)) rows ≡ true → length w < 2
    → entry rows w ≡ None
none_short [] w long short = refl
none_short (row ∷ rows) w long short =
    ap (λ c. cond c (Some row.1) (entry rows w))
    (longer_differs row.0 w (first_so (nat_lt 1 (length row.0)) (list_all (λ row. nat_lt 1 (length row.0)) rows) long)
    short)
    ∙ none_short rows w (second_so (nat_lt 1 (length row.0)) (list_all (λ row. nat_lt 1 (length row.0)) rows) long)
    short

have_two : list_all (λ row. nat_lt 1 (length row.0)) reserved_words ≡ true
unfolding reserved_words
have_two = refl

pub short_is_free : (w : List ℕ) → length w < 2 → key_of w ≡ None
unfolding key_of
short_is_free w short = none_short reserved_words w have_two short

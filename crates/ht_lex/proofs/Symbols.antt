-- The code's table of symbols is the definition's, and each symbol has a byte.
use Rattle.std.proofs.Common.{◌≡◌, ℕ, ◌≤◌, List, [], ◌∷◌, Bool, true, false, length, map, cond, eqb, refl, ap, ◌∙◌}
use Rattle.std.proofs.Common.{arith, rules, Option, Some, None, slice_index, drop, length-append, nat_eq, eqb-true}
use Rattle.std.specs.List.{AllByRecursion, starts_with}
use Rattle.std.proofs.lemmas.Slice.Eq.{starts_is}
use Rattle.std.proofs.lemmas.Bool.Decides.{Decides-eqb}
use Rattle.ht_lex.specs.declared.key.Key.{Key}
use Rattle.ht_lex.specs.declared.key.TokenKind.TheVariants as kind
use Rattle.ht_lex.specs.declared.lexeme.Lexeme.TheVariants.{Token}
use Rattle.ht_lex.specs.declared.lexeme.TheConstants.{SYMBOLS}
use Rattle.ht_lex.specs.Words.{symbols}
use Rattle.ht_lex.specs.Lexemes.{symbol_among, symbol_lexeme, single, FitsIn}
use Rattle.ht_lex.specs.declared.key.Key.TheVariants as k

pub rows_of_symbols : map (λ row. (row.0.now, row.1)) SYMBOLS.now ≡ symbols
unfolding symbols
rows_of_symbols = refl

-- each symbol of a table has a byte
abbrev HaveBytes : List (List ℕ × Key) → Type 0
HaveBytes rows = AllByRecursion (λ row. 1 ≤ length row.0) rows

begins_within : (text w : List ℕ) → starts_with nat_eq text w ≡ true → length w ≤ length text
begins_within text w same = let e = (starts_is Decides-eqb text w (starts_with nat_eq text w) refl).0 same in omega
    (arith, length-append w (drop (length w) text), ap (length {A = ℕ}) e)

among_fits : (rows : List (List ℕ × Key)) (text : List ℕ) → HaveBytes rows → FitsIn text (symbol_among rows text)
among_fits [] text h = tt
among_fits (row ∷ rows) text h = go (starts_with nat_eq text row.0) refl (among_fits rows text h.1)
  where
    go : (b : Bool) → starts_with nat_eq text row.0 ≡ b → FitsIn text (symbol_among rows text)
        → FitsIn text (cond b (Token (kind.Key row.1) (length row.0)) (symbol_among rows text))
    go true same later = (h.0, begins_within text row.0 same)
    go false same later = later

all_have_bytes : HaveBytes symbols
unfolding symbols
all_have_bytes = search rules

pub symbol_fits : (text : List ℕ) → FitsIn text (symbol_lexeme text)
unfolding symbol_lexeme
symbol_fits text = among_fits symbols text all_have_bytes

-- ---- symbols that a second byte may make longer

pub hyphen_is_symbol : (text : List ℕ) → slice_index text 0 ≡ 45 → symbol_lexeme text ≡ Token (kind.Key k.Minus) 1
unfolding symbol_lexeme symbols
hyphen_is_symbol [] e = absurd cc
hyphen_is_symbol (b ∷ rest) e = rw e refl

pub two_ampersands : (text : List ℕ) → slice_index text 0 ≡ 38 → slice_index text 1 ≡ 38
    → symbol_lexeme text ≡ Token (kind.Key k.DoubleAmpersand) 2
unfolding symbol_lexeme symbols
two_ampersands [] e f = absurd cc
two_ampersands (b ∷ []) e f = absurd cc
two_ampersands (b ∷ c ∷ rest) e f = rw (e, f) refl

pub one_ampersand : (text : List ℕ) → slice_index text 0 ≡ 38 → eqb 38 (slice_index text 1) ≡ false
    → symbol_lexeme text ≡ Token (kind.Key k.Ampersand) 1
unfolding symbol_lexeme symbols
one_ampersand [] e f = absurd cc
one_ampersand (b ∷ []) e f = rw e refl
one_ampersand (b ∷ c ∷ rest) e f = rw (e, f) refl

-- ---- symbols of one byte that begin nothing longer

-- a byte after which any bytes may stand
abbrev IsSingle : ℕ → Key → Type 0
IsSingle b key = (rest : List ℕ) → symbol_lexeme (b ∷ rest) ≡ Token (kind.Key key) 1

abbrev given : ℕ → Option Key → Type 0
given b o = (key : Key) → o ≡ Some key → IsSingle b key

-- a row of the choice, and those after it
row : (x b : ℕ) (key : Key) (other : Option Key) → IsSingle x key → given b other
    → given b (cond (eqb b x) (Some key) other)
row x b key other here later = by (eqb b x) refl
  where
    by : (c : Bool) → eqb b x ≡ c → given b (cond c (Some key) other)
    by true e found is rest =
        let same : key ≡ found = cc in
        let byte : b ≡ x = eqb-true b x e in
        ap (λ (n : ℕ). symbol_lexeme (n ∷ rest)) byte ∙ here rest ∙ ap (λ (f : Key). Token (kind.Key f) 1) same
    by false e found is rest = later found is rest

none_given : (b : ℕ) → given b None
none_given b key is rest = absurd cc

single_given : (b : ℕ) → given b (single b)
unfolding symbol_lexeme symbols
single_given b =
    row 40 b k.LeftParen _ (λ rest. refl) (row 41 b k.RightParen _ (λ rest. refl)
    (row 44 b k.CommaSign _ (λ rest. refl) (row 43 b k.Plus _ (λ rest. refl) (row 42 b k.Star _ (λ rest. refl)
    (row 47 b k.Slash _ (λ rest. refl) (row 94 b k.Caret _ (λ rest. refl) (row 61 b k.Equal _ (λ rest. refl)
    (none_given b))))))))

pub single_is_symbol : (text : List ℕ) (key : Key) → single (slice_index text 0) ≡ Some key
    → symbol_lexeme text ≡ Token (kind.Key key) 1
single_is_symbol [] key is = absurd cc
single_is_symbol (b ∷ rest) key is = single_given b key is rest

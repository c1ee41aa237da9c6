-- What tokens, and what stands between them, are spelled like; and which of them a text begins with: the longest.
use Rattle.std.specs.Prelude.{◌≡◌, ℕ, ◌<◌, ◌≤◌, ◌⊎◌, Bool, true, not, ◌&&◌, ◌||◌, ◌==◌, List, [], ◌∷◌, ◌++◌, length}
use Rattle.std.specs.Prelude.{take, Option, Some, None, nat_eq, codes}
use Rattle.std.specs.Char.{is_ascii_digit}
use Rattle.std.specs.List.{list_all, starts_with}
use Rattle.ht_lex.specs.declared.key.Key.{Key}
use Rattle.ht_lex.specs.declared.key.TokenKind.{TokenKind}
use Rattle.ht_lex.specs.declared.key.TokenKind.TheVariants as kind
use Rattle.ht_lex.specs.Words.{is_word, kind_of_word, symbols}

-- a space or a tab
abbrev pub is_blank : ℕ → Bool
is_blank b = b == 32 || b == 9

abbrev pub is_return : ℕ → Bool
is_return b = b == 13

abbrev pub is_quote : ℕ → Bool
is_quote b = b == 34

-- may stand between quotes
abbrev pub is_quotable : ℕ → Bool
is_quotable b = not (is_quote b) && not (is_return b)

-- may stand in a comment
abbrev pub is_commented : ℕ → Bool
is_commented b = not (is_return b)

-- one of the rows of a table
abbrev pub Among : List ℕ × Key → List (List ℕ × Key) → Type 0
Among row [] = ⊥
Among row (other ∷ others) = (other ≡ row) ⊎ Among row others

-- The spelling of a token of a kind, or with None of what stands between tokens.
pub data Spells : Option TokenKind → List ℕ → Type 0 where
  word : {w : List ℕ} → is_word w ≡ true → Spells (Some (kind_of_word w)) w
  digits : {w : List ℕ} → 0 < length w → list_all is_ascii_digit w ≡ true → Spells (Some kind.Number) w
  -- between quotes neither a quote nor a return
  quoted : (w : List ℕ) → list_all is_quotable w ≡ true → Spells (Some kind.Quoted) (34 ∷ (w ++ 34 ∷ []))
  symbol : (row : List ℕ × Key) → Among row symbols → Spells (Some (kind.Key row.1)) row.0
  return : Spells (Some kind.Eol) (13 ∷ [])
  blanks : {w : List ℕ} → 0 < length w → list_all is_blank w ≡ true → Spells None w
  -- the byte 0xC2, blanks and a return
  continued : (w : List ℕ) → list_all is_blank w ≡ true → Spells None (0xC2 ∷ (w ++ 13 ∷ []))
  -- two hyphens, and no return
  comment : {w : List ℕ} → starts_with nat_eq w (codes "--") ≡ true → list_all is_commented w ≡ true → Spells None w

-- The text begins with no token and no gap that is longer than this.
abbrev pub NoLonger : List ℕ → ℕ → Type 0
NoLonger text size = (what : Option TokenKind) (piece rest : List ℕ) → piece ++ rest ≡ text → size < length piece
    → Spells what piece → ⊥

-- The text begins with this token or gap, and with no longer one.
pub record Longest (what : Option TokenKind) (text : List ℕ) (size : ℕ) : Type 0 where
  pub spelled : Spells what (take size text)
  pub within : size ≤ length text
  pub longest : NoLonger text size

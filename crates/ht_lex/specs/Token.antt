-- Tokens, as the grammar sees them.
use Rattle.std.specs.Prelude.{ℕ, List, [], ◌∷◌, ◌-◌, Bool, false, take, drop, Option, Some, None}
use Rattle.ht_lex.specs.declared.key.Key.{Key}
use Rattle.ht_lex.specs.contracts.key.KeyPartialEq.TheImpl as same_key
use Rattle.ht_lex.specs.declared.key.TokenKind.{TokenKind}
use Rattle.ht_lex.specs.declared.key.TokenKind.TheVariants as kind
use Rattle.ht_lex.specs.declared.tokens.Span.{Span}

pub data Token : Type 0 where
  -- a word that isn't reserved, as written
  name : List ℕ → Token
  number : List ℕ → Token
  -- a text, without its quotes
  quoted : List ℕ → Token
  -- a reserved word or a symbol
  key : Key → Token
  -- a return
  eol : Token

-- What lies between the first and the last byte.
abbrev pub inner : List ℕ → ℕ → List ℕ
inner text size = take (size - 2) (drop 1 text)

abbrev pub token_by : TokenKind → List ℕ → ℕ → Token
token_by kind.Name text size = name (take size text)
token_by kind.Number text size = number (take size text)
token_by kind.Quoted text size = quoted (inner text size)
token_by (kind.Key k) text size = key k
token_by kind.Eol text size = eol

-- The token that lies there in the text: its text is the slice.
abbrev pub token_in : List ℕ → Span → Token
token_in text s = token_by s.kind (drop s.start text) (s.stop - s.start)

abbrev pub kind_of : Token → TokenKind
kind_of (name t) = kind.Name
kind_of (number t) = kind.Number
kind_of (quoted t) = kind.Quoted
kind_of (key k) = kind.Key k
kind_of eol = kind.Eol

abbrev pub text_of : Token → List ℕ
text_of (name t) = t
text_of (number t) = t
text_of (quoted t) = t
text_of (key k) = []
text_of eol = []

-- The kind of the first token; none at the end of the text.
abbrev pub first_kind : List Token → Option TokenKind
first_kind [] = None
first_kind (t ∷ ts) = Some (kind_of t)

-- Whether the kind is that of this key.
unfoldable pub is_key : Key → Option TokenKind → Bool
is_key k (Some (kind.Key found)) = same_key.ghosts.eq found k
is_key k _ = false

-- The text of the first token.
abbrev pub first_text : List Token → List ℕ
first_text [] = []
first_text (t ∷ ts) = text_of t

-- The tokens after the first.
abbrev pub later : List Token → List Token
later [] = []
later (t ∷ ts) = ts

-- The tokens of a text, by the places where they stand.
use Rattle.std.specs.Prelude.{ℕ, ◌+◌, ◌<◌, ◌≤◌, List, [], ◌∷◌, drop, length, map, Some, None}
use Rattle.ht_lex.specs.declared.key.TokenKind.{TokenKind}
use Rattle.ht_lex.specs.declared.tokens.Span.{Span}
use Rattle.ht_lex.specs.Pieces.{NoLonger, Longest}
use Rattle.ht_lex.specs.Token as tokens
use Rattle.ht_lex.specs.Token.{token_in}

-- From a place on the text has tokens at these spans, each the longest there, with gaps between them, up to a place
-- where it has no more.
pub data Cuts (text : List ℕ) : ℕ → List Span → ℕ → Type 0 where
  -- the text ends, or no token begins
  halt : {place : ℕ} → NoLonger (drop place text) 0 → Cuts text place [] place
  gap : {place size stop : ℕ} {spans : List Span} → Longest None (drop place text) size
      → Cuts text (place + size) spans stop
      → Cuts text place spans stop
  token : {place size stop : ℕ} {kind : TokenKind} {spans : List Span} → Longest (Some kind) (drop place text) size
      → Cuts text (place + size) spans stop
      → Cuts text place (record { kind = kind; start = place; stop = place + size } ∷ spans) stop

-- The tokens of the whole text stand at these spans.
abbrev pub IsCut : List ℕ → List Span → Type 0
IsCut text spans = Cuts text 0 spans (length text)

-- A place within the text is the first where no token begins.
pub record IsStuck (text : List ℕ) (place : ℕ) : Type 0 where
  pub spans : List Span
  pub cuts : Cuts text 0 spans place
  pub within : place < length text

-- Each span has a byte at least. It begins where the one before it stops, or later, and the last stops within the text.
abbrev pub InOrder : ℕ → List Span → ℕ → Type 0
InOrder place [] end = place ≤ end
InOrder place (span ∷ spans) end = (place ≤ span.start) × (span.start < span.stop) × InOrder span.stop spans end

-- A text and where its tokens stand.
pub record Lexed : Type 0 where
  pub text : List ℕ
  pub spans : List Span

-- the tokens, as the grammar sees them
abbrev pub tokens_of : Lexed → List tokens.Token
tokens_of lexed = map (token_in lexed.text) lexed.spans

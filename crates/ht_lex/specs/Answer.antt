-- What cutting a text answers.
use Rattle.std.specs.Prelude.{◌≡◌, ℕ, List, length, Result, Ok, Err}
use Rattle.ht_lex.specs.declared.tokens.LexError.{LexError}
use Rattle.ht_lex.specs.declared.tokens.LexError.TheVariants.{Memory, Syntax}
use Rattle.ht_lex.specs.declared.tokens.Span.{Span}
use Rattle.ht_lex.specs.Tokens.{IsStuck}

-- An error, where it isn't for being out of memory, has the first place where no token begins.
abbrev pub Fails : List ℕ → LexError → Type 0
Fails text Memory = Unit {0}
Fails text (Syntax place) = IsStuck text place

-- The answer is the one that tokens at these spans, up to this place, leave.
abbrev pub Answers : {A : Type 0} → (A → List Span) → List ℕ → List Span → ℕ → Result A LexError → Type 0
Answers spans_of text spans stop (Ok tokens) = (spans_of tokens ≡ spans) × (length text ≡ stop)
Answers spans_of text spans stop (Err Memory) = Unit {0}
Answers spans_of text spans stop (Err (Syntax place)) = place ≡ stop

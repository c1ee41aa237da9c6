-- How a text is cut into tokens, as a function.
use Rattle.std.specs.Prelude.{◌≡◌, ◌↔◌, ℕ, zero, suc, ◌+◌, if◌then◌else◌, ◌==◌, List, [], ◌∷◌, drop, length, Option}
use Rattle.std.specs.Prelude.{Some, None}
use Rattle.ht_lex.specs.declared.lexeme.Lexeme.{Lexeme}
use Rattle.ht_lex.specs.declared.lexeme.Lexeme.TheVariants.{Gap, Token, Nothing}
use Rattle.ht_lex.specs.declared.tokens.Span.{Span}
use Rattle.ht_lex.specs.Lexemes.{first_lexeme}
use Rattle.ht_lex.specs.Tokens.{IsCut}

-- the spans of tokens, and the place where no more begins
abbrev pub Cut : Type 0
Cut = List Span × ℕ

-- what a text begins with at a place, and then the rest
abbrev pub cut_after : (ℕ → Cut) → ℕ → Lexeme → Cut
cut_after rest place (Gap size) = rest (place + size)
cut_after rest place (Token kind size) =
    let later = rest (place + size) in
    (record { kind = kind; start = place; stop = place + size } ∷ later.0, later.1)
cut_after rest place Nothing = ([], place)

-- at most so many tokens and gaps, from a place on
abbrev pub cut_from : ℕ → List ℕ → ℕ → Cut
cut_from zero text place = ([], place)
cut_from (suc pieces) text place = cut_after (cut_from pieces text) place (first_lexeme (drop place text))

-- Where the tokens of a text stand, if it is tokens all through. Each token and gap has a byte at least.
unfoldable pub spans_of : List ℕ → Option (List Span)
spans_of text = let cut = cut_from (length text) text 0 in if cut.1 == length text then Some cut.0 else None

-- a function that answers just where the tokens of a text stand
abbrev pub CutsExactly : (List ℕ → Option (List Span)) → Type 0
CutsExactly cut = (text : List ℕ) (spans : List Span) → (cut text ≡ Some spans) ↔ IsCut text spans

-- Where reading stops.
use Rattle.std.specs.Prelude.{◌-◌, ℕ, min, length, Option, Some, None, slice_get}
use Rattle.ht_lex.specs.Tokens.{Lexed}
use Rattle.ht_lex.specs.declared.tokens.Span.{Span}
use Rattle.ht_lex.specs.declared.stop.Stop.{Stop}
use Rattle.ht_lex.specs.declared.stop.Stop.TheVariants as stop
use Rattle.ht_parse.specs.declared.error.ParseError.{ParseError}
use Rattle.ht_parse.specs.declared.error.ParseError.TheVariants as error

-- where a token begins in a text of this length, or the text's end where there is no token
abbrev pub start_or_end : ℕ → Option Span → ℕ
start_or_end end None = end
start_or_end end (Some span) = min span.start end

-- the error of a reader that stopped with so many of the tokens left
abbrev pub error_at : Lexed → ℕ → Stop → ParseError
error_at tokens left stop.Memory = error.Memory
error_at tokens left stop.Syntax =
    error.Syntax (start_or_end (length tokens.text) (slice_get tokens.spans (length tokens.spans - left)))

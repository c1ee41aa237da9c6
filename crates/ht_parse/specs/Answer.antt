-- What a function that reads a whole text ensures.
use Rattle.std.specs.Prelude.{◌≡◌, ◌≤◌, ℕ, List, length, Result, Ok, Err, Option, Some, None}
use Rattle.ht_values.specs.declared.text.TheConstants.{LIMIT}
use Rattle.ht_grammar.specs.Statements as s
use Rattle.ht_grammar.specs.Reads.{Reads}
use Rattle.ht_lex.specs.Token.{Token}
use Rattle.ht_lex.specs.declared.tokens.Span.{Span}
use Rattle.ht_lex.specs.Tokens.{Lexed, IsCut}
use Rattle.ht_tree.specs.declared.statement.Stmts.{Stmts}
use Rattle.ht_tree.specs.StatementView.{stmts_of}
use Rattle.ht_lex.specs.declared.stop.Stop.{Stop}
use Rattle.ht_lex.specs.declared.stop.Stop.TheVariants as stop
use Rattle.ht_parse.specs.declared.error.ParseError.{ParseError}
use Rattle.ht_parse.specs.declared.error.ParseError.TheVariants as error

-- these statements, unless memory is refused
abbrev pub GivesLines : s.Stmts → Result Stmts Stop → Type 0
GivesLines ss (Ok x) = stmts_of x.items.items ≡ ss
GivesLines ss (Err stop.Memory) = Unit {0}
GivesLines ss (Err stop.Syntax) = ⊥

-- The tree is what the whole list of tokens is read as; without one they are none, unless memory is refused.
abbrev pub IsWhole : {C T : Type 0} → (C → T) → Option T → Result C Stop → Type 0
IsWhole view read (Ok x) = read ≡ Some (view x)
IsWhole view read (Err stop.Memory) = Unit {0}
IsWhole view read (Err stop.Syntax) = read ≡ None

-- The text is read as this tree and as no other; where there is none, it is read as no tree.
abbrev pub Parses : {C T : Type 0} → (C → T) → (List Token → T → Type 0) → List ℕ → Result C ParseError → Type 0
Parses {C} {T} view IsRead text (Ok x) =
    Reads IsRead text (view x) × ((other : T) → Reads IsRead text other → other ≡ view x)
Parses view IsRead text (Err error.Memory) = Unit {0}
Parses {C} {T} view IsRead text (Err (error.Syntax place)) =
    (place ≤ length text) × ((tree : T) → Reads IsRead text tree → ⊥)

-- the text's tokens, and the only ones, of a text that fits; or a place that is none, where there are no tokens
abbrev pub Lexes : List ℕ → Result Lexed ParseError → Type 0
Lexes text (Ok tokens) = (tokens.text ≡ text) × IsCut text tokens.spans
    × ((spans : List Span) → IsCut text spans → tokens.spans ≡ spans) × (length text ≤ LIMIT)
Lexes text (Err error.Memory) = Unit {0}
Lexes text (Err (error.Syntax place)) = (place ≤ length text) × ((spans : List Span) → IsCut text spans → ⊥)

-- a reader's error, with a place in a text of this length
abbrev pub Places : ℕ → Stop → ParseError → Type 0
Places size stop.Memory e = e ≡ error.Memory
Places size stop.Syntax error.Memory = ⊥
Places size stop.Syntax (error.Syntax place) = place ≤ size

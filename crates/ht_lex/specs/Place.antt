-- The tokens that a cursor has left.
use Rattle.std.specs.Prelude.{ℕ, List, map, length, ◌≤◌, ◌<◌}
use Rattle.std.specs.List.{AllByRecursion}
use Rattle.ht_values.specs.declared.text.TheConstants.{LIMIT}
use Rattle.ht_lex.specs.Token.{Token, token_in}
use Rattle.ht_lex.specs.declared.tokens.Span.{Span}
use Rattle.ht_lex.specs.declared.cursor.Cursor.TheInside.{Inside}

abbrev pub tokens_left : Inside → List Token
tokens_left c = map (token_in c.text.now) c.spans.now

pub record IsWithin (text : List ℕ) (s : Span) : Type 0 where
  pub some : s.start < s.stop
  pub inside : s.stop ≤ length text

-- Each token stands in the text, which isn't longer than a text may be, and neither are the tokens more.
abbrev pub IsPlaced : Inside → Type 0
IsPlaced c =
    AllByRecursion (IsWithin c.text.now) c.spans.now × (length c.text.now ≤ LIMIT) × (length c.spans.now ≤ LIMIT)

-- Statements and `else if`, with at most so many levels.
use Rattle.std.specs.Prelude.{ℕ, zero, suc, None}
use Rattle.ht_grammar.specs.Statements.{Stmt}
use Rattle.ht_grammar.specs.Reading.{Parser}
use Rattle.ht_grammar.specs.Grammar.{Context}
use Rattle.ht_grammar.specs.Lines.{blocks, stmt_at, else_if_at}

unfoldable pub statement_of : ℕ → Context → Parser Stmt
statement_of zero x ts = None
statement_of (suc d) x ts = stmt_at (blocks d) d x ts

unfoldable pub else_if_of : ℕ → Context → Parser Stmt
else_if_of zero x ts = None
else_if_of (suc d) x ts = else_if_at (blocks d) d x ts

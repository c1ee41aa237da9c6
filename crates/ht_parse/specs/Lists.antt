-- Lists of trees, one after another.
use Rattle.std.specs.Prelude.{ℕ}
use Rattle.ht_grammar.specs.Statements.{Stmts, stop, also, Handler, handler, Handlers, no_handlers, and_handler}
use Rattle.ht_grammar.specs.Depth.{stmts_depth}

abbrev pub append : Stmts → Stmts → Stmts
append stop ss = ss
append (also x xs) ss = also x (append xs ss)

abbrev pub append_handlers : Handlers → Handlers → Handlers
append_handlers no_handlers hs = hs
append_handlers (and_handler g gs) hs = and_handler g (append_handlers gs hs)

-- the depth of a handler's lines
abbrev pub handler_depth : Handler → ℕ
handler_depth (handler k w ps ss) = stmts_depth ss

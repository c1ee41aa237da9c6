-- The scripts in memory, as plain trees.
use Rattle.std.specs.Prelude.{ℕ, List, [], ◌∷◌, Option, option_map, slice_get}
use Rattle.ht_tree.specs.declared.script.Handler.{Handler}
use Rattle.ht_tree.specs.declared.script.Script.{Script}
use Rattle.ht_tree.specs.declared.script.Message.{Message}
use Rattle.ht_tree.specs.declared.script.Typing.{Typing}
use Rattle.ht_grammar.specs.Statements as s
use Rattle.ht_tree.specs.View.{exprs_of, part_of}
use Rattle.ht_tree.specs.StatementView.{stmts_of}

abbrev pub handler_of : Handler → s.Handler
handler_of h = s.handler h.kind h.name h.parameters (stmts_of h.lines.items.items)

abbrev pub handlers_of : List Handler → s.Handlers
handlers_of [] = s.no_handlers
handlers_of (h ∷ hs) = s.and_handler (handler_of h) (handlers_of hs)

abbrev pub script_of : Script → s.Handlers
script_of x = handlers_of x.handlers.items

-- handlers and then another
abbrev pub with_handler : s.Handlers → s.Handler → s.Handlers
with_handler s.no_handlers h = s.and_handler h s.no_handlers
with_handler (s.and_handler g gs) h = s.and_handler g (with_handler gs h)

abbrev pub message_of : Message → s.Message
message_of m = s.message m.name (exprs_of m.arguments.items.items)

abbrev pub typing_of : Typing → s.Typed
typing_of x = s.typed x.text (part_of x.field)

-- the handler at a place, counted from 0, if there is one
abbrev pub handler_at : Script → ℕ → Option s.Handler
handler_at x place = option_map handler_of (slice_get x.handlers.items place)

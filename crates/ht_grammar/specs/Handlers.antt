-- Handlers of a script by kind and name.
use Rattle.std.specs.Prelude.{ℕ, Bool, true, false, ◌&&◌, List, Option, Some, None, if◌then◌else◌}
use Rattle.ht_values.specs.Text.{same}
use Rattle.ht_grammar.specs.declared.vocabulary.HandlerKind.{HandlerKind}
use Rattle.ht_grammar.specs.declared.vocabulary.HandlerKind.TheVariants.{Command, Function}
use Rattle.ht_grammar.specs.Statements.{Handler, handler, Handlers, no_handlers, and_handler}

abbrev pub is_kind : HandlerKind → HandlerKind → Bool
is_kind Command Command = true
is_kind Function Function = true
is_kind _ _ = false

-- whether a handler takes messages of a kind and a name
abbrev pub takes : HandlerKind → List ℕ → Handler → Bool
takes kind name (handler k n ps ss) = is_kind k kind && same n name

-- the first handler of a kind and a name
abbrev pub handler_in : Handlers → HandlerKind → List ℕ → Option Handler
handler_in no_handlers kind name = None
handler_in (and_handler h hs) kind name = if takes kind name h then Some h else handler_in hs kind name

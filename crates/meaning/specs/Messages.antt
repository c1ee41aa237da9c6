-- Handlers, and what becomes of a message that nothing handles.
use Rattle.std.specs.Prelude.{ℕ, List, [], ◌∷◌, Bool, false, Option, Some, None, Result, Ok, Err}
use Rattle.ht_values.specs.declared.fault.Fault.{Fault}
use Rattle.ht_grammar.specs.declared.vocabulary.HandlerKind.{HandlerKind}
use Rattle.ht_grammar.specs.declared.vocabulary.HandlerKind.TheVariants.{Command, Function}
use Rattle.ht_grammar.specs.Statements.{Handler, handler, Stmts}
use Rattle.object_table.specs.Content.{Content}
use Rattle.msg_path.specs.BuiltIns.{is_system_message}
use Rattle.msg_path.specs.Handlers.{HandlerFound, First}
use Rattle.meaning.specs.declared.end.Stop.{Stop}
use Rattle.meaning.specs.declared.end.Stop.TheVariants as stop

abbrev pub parameters_of : Handler → List (List ℕ)
parameters_of (handler kind name parameters lines) = parameters

abbrev pub lines_of : Handler → Stmts
lines_of (handler kind name parameters lines) = lines

-- a command with the name of a system message is ignored where nothing handles it
abbrev pub is_ignored : HandlerKind → List ℕ → Bool
is_ignored Command name = is_system_message name
is_ignored Function name = false

-- the one text of a list of one
abbrev pub only : List (List ℕ) → Option (List ℕ)
only (t ∷ []) = Some t
only _ = None

-- the first handler on a path, if there is one; or a script on the way is at fault; or it was out of memory
pub data Finds : Content → List ℕ → HandlerKind → List ℕ → Result (Option HandlerFound) Stop → Type 0 where
  find_memory : {s : Content} {path name : List ℕ} {kind : HandlerKind} → Finds s path kind name (Err stop.Memory)
  finds : {s : Content} {path name : List ℕ} {kind : HandlerKind} {found : Option HandlerFound} →
      First s path kind name (Ok found) → Finds s path kind name (Ok found)
  find_fails : {s : Content} {path name : List ℕ} {kind : HandlerKind} {n : Fault} →
      First s path kind name (Err n) → Finds s path kind name (Err (stop.Fault n))

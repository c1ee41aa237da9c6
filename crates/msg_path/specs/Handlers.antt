-- The first handler on a path.
use Rattle.std.specs.Prelude.{◌≡◌, ℕ, List, [], ◌∷◌, Option, Some, None, Result, Ok, Err}
use Rattle.ht_values.specs.declared.fault.Fault.{Fault}
use Rattle.ht_values.specs.declared.fault.Fault.TheVariants.{Syntax}
use Rattle.ht_grammar.specs.declared.vocabulary.HandlerKind.{HandlerKind}
use Rattle.ht_grammar.specs.declared.vocabulary.HandlerKind.TheVariants.{Command}
use Rattle.ht_grammar.specs.Statements.{Handler, handler, Handlers, stop}
use Rattle.ht_grammar.specs.Handlers.{handler_in}
use Rattle.ht_grammar.specs.Reads.{Reads, ReadsScript}
use Rattle.object_table.specs.Content.{Content}
use Rattle.journal_entries.specs.ScriptTrees.{object_script}

-- a handler, and the object whose script has it
pub record HandlerFound : Type 0 where
  pub object : ℕ
  pub handler : Handler

-- a handler without a name and lines
abbrev pub no_handler : Handler
no_handler = handler Command [] [] stop

-- The first handler of a kind and a name on a path. A script on the way that isn't in the grammar is a fault.
pub data First : Content → List ℕ → HandlerKind → List ℕ → Result (Option HandlerFound) Fault → Type 0 where
  nothing_left : {s : Content} {path name : List ℕ} {kind : HandlerKind} {outcome : Result (Option HandlerFound) Fault}
      →
      path ≡ [] → outcome ≡ Ok None → First s path kind name outcome
  here : {s : Content} {path rest name : List ℕ} {id : ℕ} {kind : HandlerKind} {hs : Handlers} {h : Handler}
      {outcome : Result (Option HandlerFound) Fault} →
      path ≡ id ∷ rest → Reads ReadsScript (object_script s id) hs → handler_in hs kind name ≡ Some h →
      outcome ≡ Ok (Some (record { object = id; handler = h })) → First s path kind name outcome
  further_on : {s : Content} {path rest name : List ℕ} {id : ℕ} {kind : HandlerKind} {hs : Handlers}
      {outcome : Result (Option HandlerFound) Fault} →
      path ≡ id ∷ rest → Reads ReadsScript (object_script s id) hs → handler_in hs kind name ≡ None →
      First s rest kind name outcome → First s path kind name outcome
  no_script : {s : Content} {path rest name : List ℕ} {id : ℕ} {kind : HandlerKind}
      {outcome : Result (Option HandlerFound) Fault} →
      path ≡ id ∷ rest → ((hs : Handlers) → Reads ReadsScript (object_script s id) hs → ⊥) →
      outcome ≡ Err Syntax → First s path kind name outcome

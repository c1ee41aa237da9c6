-- The rules of what a message meets.
use Rattle.std.proofs.Common.{◌≡◌, refl, ap, ℕ, List, ◌∷◌, Option, Some, None, Result, Ok, Err}
use Rattle.ht_values.specs.declared.failure.Failure.{Failure}
use Rattle.ht_values.specs.declared.failure.Failure.TheVariants as failure
use Rattle.ht_values.specs.declared.fault.Fault.{Fault}
use Rattle.ht_values.specs.declared.fault.Fault.TheVariants.{Syntax}
use Rattle.ht_grammar.specs.declared.vocabulary.HandlerKind.{HandlerKind}
use Rattle.ht_grammar.specs.Statements.{Handlers}
use Rattle.ht_grammar.specs.Handlers.{handler_in}
use Rattle.ht_grammar.specs.Reads.{Reads, ReadsScript}
use Rattle.object_table.specs.Content.{Content}
use Rattle.journal_entries.specs.ScriptTrees.{object_script}
use Rattle.msg_path.specs.Handlers.{HandlerFound, First}
use Rattle.msg_path.specs.Handlers as first
use Rattle.msg_path.specs.Meets.{GivesDue, LeadsOn}
use Rattle.msg_path.specs.Meets as meets
use Rattle.msg_path.specs.Trees.{IsNoTree}

pub ruleset meeting = (meets.on_path, meets.after_stack, meets.stops)

pub leads_to : (s : Content) (id : ℕ) (kind : HandlerKind) (name : List ℕ) (hs : Handlers) (found : HandlerFound)
    → Reads ReadsScript (object_script s id) hs → handler_in hs kind name ≡ Some found.handler → found.object ≡ id
    → (rest : List ℕ) → First s (id ∷ rest) kind name (Ok (Some found))
leads_to s id kind name hs found r h e rest = first.here refl r h
    (ap (λ (k : ℕ). Ok (Some (let f : HandlerFound = record { object = k; handler = found.handler } in f))) e)

pub leads_past : (s : Content) (id : ℕ) (kind : HandlerKind) (name : List ℕ) (hs : Handlers)
    → Reads ReadsScript (object_script s id) hs → handler_in hs kind name ≡ None
    → (rest : List ℕ) (outcome : Result (Option HandlerFound) Fault) → First s rest kind name outcome
    → First s (id ∷ rest) kind name outcome
leads_past s id kind name hs r h rest outcome p = first.further_on refl r h p

pub leads_nowhere : (s : Content) (id : ℕ) (kind : HandlerKind) (name : List ℕ) (fault : Fault) → fault ≡ Syntax
    → ((hs : Handlers) → Reads ReadsScript (object_script s id) hs → ⊥) → (rest : List ℕ)
    → First s (id ∷ rest) kind name (Err fault)
leads_nowhere s id kind name fault e n rest = first.no_script refl n (ap Err e)

-- where the script of an object isn't read, a path stops there
pub stops_there : (s : Content) (id : ℕ) (kind : HandlerKind) (name : List ℕ) (e : Failure)
    → IsNoTree (object_script s id) e → GivesDue (LeadsOn s id kind name) (Err e)
stops_there s id kind name (failure.Fault fault) p = leads_nowhere s id kind name fault p.0 p.1
stops_there s id kind name failure.Memory p = tt

-- What a message meets on a path and after the stack.
use Rattle.std.specs.Prelude.{◌≡◌, ℕ, List, ◌∷◌, Option, Some, None, Result, Ok, Err}
use Rattle.ht_values.specs.declared.failure.Failure.{Failure}
use Rattle.ht_values.specs.declared.failure.Failure.TheVariants as failure
use Rattle.ht_values.specs.declared.fault.Fault.{Fault}
use Rattle.ht_grammar.specs.declared.vocabulary.HandlerKind.{HandlerKind}
use Rattle.externals.specs.Cells.{Seen}
use Rattle.object_table.specs.Content.{Content}
use Rattle.journal_entries.specs.State.{State}
use Rattle.msg_path.specs.declared.built_in.BuiltIn.{BuiltIn}
use Rattle.msg_path.specs.declared.next.Found.{Found}
use Rattle.msg_path.specs.declared.next.Found.TheVariants as met
use Rattle.msg_path.specs.Handlers as handlers
use Rattle.msg_path.specs.Handlers.{First}
use Rattle.msg_path.specs.BuiltIns.{calls_function, external_named, built_in_named}

-- an external, else what is built in, else nobody
abbrev pub met_by : Option ℕ → Option BuiltIn → Found
met_by (Some i) b = met.External i
met_by None (Some b) = met.BuiltIn b
met_by None None = met.Nobody

-- what a message meets after the stack
abbrev pub met_after_stack : List Seen → HandlerKind → List ℕ → Found
met_after_stack externals kind name =
    met_by (external_named externals (calls_function kind) name) (built_in_named kind name)

-- What a message of a kind and a name meets first: a handler on the path, or what comes after the stack.
pub data Meets : State → List ℕ → HandlerKind → List ℕ → Result Found Fault → Type 0 where
  on_path : {s : State} {path name : List ℕ} {kind : HandlerKind} {first : Result (Option handlers.HandlerFound) Fault}
      {found : handlers.HandlerFound} {outcome : Result Found Fault} →
      First s.stack path kind name first → first ≡ Ok (Some found) → outcome ≡ Ok (met.Handler found)
      → Meets s path kind name outcome
  after_stack : {s : State} {path name : List ℕ} {kind : HandlerKind}
      {first : Result (Option handlers.HandlerFound) Fault}
      {outcome : Result Found Fault} →
      First s.stack path kind name first → first ≡ Ok None → outcome ≡ Ok (met_after_stack s.externals kind name)
      → Meets s path kind name outcome
  stops : {s : State} {path name : List ℕ} {kind : HandlerKind} {first : Result (Option handlers.HandlerFound) Fault}
      {fault : Fault} {outcome : Result Found Fault} →
      First s.stack path kind name first → first ≡ Err fault → outcome ≡ Err fault → Meets s path kind name outcome

-- the call answered what is due, or was out of memory
abbrev pub GivesDue : {A : Type 0} → (Result A Fault → Type 0) → Result A Failure → Type 0
GivesDue IsDue (Ok x) = IsDue (Ok x)
GivesDue IsDue (Err (failure.Fault f)) = IsDue (Err f)
GivesDue IsDue (Err failure.Memory) = Unit {0}

-- what the script of an object says of a path that begins with it: the handler that it has is the first; without one
-- the rest of the path decides
abbrev pub LeadsOn : Content → ℕ → HandlerKind → List ℕ → Result (Option handlers.HandlerFound) Fault → Type 0
LeadsOn s id kind name (Ok (Some found)) = (rest : List ℕ) → First s (id ∷ rest) kind name (Ok (Some found))
LeadsOn s id kind name (Ok None) = (rest : List ℕ) (outcome : Result (Option handlers.HandlerFound) Fault)
    → First s rest kind name outcome → First s (id ∷ rest) kind name outcome
LeadsOn s id kind name (Err fault) = (rest : List ℕ) → First s (id ∷ rest) kind name (Err fault)

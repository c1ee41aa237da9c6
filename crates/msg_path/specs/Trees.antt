-- What reading a script answers.
use Rattle.std.specs.Prelude.{◌≡◌, ℕ, List, Result, Ok, Err}
use Rattle.ht_values.specs.declared.failure.Failure.{Failure}
use Rattle.ht_values.specs.declared.failure.Failure.TheVariants as failure
use Rattle.ht_values.specs.declared.fault.Fault.TheVariants.{Syntax}
use Rattle.ht_grammar.specs.Statements.{Handlers}
use Rattle.ht_grammar.specs.Reads.{Reads, ReadsScript}

-- why a text gives no tree: it isn't in the grammar, which is a fault, or out of memory
abbrev pub IsNoTree : List ℕ → Failure → Type 0
IsNoTree text (failure.Fault fault) = (fault ≡ Syntax) × ((hs : Handlers) → Reads ReadsScript text hs → ⊥)
IsNoTree text failure.Memory = Unit {0}

-- the handlers that a text is, or why it gives none
abbrev pub GivesTree : {C : Type 0} → (C → Handlers) → List ℕ → Result C Failure → Type 0
GivesTree view text (Ok x) = Reads ReadsScript text (view x)
GivesTree view text (Err e) = IsNoTree text e

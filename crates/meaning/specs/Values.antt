-- Computed results as a run sees them.
use Rattle.std.specs.Prelude.{◌≡◌, ℕ, List, Result, Ok, Err}
use Rattle.ht_values.specs.declared.failure.Failure.{Failure}
use Rattle.ht_values.specs.declared.failure.Failure.TheVariants as failure
use Rattle.ht_values.specs.declared.fault.Fault.{Fault}
use Rattle.ht_values.specs.declared.fault.Fault.TheVariants.{Syntax}
use Rattle.ht_lex.specs.Token.{Token}
use Rattle.ht_grammar.specs.Reads.{Reads}
use Rattle.meaning.specs.declared.end.Stop.{Stop}
use Rattle.meaning.specs.declared.end.Stop.TheVariants as stop

-- the value or the fault of a computation; or it was out of memory
pub data Yields {A : Type 0} : Result A Fault → Result A Stop → Type 0 where
  yields_memory : {c : Result A Fault} → Yields c (Err stop.Memory)
  yields : {c : Result A Fault} {a : A} → c ≡ Ok a → Yields c (Ok a)
  faults : {c : Result A Fault} {n : Fault} → c ≡ Err n → Yields c (Err (stop.Fault n))

-- why a run stops where a value can't be given
abbrev pub stop_of : Failure → Stop
stop_of (failure.Fault n) = stop.Fault n
stop_of failure.Memory = stop.Memory

-- a text is read as a tree, or it isn't in the grammar, which is a fault; or it was out of memory
pub data Parses {A : Type 0} (IsRead : List Token → A → Type 0) : List ℕ → Result A Stop → Type 0 where
  parse_memory : {text : List ℕ} → Parses IsRead text (Err stop.Memory)
  parses : {text : List ℕ} {tree : A} → Reads IsRead text tree → Parses IsRead text (Ok tree)
  unparsed : {text : List ℕ} → ((tree : A) → Reads IsRead text tree → ⊥) → Parses IsRead text (Err (stop.Fault Syntax))

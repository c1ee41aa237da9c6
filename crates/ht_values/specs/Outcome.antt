-- Answers that are a value or a fault.
use Rattle.std.specs.Prelude.{◌≡◌, ⊤, ℕ, List, length, nat_le, if◌then◌else◌, Ok, Err, Result}
use Rattle.ht_values.specs.declared.fault.Fault.{Fault}
use Rattle.ht_values.specs.declared.fault.Fault.TheVariants.{TooLong}
use Rattle.ht_values.specs.declared.failure.Failure.{Failure}
use Rattle.ht_values.specs.declared.failure.Failure.TheVariants as failure
use Rattle.ht_values.specs.declared.text.TheConstants.{LIMIT}

-- the first value, and then what it leads to; the first fault ends it
abbrev pub and_then : {A B : Type 0} → Result A Fault → (A → Result B Fault) → Result B Fault
and_then (Ok x) f = f x
and_then (Err e) f = Err e

-- a text, unless it is too long
abbrev pub within_limit : List ℕ → Result (List ℕ) Fault
within_limit t = if nat_le (length t) LIMIT then Ok t else Err TooLong

-- the call answered this value or fault, or was out of memory
abbrev pub Gives : {A : Type 0} → Result A Failure → Result A Fault → Type 0
Gives (Ok x) due = due ≡ Ok x
Gives (Err (failure.Fault f)) due = due ≡ Err f
Gives (Err failure.Memory) due = ⊤

-- Ends other than out of memory.
use Rattle.std.proofs.Common.{Ok, Err}
use Rattle.ht_values.specs.declared.fault.Fault.{Fault}
use Rattle.meaning.specs.declared.end.Stop.{Stop}
use Rattle.meaning.specs.declared.end.Stop.TheVariants.{Fault as Faults, Exited}
use Rattle.preservation.specs.Laws.{HasMemory}

pub given : {A : Type 0} {a : A} → HasMemory (Ok a)
given never = cc

pub faulted : {A : Type 0} {fault : Fault} → HasMemory {A = A} (Err (Faults fault))
faulted never = cc

pub exited : {A : Type 0} → HasMemory {A = A} (Err Exited)
exited never = cc

-- one stop is handed on by parts of different values
pub stopped : {A B : Type 0} {stop : Stop} → HasMemory {A = B} (Err stop) → HasMemory {A = A} (Err stop)
stopped has same = has cc

-- A text that was handed back beside a fault.
use Rattle.std.proofs.Common.{◌≡◌, ℕ, List, Result, Ok, Err, sym, ap}
use Rattle.ht_values.specs.declared.fault.Fault.{Fault}
use Rattle.properties.specs.Setting.{handed_back}

pub handed_ok : {A : Type 0} (t : List ℕ) (r : Result A Fault) (v : A) → Ok v ≡ handed_back t r → r ≡ Ok v
handed_ok t (Ok x) v e = cc
handed_ok t (Err f) v e = cc

abbrev fault_of : {A : Type 0} → Fault → Result A (List ℕ × Fault) → Fault
fault_of other (Ok x) = other
fault_of other (Err p) = p.1

pub handed_err : {A : Type 0} (t u : List ℕ) (r : Result A Fault) (fault : Fault) → Err (u, fault) ≡ handed_back t r
    → r ≡ Err fault
handed_err t u (Ok x) fault e = cc
handed_err t u (Err f) fault e = sym (ap (λ r. Err (fault_of fault r)) e)

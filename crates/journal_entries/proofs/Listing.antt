-- The globals that have a value, one after the other.
use Rattle.std.proofs.Common.{◌≡◌, ℕ, zero, suc, ◌<◌, ◌≤◌, List, [], ◌∷◌, length, drop, slice_get, Some, None, sym, ap}
use Rattle.std.proofs.Common.{◌∙◌, arith}
use Rattle.std.proofs.lemmas.List.{drop_all}
use Rattle.journal_entries.specs.State.{Globals}
use Rattle.journal_entries.specs.Named.{listed}

some_there : {X : Type 0} (xs : List X) (i : ℕ) → i < length xs → None ≡ slice_get xs i → ⊥
some_there [] i h e = absurd (omega arith)
some_there (x ∷ xs) zero h e = let never : None ≡ Some x → ⊥ = λ q. cc in absurd (never e)
some_there (x ∷ xs) (suc i) h e = some_there xs i (omega arith) e

-- one that is listed is found before the numbers end
pub at_end : (names : List (List ℕ)) (m : Globals) (k left i : ℕ) → length names ≤ k
    → slice_get (listed (drop k names) m) left ≡ slice_get (listed names m) i → i < length (listed names m) → ⊥
at_end names m k left i past found there =
    some_there (listed names m) i there (sym (ap (λ ns. slice_get (listed ns m) left) (drop_all k names past)) ∙ found)

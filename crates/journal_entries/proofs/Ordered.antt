-- The numbers of names in a map, when a name is added.
use Rattle.std.proofs.Common.{◌≡◌, ◌≢◌, ℕ, suc, zero, ◌<◌, Bool, true, false, cond, bytes_eq, List, [], ◌∷◌, ◌++◌, length}
use Rattle.std.proofs.Common.{refl, sym, ◌∙◌, arith, Option, Some, None, IfSome, true≢false}
use Rattle.std.proofs.lemmas.Slice.Eq.{bytes_eq-Decides}
use Rattle.journal_entries.specs.Named.{IsNumberOf}
use Rattle.journal_entries.proofs.Numbering.{number-left, number-nowhere, at_end}

-- a number is below their count
pub below_count : (most : ℕ) (ns : List (List ℕ)) (name : List ℕ) (o : Option ℕ) → IsNumberOf ns name o
    → length ns < most → IfSome o (λ i. i < most)
below_count most ns name None h l = tt
below_count most ns name (Some i) h l = omega (arith, h.0, l)

-- each name has the number that it had, and the one that is added the next
pub number-added : (ns : List (List ℕ)) (name q : List ℕ) (o : Option ℕ) → IsNumberOf ns q o
    → IsNumberOf (ns ++ name ∷ []) q (cond (bytes_eq name q) (Some (length ns)) o)
number-added ns name q o h = by (bytes_eq name q) refl o h
  where
    within : length ns < length (ns ++ name ∷ [])
    within = by_count ns
      where
        by_count : (ms : List (List ℕ)) → length ms < length (ms ++ name ∷ [])
        by_count [] = omega arith
        by_count (m ∷ ms) = omega (arith, by_count ms)

    alone : bytes_eq name q ≡ false → IsNumberOf (name ∷ []) q None
    alone e zero l same = true≢false (sym ((bytes_eq-Decides name q).1 same) ∙ e)
    alone e (suc k) l same = absurd (omega (arith, l))

    by : (b : Bool) → bytes_eq name q ≡ b → (o : Option ℕ) → IsNumberOf ns q o
        → IsNumberOf (ns ++ name ∷ []) q (cond b (Some (length ns)) o)
    by true e o h = (within, at_end ns name ∙ (bytes_eq-Decides name q).0 e)
    by false e (Some i) h = number-left ns (name ∷ []) q i h
    by false e None h = number-nowhere ns (name ∷ []) q h (alone e)

-- Room that grows.
use Rattle.std.proofs.Common.{◌≡◌, ℕ, true, ◌∙◌}
use Rattle.std.proofs.lemmas.Bool.{or_right}
use Rattle.std.specs.Cmp.{IsTotalOrder, nat_cmp_total}
use Rattle.std.specs.Ordering.{eq_by_cmp}
use Rattle.std.specs.declared.cmp.Ordering.{Ordering}
use Rattle.std.specs.FinSet.{FinSet, insert, contains, contains-insert}
use Rattle.object_table.specs.Pairs.{Pair}
use Rattle.object_table.specs.Table.{Room}
use Rattle.object_table.proofs.Pairs.{pair_cmp_total}
use Rattle.stack_places.specs.Exchange.{IsWider}

pub IsWider-same : (r : Room) → IsWider r r
IsWider-same r = record { slots = λ id h. h; texts = λ p h. h; hilites = λ p h. h }

kept : {K : Type 0} {R : K → K → Ordering} → IsTotalOrder R → (s : FinSet R) (k p : K) → contains s p ≡ true
    → contains (insert s k) p ≡ true
kept {R = R} total s k p h = contains-insert total s k p ∙ or_right (eq_by_cmp R p k) (contains s p) h

pub IsWider-slot : (r : Room) (k : ℕ) → IsWider r (record r { slots = insert r.slots k })
IsWider-slot r k = record { slots = λ id h. kept nat_cmp_total r.slots k id h; texts = λ p h. h; hilites = λ p h. h }

pub IsWider-text : (r : Room) (k : Pair) → IsWider r (record r { texts = insert r.texts k })
IsWider-text r k = record { slots = λ id h. h; texts = λ p h. kept pair_cmp_total r.texts k p h; hilites = λ p h. h }

pub IsWider-hilite : (r : Room) (k : Pair) → IsWider r (record r { hilites = insert r.hilites k })
IsWider-hilite r k =
    record { slots = λ id h. h; texts = λ p h. h; hilites = λ p h. kept pair_cmp_total r.hilites k p h }

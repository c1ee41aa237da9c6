-- Pairs of ids, in the order of the first and then of the second.
use Rattle.std.specs.Prelude.{ℕ}
use Rattle.std.specs.Ordering.{nat_cmp, then_cmp, on}
use Rattle.std.specs.declared.cmp.Ordering.{Ordering}
use Rattle.std.specs.FinMap.{FinMap}
use Rattle.std.specs.Coded.{Coded, coded×, coded_ℕ}

-- an id of a part, and an id of a card or 0
abbrev pub Pair : Type 0
Pair = ℕ × ℕ

abbrev pub pair_cmp : Pair → Pair → Ordering
pair_cmp = then_cmp (on (λ p. p.0) nat_cmp) (on (λ p. p.1) nat_cmp)

abbrev pub PairMap : Type 0 → Type 0
PairMap X = FinMap pair_cmp X

abbrev pub coded_pair : Coded Pair
coded_pair = coded× coded_ℕ coded_ℕ

-- Values at keys that are open.
use Rattle.std.specs.Prelude.{◌≡◌, ℕ, true, List, [], ◌∷◌, map, Option}
use Rattle.std.specs.BTreeSet as ordered
use Rattle.std.specs.Ordering.{nat_cmp}
use Rattle.std.specs.declared.cmp.Ordering.{Ordering}
use Rattle.std.specs.FinMap.{FinMap, empty}
use Rattle.std.specs.FinSet.{FinSet, contains, from_list, insert}
use Rattle.object_table.specs.Maps.{put_option}
use Rattle.object_table.specs.Pairs.{Pair, pair_cmp, PairMap}

-- what stands at each key, by entries that have a value or none
abbrev pub map_of : {K X : Type 0} {R : K → K → Ordering} → List (K × Option X) → FinMap R X
map_of [] = empty
map_of (e ∷ es) = put_option (map_of es) e.0 e.1

-- the keys that have an entry
abbrev pub keys_of : {K X : Type 0} {R : K → K → Ordering} → List (K × X) → FinSet R
keys_of es = from_list (map (λ e. e.0) es)

-- the same of pairs
abbrev pub values_in : {X : Type 0} → List (Pair × Option X) → PairMap X
values_in es = map_of es

abbrev pub open_in : {X : Type 0} → List (Pair × Option X) → FinSet pair_cmp
open_in es = keys_of es

-- a set with the pair of each of these parts and a card
abbrev pub with_parts : FinSet pair_cmp → List ℕ → ℕ → FinSet pair_cmp
with_parts s [] card = s
with_parts s (part ∷ parts) card = with_parts (insert s (part, card)) parts card

-- what was open of these cards still is
abbrev pub StayOpen : ordered.BTreeSet ℕ → FinSet pair_cmp → FinSet pair_cmp → Type 0
StayOpen cards old new =
    (p : Pair) → ordered.contains nat_cmp cards p.1 ≡ true → contains old p ≡ true → contains new p ≡ true

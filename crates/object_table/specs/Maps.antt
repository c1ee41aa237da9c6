-- Finite maps with a value at a key, or with none.
use Rattle.std.specs.Prelude.{Option, Some, None}
use Rattle.std.specs.declared.cmp.Ordering.{Ordering}
use Rattle.std.specs.FinMap.{FinMap, insert, remove}

-- the map with this value at the key, or with none
abbrev pub put_option : {K X : Type 0} {R : K → K → Ordering} → FinMap R X → K → Option X → FinMap R X
put_option m k None = remove m k
put_option m k (Some v) = insert m k v

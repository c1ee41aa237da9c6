-- Ordinals.
use Rattle.std.specs.Prelude.{ℕ, Option, Some, None}
use Rattle.ht_lex.specs.declared.key.Ordinal.{Ordinal}
use Rattle.ht_lex.specs.declared.key.Ordinal.TheVariants.{First, Second, Third, Fourth, Fifth, Sixth, Seventh, Eighth}
use Rattle.ht_lex.specs.declared.key.Ordinal.TheVariants.{Ninth, Tenth, Last}

-- the number of an ordinal, however many there are; none of the last
abbrev pub from_first : Ordinal → Option ℕ
from_first First = Some 1
from_first Second = Some 2
from_first Third = Some 3
from_first Fourth = Some 4
from_first Fifth = Some 5
from_first Sixth = Some 6
from_first Seventh = Some 7
from_first Eighth = Some 8
from_first Ninth = Some 9
from_first Tenth = Some 10
from_first Last = None

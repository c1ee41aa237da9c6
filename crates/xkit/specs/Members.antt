-- The four externals of the kit.
use Rattle.std.specs.Prelude.{ℕ, Bool, true, false}
use Rattle.externals.specs.Log.{Log, Follows, Follows-prop}
use Rattle.xkit.specs.Table.{kit_table}
use Rattle.xkit.specs.declared.kit_external.Member.{Member}
use Rattle.xkit.specs.declared.kit_external.Member.TheVariants.{Count, Bins, Relay, Gate}

abbrev pub kind_of : Member → ℕ
kind_of Count = 1
kind_of Bins = 2
kind_of Relay = 3
kind_of Gate = 4

-- whether it answers function calls
abbrev pub answers_calls_of : Member → Bool
answers_calls_of Count = true
answers_calls_of Bins = false
answers_calls_of Relay = false
answers_calls_of Gate = false

-- how many cells it has
abbrev pub cell_count_of : Member → ℕ
cell_count_of Count = 1
cell_count_of Bins = 16
cell_count_of Relay = 2
cell_count_of Gate = 1

-- the turns of a member follow the table in one way at most
pub follows_once : (member : Member) (turns : Log) → IsProp (Follows kit_table (kind_of member) turns)
follows_once member turns = Follows-prop kit_table (kind_of member) turns

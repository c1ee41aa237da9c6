-- What the text tools do at a turn.
use Rattle.std.specs.Prelude.{ℕ, Bool, true, false, nat_eq, if◌then◌else◌, Some, None}
use Rattle.externals.specs.Log.{Log, Follows, Follows-prop}
use Rattle.externals.specs.Turns.{TurnTable}
use Rattle.text_tools.specs.Lookup.{table_turn}
use Rattle.text_tools.specs.Replacing.{replace_turn}
use Rattle.text_tools.specs.declared.text_tool.Tool.{Tool}
use Rattle.text_tools.specs.declared.text_tool.Tool.TheVariants.{Replace, Table}

abbrev pub kind_of : Tool → ℕ
kind_of Replace = 5
kind_of Table = 6

-- whether it answers function calls
abbrev pub answers_calls_of : Tool → Bool
answers_calls_of Replace = true
answers_calls_of Table = false

-- how many cells it has
abbrev pub cell_count_of : Tool → ℕ
cell_count_of Replace = 0
cell_count_of Table = 64

-- the turn of a tool; another kind has none
abbrev pub tool_table : TurnTable
tool_table kind cells input =
    if nat_eq kind 5 then Some (replace_turn input, cells)
    else if nat_eq kind 6 then Some (table_turn cells input)
    else None

-- the turns of a tool follow the table in one way at most
pub follows_once : (tool : Tool) (turns : Log) → IsProp (Follows tool_table (kind_of tool) turns)
follows_once tool turns = Follows-prop tool_table (kind_of tool) turns

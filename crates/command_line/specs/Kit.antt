-- The externals that the program plugs in.
use Rattle.std.specs.Prelude.{true, false, codes, List, [], ◌∷◌, pos, replicate}
use Rattle.ht_values.specs.Text.{numeral}
use Rattle.externals.specs.Cells.{Seen}
use Rattle.externals.specs.Log.{Log}

-- each of the kit as it begins, under its name
abbrev pub count : Seen
count = record { title = codes "Count"; sort = 1; answers_calls = true; cells = numeral (pos 0) ∷ [] }

abbrev pub bins : Seen
bins = record { title = codes "Bins"; sort = 2; answers_calls = false; cells = replicate 16 [] }

abbrev pub relay : Seen
relay = record { title = codes "Relay"; sort = 3; answers_calls = false; cells = replicate 2 [] }

abbrev pub gate : Seen
gate = record { title = codes "Gate"; sort = 4; answers_calls = false; cells = codes "0" ∷ [] }

-- the four of them
abbrev pub kit : List Seen
kit = count ∷ bins ∷ relay ∷ gate ∷ []

-- none of them has taken a turn
abbrev pub kit_logs : List Log
kit_logs = [] ∷ [] ∷ [] ∷ [] ∷ []

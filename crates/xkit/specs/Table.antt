-- What the externals of the kit do at a turn, by their kind.
use Rattle.std.specs.Prelude.{ℕ, suc, ◌+◌, ℤ, pos, negsuc, ◌+ℤ◌, ◌^◌, Bool, true, false, bytes_eq, codes, nat_eq}
use Rattle.std.specs.Prelude.{nat_lt, if◌then◌else◌, ◌&&◌, List, [], ◌∷◌, length, slice_index_or, slice_set, Option}
use Rattle.std.specs.Prelude.{Some, None}
use Rattle.ht_values.specs.Text.{numeral}
use Rattle.ht_values.specs.Number.{is_numeral, value_of}
use Rattle.externals.specs.Turns.{Turn, TurnTable}
use Rattle.externals.specs.declared.external.Input.{Input}
use Rattle.externals.specs.declared.external.Input.TheVariants.{Start, Answer}
use Rattle.externals.specs.declared.external.Ask.TheVariants.{SendCardMessage, EvalExpr, SetGlobal, SetFieldByName}
use Rattle.externals.specs.declared.external.Ask.TheVariants.{Done}
use Rattle.xkit.specs.Steps.{cell, fails}

-- the number of a numeral
unfoldable pub number_in : List ℕ → Option ℤ
number_in t = if is_numeral t then Some (value_of t) else None

-- below the greatest number
abbrev pub may_count : ℤ → Bool
may_count (pos n) = nat_lt (n + 1) (2 ^ 63)
may_count (negsuc n) = true

-- Kind 1 counts its one cell up at each start, and tells the count.
abbrev pub counted : List (List ℕ) → Option ℤ → Turn
counted cells None = fails cells
counted cells (Some n) =
    if may_count n then (let more = numeral (n +ℤ pos 1) in (Done more false, slice_set cells 0 more)) else fails cells

abbrev pub counter_turn : List (List ℕ) → Input → Turn
counter_turn cells (Start args) = counted cells (number_in (cell cells 0))
counter_turn cells (Answer note value) = fails cells

-- Kind 2 keeps a text in one of its cells 1 to 16, and tells the old one.
abbrev pub stored : List (List ℕ) → Option ℤ → List ℕ → Turn
stored cells (Some (pos (suc i))) text =
    if nat_lt i 16 then (Done (cell cells i) false, slice_set cells i text) else fails cells
stored cells _ text = fails cells

abbrev pub bins_turn : List (List ℕ) → Input → Turn
bins_turn cells (Start (n ∷ text ∷ [])) = stored cells (number_in n) text
bins_turn cells _ = fails cells

-- Kind 3 is started with a global, a field, an expression and a message, and uses each of the call-backs once;
-- the first text of its note says which was the last.
abbrev pub is_stage : List ℕ → List ℕ → Bool
is_stage stage text = bytes_eq stage text

abbrev pub relay_start : List (List ℕ) → List (List ℕ) → Turn
relay_start cells (global ∷ field ∷ expression ∷ message ∷ []) =
    (SetGlobal (codes "1" ∷ field ∷ expression ∷ message ∷ []) global (codes "relay"), slice_set cells 0 global)
relay_start cells _ = fails cells

abbrev pub relay_answer : List (List ℕ) → List (List ℕ) → List ℕ → Turn
relay_answer cells (stage ∷ field ∷ expression ∷ message ∷ []) value = if is_stage stage (codes "1") then
    (SetFieldByName (codes "2" ∷ expression ∷ message ∷ []) false field (cell cells 0), cells) else fails cells
relay_answer cells (stage ∷ expression ∷ message ∷ []) value =
    if is_stage stage (codes "2") then (EvalExpr (codes "3" ∷ message ∷ []) expression, cells) else fails cells
relay_answer cells (stage ∷ text ∷ []) value =
    if is_stage stage (codes "3") then (SendCardMessage (codes "4" ∷ value ∷ []) text, slice_set cells 1 value)
    else if is_stage stage (codes "4") then (Done text false, cells)
    else fails cells
relay_answer cells _ value = fails cells

abbrev pub relay_turn : List (List ℕ) → Input → Turn
relay_turn cells (Start args) = relay_start cells args
relay_turn cells (Answer note value) = relay_answer cells note value

-- Kind 4 passes every other message on.
abbrev pub gate_turn : List (List ℕ) → Input → Turn
gate_turn cells (Start args) =
    if bytes_eq (cell cells 0) (codes "0") then (Done [] false, slice_set cells 0 (codes "1"))
    else if bytes_eq (cell cells 0) (codes "1") then (Done [] true, slice_set cells 0 (codes "0"))
    else fails cells
gate_turn cells (Answer note value) = fails cells

-- the turn of an external of the kit; another kind has none
abbrev pub kit_table : TurnTable
kit_table kind cells input =
    if nat_eq kind 1 then Some (counter_turn cells input)
    else if nat_eq kind 2 then Some (bins_turn cells input)
    else if nat_eq kind 3 then Some (relay_turn cells input)
    else if nat_eq kind 4 then Some (gate_turn cells input)
    else None

-- ---- what the code computes

-- the number after a number, below the greatest
abbrev pub after : Option ℤ → Option ℤ
after None = None
after (Some n) = if may_count n then Some (n +ℤ pos 1) else None

-- the cell of a bin from 1 to 16
abbrev pub bin_of : Option ℤ → Option ℕ
bin_of (Some (pos (suc i))) = if nat_lt i 16 then Some i else None
bin_of _ = None

-- a note of so many texts, the first of which is the stage
abbrev pub is_note : ℕ → List ℕ → List (List ℕ) → Bool
is_note count stage note = nat_eq (length note) count && bytes_eq (slice_index_or note 0 []) stage

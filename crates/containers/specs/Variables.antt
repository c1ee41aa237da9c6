-- What names mean where a handler runs, or a typed line.
use Rattle.std.specs.Prelude.{ℕ, Bool, false, ◌||◌, List, [], ◌∷◌, find, get_or, Option, Some, None, option_map}
use Rattle.std.specs.Prelude.{option_and_then, unwrap_or, is_none, if◌then◌else◌}
use Rattle.ht_values.specs.Text.{folded, same}
use Rattle.name_lists.specs.declared.parameters.Binding.{Binding}
use Rattle.containers.specs.declared.variables.Local.{Local}

-- Whether every variable is global, as in a typed line, and the names that a handler has met, in the order in which
-- they came: with a value its own variables, without one those that mean globals.
pub record VariablesView : Type 0 where
  pub all_global : Bool
  pub locals : List Local

-- what is known of a name
abbrev pub local_of : VariablesView → List ℕ → Option Local
local_of v name = find (λ l. same l.name name) v.locals

-- whether a name means a global
abbrev pub is_global : VariablesView → List ℕ → Bool
is_global v name = v.all_global || unwrap_or (option_map (λ l. is_none l.value) (local_of v name)) false

-- the value of a variable of the handler's own, if it has one
abbrev pub own_value : VariablesView → List ℕ → Option (List ℕ)
own_value v name = option_and_then (λ l. l.value) (local_of v name)

-- the text of a variable of the handler's own, which is empty where it has no value
abbrev pub own_text : VariablesView → List ℕ → List ℕ
own_text v name = unwrap_or (own_value v name) []

-- the names where this one has a value of its own, or without one means a global; a new name stands last, folded
abbrev pub with_value : List ℕ → Option (List ℕ) → List Local → List Local
with_value name value [] = record { name = folded name; value = value } ∷ []
with_value name value (l ∷ ls) =
    if same l.name name then record l { value = value } ∷ ls else l ∷ with_value name value ls

abbrev pub with_local : VariablesView → List ℕ → Option (List ℕ) → VariablesView
with_local v name value = record v { locals = with_value name value v.locals }

-- the names where this one means a global, as each does in a typed line
abbrev pub declared : VariablesView → List ℕ → VariablesView
declared v name = if v.all_global then v else with_local v name None

-- parameters get the arguments: a missing one is empty, a surplus one is dropped, and of one name the last counts
abbrev pub bound : List (List ℕ) → List (List ℕ) → VariablesView → VariablesView
bound [] arguments v = v
bound (name ∷ names) [] v = bound names [] (with_local v name (Some []))
bound (name ∷ names) (a ∷ arguments) v = bound names arguments (with_local v name (Some a))

-- a name with its argument; one that is missing is empty
abbrev pub local_given : List (List ℕ) → Binding → Local
local_given arguments b = record { name = b.name; value = Some (get_or arguments b.argument []) }

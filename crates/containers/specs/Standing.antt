-- What stands at a place, as a call lends it.
use Rattle.std.specs.Prelude.{◌≡◌, ℕ, true, false, List, Some, None}
use Rattle.containers.specs.declared.standing.Standing.{Standing}
use Rattle.containers.specs.declared.standing.Standing.TheVariants as standing
use Rattle.containers.specs.declared.variables.NameMeaning.{NameMeaning}
use Rattle.containers.specs.declared.variables.NameMeaning.TheVariants as meaning
use Rattle.containers.specs.Variables.{VariablesView, is_global, own_value}

-- the text that stands there, in a text or in a value
abbrev pub standing_text : Standing → List ℕ
standing_text (standing.Text t) = t.now
standing_text (standing.Value v) = v.now

-- what a name means, with its value where it is a variable of the handler's own that has one
abbrev pub IsMeaning : VariablesView → List ℕ → NameMeaning → Type 0
IsMeaning v name meaning.Global = is_global v name ≡ true
IsMeaning v name (meaning.Own value) = (is_global v name ≡ false) × (own_value v name ≡ Some value.now)
IsMeaning v name meaning.Unknown = (is_global v name ≡ false) × (own_value v name ≡ None)

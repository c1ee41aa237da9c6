-- How a name keeps its folded form.
use Rattle.std.specs.Prelude.{◌≤◌, ℕ, List, length, take}
use Rattle.ht_values.specs.Text.{folded}
use Rattle.ht_values.specs.declared.name.FoldedForm.{FoldedForm}
use Rattle.ht_values.specs.declared.name.FoldedForm.TheVariants as form
use Rattle.ht_values.specs.declared.name.TheConstants.{SHORT}

-- the bytes of the form of a spelling, wherever they stand
abbrev pub form_in : List ℕ → FoldedForm → List ℕ
form_in spelling form.Spelled = spelling
form_in spelling (form.InPlace place) = take (length spelling) place
form_in spelling (form.Boxed text) = text.value

-- a form that stands in its own place is short
abbrev pub IsInRoom : List ℕ → FoldedForm → Type 0
IsInRoom spelling (form.InPlace _) = length spelling ≤ SHORT
IsInRoom _ _ = Unit {0}

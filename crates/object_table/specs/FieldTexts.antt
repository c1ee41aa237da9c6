-- The text of a field, as a stack keeps it.
use Rattle.std.specs.Prelude.{ℕ, List, []}
use Rattle.object_table.specs.declared.field_text.Held.{Held}
use Rattle.object_table.specs.declared.field_text.Held.TheVariants as held

abbrev pub text_in : Held → List ℕ
text_in held.Nothing = []
text_in (held.Text text) = text.value

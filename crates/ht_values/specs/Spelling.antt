-- How a computed value is spelled.
use Rattle.std.specs.Prelude.{ℕ, List}
use Rattle.ht_values.specs.declared.value.Form.{Form}
use Rattle.ht_values.specs.declared.value.Form.TheVariants as form
use Rattle.ht_values.specs.declared.value.Lent.{Lent}
use Rattle.ht_values.specs.declared.value.Lent.TheVariants as lent
use Rattle.ht_values.specs.Operators.{word_of}
use Rattle.ht_values.specs.Text.{numeral}

-- the text of a value: of a number its numeral, of a truth value its word
abbrev pub spelled_form : Form → List ℕ
spelled_form (form.Number z) = numeral z
spelled_form (form.Truth b) = word_of b
spelled_form (form.Spelled t) = t

-- the text, wherever it stands
abbrev pub lent_text : Lent → List ℕ
lent_text (lent.Made t) = t
lent_text (lent.Stands t) = t.now

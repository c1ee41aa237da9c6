use Rattle.std.proofs.Common.{◌∙◌, ap, sym}
use Rattle.std.proofs.lemmas.Option.{IfSome_then}
use Rattle.ht_tree.specs.View.{form_of}
use Rattle.meaning.specs.Meaning.{Val}
use Rattle.primitives.proofs.numbers.kept_number.Goals as goal

pub returns-in-Name : goal.returns-in-Name
returns-in-Name g c =
    IfSome_then c.read_number.result c.read_number.ensures
    (λ n h r d. Val.name (sym c.form.ensures ∙ ap form_of c.in-Name.is) (sym h))

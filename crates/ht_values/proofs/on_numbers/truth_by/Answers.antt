use Rattle.std.proofs.lemmas.Int.{to_z-of_z}
use mir.Syntax.{w64}
use Rattle.ht_values.proofs.OnNumbers.{truth_meant}
use Rattle.ht_values.proofs.on_numbers.truth_by.Goals as goal

pub returns-clause-meaning : goal.returns-clause-meaning
returns-clause-meaning c =
    rw (c.compared.ensures, to_z-of_z w64 c.args.left c.ranges.left, to_z-of_z w64 c.args.right c.ranges.right)
    (truth_meant c.args.op c.args.left c.args.right c.ranges.left c.ranges.right)

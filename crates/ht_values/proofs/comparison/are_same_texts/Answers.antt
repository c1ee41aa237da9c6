use Rattle.ht_values.proofs.Sames.{same_by}
use Rattle.ht_values.proofs.comparison.are_same_texts.Goals as goal

pub returns : goal.returns
returns c = same_by c.same.result c.args.left.now c.args.right.now c.same.ensures

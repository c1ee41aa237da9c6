use Rattle.ht_values.proofs.Orders.{texts_are_ordered}
use Rattle.ht_values.proofs.law.texts_are_ordered.Goals as goal

pub returns : goal.returns
returns c = texts_are_ordered

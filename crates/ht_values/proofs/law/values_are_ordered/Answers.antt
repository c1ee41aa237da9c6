use Rattle.ht_values.proofs.Orders.{values_are_ordered}
use Rattle.ht_values.proofs.law.values_are_ordered.Goals as goal

pub returns : goal.returns
returns c = values_are_ordered

use Rattle.ht_values.proofs.Orders.{places_are_first}
use Rattle.ht_values.proofs.law.places_are_first.Goals as goal

pub returns : goal.returns
returns c = places_are_first

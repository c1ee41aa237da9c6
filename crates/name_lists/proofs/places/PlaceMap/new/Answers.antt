use Rattle.std.proofs.Common.{refl}
use Rattle.name_lists.proofs.places.PlaceMap.new.Goals as goal

pub returns : goal.returns
returns c name = rw c.new.ensures.empty refl

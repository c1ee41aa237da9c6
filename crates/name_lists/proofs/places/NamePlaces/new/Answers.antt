use Rattle.std.proofs.Common.{None, refl, ◌∙◌}
use Rattle.name_lists.proofs.Kept.{kept_is}
use Rattle.name_lists.proofs.places.NamePlaces.new.Goals as goal

pub returns : goal.returns
returns c name = kept_is c.new.result None name ∙ rw (c.new.ensures name) refl

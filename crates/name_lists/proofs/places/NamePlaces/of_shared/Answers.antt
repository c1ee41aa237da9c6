use Rattle.std.proofs.Common.{Some, refl, ◌∙◌}
use Rattle.name_lists.proofs.Kept.{kept_is}
use Rattle.name_lists.proofs.places.NamePlaces.of_shared.Goals as goal

pub returns : goal.returns
returns c name = kept_is c.new.result (Some c.args.shared.value) name ∙ rw (c.new.ensures name) refl

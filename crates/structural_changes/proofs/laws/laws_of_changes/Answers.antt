use Rattle.structural_changes.proofs.Backgrounds.{new_background_fits}
use Rattle.structural_changes.proofs.Parts.{new_part_fits}
use Rattle.structural_changes.proofs.laws.laws_of_changes.Goals as goal

pub returns-clause-new_part : goal.returns-clause-new_part
returns-clause-new_part c = new_part_fits

pub returns-clause-new_background : goal.returns-clause-new_background
returns-clause-new_background c s card w room = (new_background_fits s card w room).0

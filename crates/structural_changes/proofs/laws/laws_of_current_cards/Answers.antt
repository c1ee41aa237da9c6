use Rattle.structural_changes.proofs.Backgrounds.{new_background_fits}
use Rattle.structural_changes.proofs.Parts.{cards_stay}
use Rattle.structural_changes.proofs.laws.laws_of_current_cards.Goals as goal

pub returns-clause-new_part : goal.returns-clause-new_part
returns-clause-new_part c = cards_stay

pub returns-clause-new_background : goal.returns-clause-new_background
returns-clause-new_background c s card w room = (new_background_fits s card w room).1

use Rattle.structural_changes.proofs.Once.{new_part_once, new_card_once, new_background_once, deletion_once}
use Rattle.structural_changes.proofs.laws.laws_of_places.Goals as goal

pub returns-clause-new_part : goal.returns-clause-new_part
returns-clause-new_part c = new_part_once

pub returns-clause-new_card : goal.returns-clause-new_card
returns-clause-new_card c = new_card_once

pub returns-clause-new_background : goal.returns-clause-new_background
returns-clause-new_background c = new_background_once

pub returns-clause-deletion : goal.returns-clause-deletion
returns-clause-deletion c = deletion_once

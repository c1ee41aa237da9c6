use Rattle.determinism.proofs.law.runs_have_one_outcome.Goals as goal
use Rattle.determinism.proofs.One.{one_line, one_message, one_action, one_reference, one_value}

pub returns-clause-lines : goal.returns-clause-lines
returns-clause-lines c = one_line c.texts_are_read_exactly.ensures

pub returns-clause-messages : goal.returns-clause-messages
returns-clause-messages c = one_message c.texts_are_read_exactly.ensures

pub returns-clause-actions : goal.returns-clause-actions
returns-clause-actions c = one_action c.texts_are_read_exactly.ensures

pub returns-clause-references : goal.returns-clause-references
returns-clause-references c = one_reference c.texts_are_read_exactly.ensures

pub returns-clause-values : goal.returns-clause-values
returns-clause-values c = one_value c.texts_are_read_exactly.ensures

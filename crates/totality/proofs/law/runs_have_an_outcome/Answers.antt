use Rattle.totality.proofs.Outcomes.{lines_have_an_outcome, messages_have_an_outcome, actions_have_an_outcome}
use Rattle.totality.proofs.Outcomes.{references_have_an_outcome, values_have_an_outcome}
use Rattle.totality.proofs.law.runs_have_an_outcome.Goals as goal

pub returns-clause-lines : goal.returns-clause-lines
returns-clause-lines c = lines_have_an_outcome c.texts_are_read_exactly.ensures

pub returns-clause-messages : goal.returns-clause-messages
returns-clause-messages c = messages_have_an_outcome c.texts_are_read_exactly.ensures

pub returns-clause-actions : goal.returns-clause-actions
returns-clause-actions c = actions_have_an_outcome c.texts_are_read_exactly.ensures

pub returns-clause-references : goal.returns-clause-references
returns-clause-references c = references_have_an_outcome c.texts_are_read_exactly.ensures

pub returns-clause-values : goal.returns-clause-values
returns-clause-values c = values_have_an_outcome c.texts_are_read_exactly.ensures

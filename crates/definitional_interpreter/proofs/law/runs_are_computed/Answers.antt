use Rattle.definitional_interpreter.proofs.law.runs_are_computed.Goals as goal
use Rattle.definitional_interpreter.proofs.Computed.{line_is_computed, message_is_computed}
use Rattle.definitional_interpreter.proofs.Computed.{action_is_computed, reference_is_computed, value_is_computed}

pub returns-clause-lines : goal.returns-clause-lines
returns-clause-lines c = line_is_computed c.texts_are_read_exactly.ensures

pub returns-clause-messages : goal.returns-clause-messages
returns-clause-messages c = message_is_computed c.texts_are_read_exactly.ensures

pub returns-clause-actions : goal.returns-clause-actions
returns-clause-actions c = action_is_computed c.texts_are_read_exactly.ensures

pub returns-clause-values : goal.returns-clause-values
returns-clause-values c = value_is_computed c.texts_are_read_exactly.ensures

pub returns-clause-references : goal.returns-clause-references
returns-clause-references c = reference_is_computed c.texts_are_read_exactly.ensures

use Rattle.totality.proofs.Outcomes.{lines_have_an_outcome_by, messages_have_an_outcome_by, actions_have_an_outcome_by}
use Rattle.totality.proofs.Outcomes.{references_have_an_outcome_by, values_have_an_outcome_by}
use Rattle.totality.proofs.law.behaviours_have_an_outcome.Goals as goal

pub returns-clause-lines : goal.returns-clause-lines
returns-clause-lines c = lines_have_an_outcome_by c.texts_are_read_exactly.ensures
    c.runs_lead_to_whole_states.ensures.lines

pub returns-clause-messages : goal.returns-clause-messages
returns-clause-messages c = messages_have_an_outcome_by c.texts_are_read_exactly.ensures
    c.runs_lead_to_whole_states.ensures.messages

pub returns-clause-actions : goal.returns-clause-actions
returns-clause-actions c = actions_have_an_outcome_by c.texts_are_read_exactly.ensures
    c.runs_lead_to_whole_states.ensures.actions
    c.runs_lead_to_whole_states.ensures.references

pub returns-clause-references : goal.returns-clause-references
returns-clause-references c = references_have_an_outcome_by c.texts_are_read_exactly.ensures
    c.runs_lead_to_whole_states.ensures.references

pub returns-clause-values : goal.returns-clause-values
returns-clause-values c = values_have_an_outcome_by c.texts_are_read_exactly.ensures
    c.runs_lead_to_whole_states.ensures.values

use Rattle.whole_states.proofs.TreeTexts.{expressions_have_texts, lines_have_texts, messages_have_texts}
use Rattle.whole_states.proofs.TreeTexts.{scripts_have_texts, parts_have_texts, typed_have_texts}
use Rattle.whole_states.proofs.law.trees_have_texts.Goals as goal

pub returns-clause-expressions : goal.returns-clause-expressions
returns-clause-expressions c = expressions_have_texts

pub returns-clause-lines : goal.returns-clause-lines
returns-clause-lines c = lines_have_texts

pub returns-clause-messages : goal.returns-clause-messages
returns-clause-messages c = messages_have_texts

pub returns-clause-scripts : goal.returns-clause-scripts
returns-clause-scripts c = scripts_have_texts

pub returns-clause-parts : goal.returns-clause-parts
returns-clause-parts c = parts_have_texts

pub returns-clause-typed : goal.returns-clause-typed
returns-clause-typed c = typed_have_texts

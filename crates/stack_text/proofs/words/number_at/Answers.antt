use Rattle.stack_text.proofs.Numbers.{number_known, number_unknown}
use Rattle.stack_text.proofs.words.number_at.Goals as goal

pub returns-clause-found : goal.returns-clause-found
returns-clause-found c = number_known c.args.bytes.now c.number_of.result c.number_of.ensures

pub returns-clause-none : goal.returns-clause-none
returns-clause-none c = number_unknown c.args.bytes.now c.number_of.result c.number_of.ensures

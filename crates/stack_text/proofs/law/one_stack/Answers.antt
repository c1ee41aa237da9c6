use Rattle.stack_text.proofs.Laws.{one_stack}
use Rattle.stack_text.proofs.law.one_stack.Goals as goal

pub returns : goal.returns
returns c = one_stack

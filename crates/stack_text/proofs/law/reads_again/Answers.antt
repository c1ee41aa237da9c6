use Rattle.stack_text.proofs.Laws.{reads_again}
use Rattle.stack_text.proofs.law.reads_again.Goals as goal

pub returns : goal.returns
returns c = reads_again

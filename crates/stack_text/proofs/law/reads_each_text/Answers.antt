use Rattle.stack_text.proofs.Laws.{reads_each_text}
use Rattle.stack_text.proofs.law.reads_each_text.Goals as goal

pub returns : goal.returns
returns c = reads_each_text

use Rattle.stack_text.proofs.Laws.{written_is_read}
use Rattle.stack_text.proofs.law.written_is_read.Goals as goal

pub returns : goal.returns
returns c = written_is_read

use Rattle.stack_text.proofs.Laws.{read_is_written}
use Rattle.stack_text.proofs.law.read_is_written.Goals as goal

pub returns : goal.returns
returns c = read_is_written

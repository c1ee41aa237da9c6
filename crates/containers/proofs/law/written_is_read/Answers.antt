use Rattle.containers.proofs.Outcomes.{written_is_read}
use Rattle.containers.proofs.law.written_is_read.Goals as goal

pub returns : goal.returns
returns c = written_is_read

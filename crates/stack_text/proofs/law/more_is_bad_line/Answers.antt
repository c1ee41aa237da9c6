use Rattle.stack_text.proofs.Faults.{more_is_bad_line}
use Rattle.stack_text.proofs.law.more_is_bad_line.Goals as goal

pub returns : goal.returns
returns c = more_is_bad_line

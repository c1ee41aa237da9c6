use Rattle.stack_text.proofs.Faults.{prefix_is_truncated}
use Rattle.stack_text.proofs.law.prefix_is_truncated.Goals as goal

pub returns : goal.returns
returns c = prefix_is_truncated

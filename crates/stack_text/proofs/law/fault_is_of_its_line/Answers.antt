use Rattle.stack_text.proofs.Faults.{fault_is_of_its_line}
use Rattle.stack_text.proofs.law.fault_is_of_its_line.Goals as goal

pub returns : goal.returns
returns c = fault_is_of_its_line

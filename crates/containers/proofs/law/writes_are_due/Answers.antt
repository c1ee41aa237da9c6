use Rattle.containers.proofs.Outcomes.{writes_are_due}
use Rattle.containers.proofs.law.writes_are_due.Goals as goal

pub returns : goal.returns
returns c = writes_are_due

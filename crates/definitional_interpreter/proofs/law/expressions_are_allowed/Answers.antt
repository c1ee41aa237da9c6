use Rattle.definitional_interpreter.proofs.Allowed.{expressions_allowed}
use Rattle.definitional_interpreter.proofs.law.expressions_are_allowed.Goals as goal

pub returns : goal.returns
returns c = expressions_allowed

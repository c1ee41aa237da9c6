use Rattle.std.proofs.Common.{refl}
use Rattle.meaning.specs.Meaning.{Val}
use Rattle.primitives.proofs.numbers.unary_of_name.Goals as goal

pub returns : goal.returns
returns g c = Val.one_operand refl (Val.name refl c.in_ok-variable.ensures) c.apply_one.ensures

use Rattle.std.proofs.Common.{refl}
use Rattle.std.proofs.lemmas.Result.{err_from_is_err_and}
use Rattle.meaning.specs.Meaning.{Val}
use Rattle.primitives.proofs.numbers.binary_of_atoms.Goals as goal

pub returns-in_err-atom : goal.returns-in_err-atom
returns-in_err-atom g c =
    let p = err_from_is_err_and c.from_residual.result c.from_residual.ensures.1 in
    rw (p.1, p.2) (Val.left_stops refl (c.in_err-atom.ensures c.args.nested))

pub returns-in_err-atom-2 : goal.returns-in_err-atom-2
returns-in_err-atom-2 g c =
    let p = err_from_is_err_and c.from_residual-in_err-atom-2.result c.from_residual-in_err-atom-2.ensures.1 in
    rw (p.1, p.2) (Val.right_stops refl (c.in_ok-atom.ensures c.args.nested) (c.in_err-atom-2.ensures c.args.nested))

pub returns : goal.returns
returns g c =
    Val.two_operands refl (c.in_ok-atom.ensures c.args.nested) (c.in_ok-atom-2.ensures c.args.nested) c.apply.ensures

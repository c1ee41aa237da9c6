use Rattle.std.proofs.Common.{◌++◌, Ok, Err}
use Rattle.std.proofs.lemmas.Result.{err_from_is_err_and}
use Rattle.headline.proofs.Writing.{cut_before, goes_behind}
use Rattle.headline.specs.declared.answer.Cut.{Cut}
use Rattle.headline.proofs.answer.write_three.Goals as goal

pub returns-in_err-write_piece : goal.returns-in_err-write_piece
returns-in_err-write_piece g c =
    let p = err_from_is_err_and c.from_residual.result c.from_residual.ensures.1 in
    let first = c.args.first.now in
    let second = c.args.second.now in
    let cut = c.in_err-write_piece.field-0.0 in
    rw p.1 (cut_before g.W.Write.contents (first ++ second) c.args.third.now cut _ _ _
    (cut_before g.W.Write.contents first second cut cut _ _ c.in_err-write_piece.ensures))

pub returns-in_err-write_piece-2 : goal.returns-in_err-write_piece-2
returns-in_err-write_piece-2 g c =
    let p = err_from_is_err_and c.from_residual-in_err-write_piece-2.result
    c.from_residual-in_err-write_piece-2.ensures.1 in
    let first = c.args.first.now in
    let second = c.args.second.now in
    let cut = c.in_err-write_piece-2.field-0.0 in
    let one = c.in_ok-write_piece.ensures in
    rw p.1 (cut_before g.W.Write.contents (first ++ second) c.args.third.now cut _ _ _
    (goes_behind g.W.Write.contents first second (Err cut) _ _ _ one.0 one.1 c.in_err-write_piece-2.ensures))

pub returns : goal.returns
returns g c =
    let first = c.args.first.now in
    let second = c.args.second.now in
    let one = c.in_ok-write_piece.ensures in
    let two = goes_behind {E = Cut} g.W.Write.contents first second (Ok tt) _ _ _ one.0 one.1
    c.in_ok-write_piece-2.ensures in
    goes_behind g.W.Write.contents (first ++ second) c.args.third.now c.write_piece-3.result _ _ _ two.0 two.1
    c.write_piece-3.ensures

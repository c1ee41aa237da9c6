use Rattle.std.proofs.Common.{arith, ◌∙◌, sym}
use Rattle.std.proofs.lemmas.Result.{on_ok_weaker}
use Rattle.stack_file.proofs.Pieced.{first-piece, piece-step, last_piece, empty_piece}
use Rattle.stack_file.proofs.put.put_each_piece.Goals as goal
use Rattle.stack_file.proofs.put.put_each_piece.Goals.{else-loop-test, then-loop-test+in_default}

pub loop-preserved : goal.loop-preserved
loop-preserved c =
    let rest = c.loop.rest.now in
    let piece = c.in-Some.piece.now in
    let after = c.in-Some.after.now in
    let fewer = (first-piece rest piece after (sym c.in-Some.ensures)).1 in
    record {
      left = piece-step c.loop.out.items c.put_piece.new.out.items rest piece after (sym c.in-Some.ensures)
          c.in_ok-put_piece.ensures ∙ c.loop.invariant.left;
      short = omega (arith, fewer, c.loop.invariant.short);
    }

pub returns : goal.returns
returns c =
    let out = c.loop.out.items in
    let new = c.put_piece-2.new.out.items in
    let rest = c.loop.rest.now in
    on_ok_weaker c.put_piece-2.result (λ written. elim c.loop-test.branch [
      | else-loop-test w ↦ empty_piece out new rest (omega (arith, c.loop.invariant.short)) written
          ∙ c.loop.invariant.left
      | then-loop-test+in_default w ↦ last_piece out new rest (sym w.in_default.ensures)
          written ∙ c.loop.invariant.left
    ]) c.put_piece-2.ensures

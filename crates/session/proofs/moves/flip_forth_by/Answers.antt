use Rattle.std.proofs.Common.{◌<◌, length, sym, ◌∙◌, arith}
use Rattle.session.proofs.Moving.{forth_by-next, future-flipped_forth, start-flipped_forth}
use Rattle.session.proofs.moves.flip_forth_by.Goals as goal

pub loop-preserved : goal.loop-preserved
loop-preserved g c =
    let inv = c.loop.invariant in
    let left : c.loop.counter < c.args.places = omega arith in
    let some : 0 < length c.loop.world.history.future = omega (arith, inv.there) in
    rw c.flip_forth.ensures (record {
      left = sym (forth_by-next c.args.places c.loop.counter c.loop.world.history left) ∙ inv.left;
      there = omega (arith, inv.there, future-flipped_forth c.loop.world.history some);
      closed = start-flipped_forth c.loop.world.history ∙ inv.closed;
    })

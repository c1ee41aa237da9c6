use Rattle.std.proofs.Common.{◌<◌, length, sym, ◌∙◌, arith}
use Rattle.session.proofs.Moving.{back_by-next, past-flipped_back, start-flipped_back}
use Rattle.session.proofs.moves.flip_back_by.Goals as goal

pub loop-preserved : goal.loop-preserved
loop-preserved g c =
    let inv = c.loop.invariant in
    let left : c.loop.counter < c.args.places = omega arith in
    let some : 0 < length c.loop.world.history.past = omega (arith, inv.there) in
    rw c.flip_back.ensures (record {
      left = sym (back_by-next c.args.places c.loop.counter c.loop.world.history left) ∙ inv.left;
      there = omega (arith, inv.there, past-flipped_back c.loop.world.history some);
      closed = start-flipped_back c.loop.world.history ∙ inv.closed;
    })

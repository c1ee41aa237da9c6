use Rattle.std.proofs.Common.{◌≡◌, ◌+◌, ◌-◌, ◌/◌, ◌<◌, arith}
use Rattle.session.proofs.Moving.{places_to-found, places_to-none}
use Rattle.session.proofs.Stamping.{all_high}
use Rattle.session.proofs.moves.places_to.Goals as goal

pub returns-then-number-stamp-clause-places : goal.returns-then-number-stamp-clause-places
returns-then-number-stamp-clause-places g c =
    let h = c.args.world.now.history in
    places_to-none c.args.number h (λ k lt. all_high c.args.number c.undoable-far.result h c.requires (omega arith)
    (omega arith) k (omega arith))

pub loop-near-preserved-then-number-stamp-2 : goal.loop-near-preserved-then-number-stamp-2
loop-near-preserved-then-number-stamp-2 g c =
    let h = c.args.world.now.history in
    let middle = c.loop-near.near + (c.loop-near.far - c.loop-near.near) / 2 in
    let before : middle < c.loop-near.far = omega arith in
    record {
      order = omega arith;
      within = c.loop-near.invariant.within;
      high = all_high c.args.number middle h c.requires (omega (arith, c.loop-near.invariant.within)) (omega arith);
      low = c.loop-near.invariant.low;
    }

pub returns-clause-places : goal.returns-clause-places
returns-clause-places g c =
    let near : c.loop-near.near ≡ c.loop-near.far = omega (arith, c.loop-near.invariant.order) in
    places_to-found c.args.number c.loop-near.far c.args.world.now.history c.loop-near.invariant.within
    (λ k lt. c.loop-near.invariant.high k (omega arith)) c.loop-near.invariant.low

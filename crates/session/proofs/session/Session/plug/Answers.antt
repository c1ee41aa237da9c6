use Rattle.session.proofs.Stamping.{stands-plugged}
use Rattle.session.proofs.session.Session.plug.Goals as goal

pub invariant_of-self : goal.invariant_of-self
invariant_of-self g c =
    let h = c.self.inside.world.history in
    let stands = stands-plugged c.self.inside.lines h c.plug.new.self.history _ _ _ c.plug.result c.plug.ensures.ok
    c.plug.ensures.err c.self.invariant.0 c.self.invariant.2 in
    (stands.0, c.self.invariant.1, stands.1)

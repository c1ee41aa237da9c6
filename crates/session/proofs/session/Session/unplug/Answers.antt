use Rattle.std.proofs.Common.{◌∙◌, ap, sym, subst}
use Rattle.session.specs.Stamped.{AreStamped}
use Rattle.session.proofs.Stamping.{closed-unplugged, stamped-unplugged}
use Rattle.session.proofs.session.Session.unplug.Goals as goal

pub invariant_of-self : goal.invariant_of-self
invariant_of-self g c =
    let s = c.self.inside in (
      ap (λ h. h.start) c.unplug.ensures.history ∙ closed-unplugged c.args.name.now s.world.history c.self.invariant.0,
      c.self.invariant.1,
      subst (AreStamped s.lines) (sym c.unplug.ensures.history)
          (stamped-unplugged s.lines c.args.name.now s.world.history c.self.invariant.2),
    )

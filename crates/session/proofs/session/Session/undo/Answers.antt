use Rattle.session.proofs.Stamping.{stamped-undone}
use Rattle.session.proofs.session.Session.undo.Goals as goal

pub invariant_of-self : goal.invariant_of-self
invariant_of-self g c =
    let s = c.self.inside in (
      c.go_back.ensures.closed,
      c.self.invariant.1,
      stamped-undone s.lines c.args.places _ s.world.history
          c.go_back.new.world.history c.go_back.result c.self.invariant.2 c.go_back.ensures.moved,
    )

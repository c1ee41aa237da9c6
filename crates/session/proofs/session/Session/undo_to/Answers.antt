use Rattle.session.proofs.Stamping.{stamped-past, stamped-undone_to}
use Rattle.session.proofs.session.Session.undo_to.Goals as goal

pub go_back_to-requires-clause-stamped : goal.go_back_to-requires-clause-stamped
go_back_to-requires-clause-stamped g c = stamped-past c.self.inside.lines c.self.inside.world.history c.self.invariant.2

pub invariant_of-self : goal.invariant_of-self
invariant_of-self g c =
    let s = c.self.inside in (
      c.go_back_to.ensures.closed,
      c.self.invariant.1,
      stamped-undone_to s.lines c.args.line _ s.world.history
          c.go_back_to.new.world.history c.go_back_to.result c.self.invariant.2 c.go_back_to.ensures.moved,
    )

use Rattle.session.proofs.Stamping.{stamped-redone}
use Rattle.session.proofs.session.Session.redo.Goals as goal

pub invariant_of-self : goal.invariant_of-self
invariant_of-self g c =
    let s = c.self.inside in (
      c.go_forth.ensures.closed,
      c.self.invariant.1,
      stamped-redone s.lines c.args.places _ s.world.history
          c.go_forth.new.world.history c.go_forth.result c.self.invariant.2 c.go_forth.ensures.moved,
    )

use Rattle.std.proofs.Common.{sym, ◌∙◌, arith, length, rules, le-ltb}
use Rattle.session.specs.declared.limits.TheConstants.{LONGEST_LINE}
use Rattle.session.specs.declared.command.Reading.TheVariants.{Lines}
use Rattle.session.proofs.Stamping.{stamped-later, stamped-past, stamped-performed, stamped-done}
use Rattle.session.proofs.session.Session.line.Goals as goal

pub invariant_of-self : goal.invariant_of-self
invariant_of-self g c = (
  c.self.invariant.0,
  omega (arith, c.self.invariant.1),
  stamped-later c.self.inside.lines _
      c.self.inside.world.history (omega (arith, c.self.invariant.1)) c.self.invariant.2,
)

pub obey_dot_line-requires-clause-stamped : goal.obey_dot_line-requires-clause-stamped
obey_dot_line-requires-clause-stamped g c =
    stamped-past c.self.inside.lines c.self.inside.world.history c.self.invariant.2

pub invariant_of-self-then-is_dot_line : goal.invariant_of-self-then-is_dot_line
invariant_of-self-then-is_dot_line g c =
    let counted = stamped-later c.self.inside.lines c.min-self-inside.result c.self.inside.world.history
    (omega (arith, c.self.invariant.1)) c.self.invariant.2 in (
      c.obey_dot_line.ensures.closed,
      omega (arith, c.self.invariant.1),
      stamped-performed c.self.inside.steps c.args.line.now _ c.min-self-inside.result c.self.inside.world.history
          c.obey_dot_line.new.world.history c.obey_dot_line.result counted c.obey_dot_line.ensures.performed,
    )

pub invariant_of-self-2 : goal.invariant_of-self-2
invariant_of-self-2 g c =
    let counted = stamped-later c.self.inside.lines c.min-self-inside.result c.self.inside.world.history
    (omega (arith, c.self.invariant.1)) c.self.invariant.2 in (
      c.obey-outcome.ensures.closed,
      omega (arith, c.self.invariant.1),
      stamped-done c.self.inside.steps Lines c.args.line.now c.min-self-inside.result c.self.inside.world.history
          c.obey-outcome.new.world.history _ counted c.obey-outcome.ensures.done,
    )

pub returns-clause-step : goal.returns-clause-step
returns-clause-step g c =
    let short = le-ltb LONGEST_LINE (length c.args.line.now) (omega arith) in
    let typed = sym c.is_dot_line.ensures ∙ c.if-is_dot_line.false in
    rw (← c.self.view_is) (record {
      number = search rules;
      steps = search rules;
      performed = rw (c.typed.ensures, short, typed) c.obey-outcome.ensures.done;
    })

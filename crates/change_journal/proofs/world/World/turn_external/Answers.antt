use Rattle.std.proofs.Common.{◌<◌, length, ap, subst, arith}
use Rattle.externals.specs.Cells.{IsExternal}
use Rattle.change_journal.proofs.Journal.{journal}
use Rattle.change_journal.proofs.Making.{turned-all, IsSound-turned}
use Rattle.change_journal.proofs.world.World.turn_external.Goals as goal

pub invariant_of-self-2 : goal.invariant_of-self-2
invariant_of-self-2 g c =
    let w = c.self.inside in
    let b = journal w.present w.oldest w.depth w.batches.items w.cursor in
    let e = c.in_ok-ask-in-Some.ensures in
    let sound = rw c.in-Some.is at c.self.invariant in
    let now = rw c.in-Some.is at (ap (λ j. j.history.now) c.self.view_is) in
    let there : c.args.i < length w.present.state.externals =
    omega (arith, c.requires.there, ap (λ s. length s.externals) now) in
    let known = subst IsExternal c.external.ensures.seen c.law_of_external.ensures in
    IsSound-turned b c.turn.new.present _ c.in-Some.batch c.turn.new.self c.args.i c.args.input.now
    c.in_ok-ask-in-Some.ask e.entry.0 there e.turn c.law_of_ask.ensures known.cells e.entry.1 e.entry.2 e.present sound

pub returns-clause-ok : goal.returns-clause-ok
returns-clause-ok g c =
    let w = c.self.inside in
    let b = journal w.present w.oldest w.depth w.batches.items w.cursor in
    let e = c.in_ok-ask-in-Some.ensures in
    let now = rw c.in-Some.is at (ap (λ j. j.history.now) c.self.view_is) in
    let there : c.args.i < length w.present.state.externals =
    omega (arith, c.requires.there, ap (λ s. length s.externals) now) in
    let known = subst IsExternal c.external.ensures.seen c.law_of_external.ensures in
    rw (← c.self.view_is, c.in-Some.is)
    (turned-all b c.turn.new.present c.in-Some.batch c.turn.new.self c.args.i c.args.input.now
    c.in_ok-ask-in-Some.ask e.entry.0 there e.turn c.law_of_ask.ensures known.cells e.entry.1 e.entry.2 e.present)

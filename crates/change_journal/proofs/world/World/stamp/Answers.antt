use Rattle.std.proofs.Common.{length, ap, ◌∙◌, arith}
use Rattle.change_journal.specs.History.{stamp_at}
use Rattle.change_journal.proofs.Journal.{journal}
use Rattle.change_journal.proofs.Steps.{length-past, stamp_found, stamp_oldest}
use Rattle.change_journal.proofs.world.World.stamp.Goals as goal

pub returns-then-i-self : goal.returns-then-i-self
returns-then-i-self g c =
    let w = c.self.inside in
    let b = journal w.present w.oldest w.depth w.batches.items w.cursor in
    c.number.ensures ∙ stamp_found b w.«open» c.args.i c.index.result.now c.self.invariant.within c.if-i-self.true
    c.index.ensures ∙ ap (λ j. stamp_at j.history c.args.i) c.self.view_is

pub returns-else-i-self : goal.returns-else-i-self
returns-else-i-self g c =
    let w = c.self.inside in
    let b = journal w.present w.oldest w.depth w.batches.items w.cursor in
    let there = length-past b w.«open» c.self.invariant.within ∙ ap (λ j. length j.history.past) c.self.view_is in
    stamp_oldest b w.«open» c.args.i c.self.invariant.within (omega (arith, there, c.requires)) c.if-i-self.false
    ∙ ap (λ j. stamp_at j.history c.args.i) c.self.view_is

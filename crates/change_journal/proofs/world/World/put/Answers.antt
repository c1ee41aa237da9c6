use Rattle.journal_entries.proofs.Turned.{either, on_ok, on_error}
use Rattle.journal_entries.specs.declared.change.Change.TheVariants.{Global}
use Rattle.change_journal.proofs.Journal.{journal}
use Rattle.change_journal.proofs.Growth.{history-grown, IsSound-grown}
use Rattle.change_journal.proofs.Making.{made-all, IsSound-made}
use Rattle.change_journal.proofs.world.World.put.Goals as goal

pub invariant_of-self : goal.invariant_of-self
invariant_of-self g c =
    let w = c.self.inside in
    let b = journal w.present w.oldest w.depth w.batches.items w.cursor in
    let k = c.put_global.new.present in
    let sound = rw c.in-Some.is at c.self.invariant in
    let fit = c.requires.fits in
    either c.put_global.result c.put_global.ensures.ok c.put_global.ensures.err
    (λ m. IsSound-made b k _ c.in-Some.batch c.put_global.new.self (Global c.args.name.now c.args.value) fit
    c.law_of_global.ensures m sound)
    (λ e. rw e.1 (IsSound-grown b k _ c.in-Some.batch e.0 sound))

pub returns-clause-ok : goal.returns-clause-ok
returns-clause-ok g c =
    let w = c.self.inside in
    let b = journal w.present w.oldest w.depth w.batches.items w.cursor in
    let sound = rw c.in-Some.is at c.self.invariant in
    rw (← c.self.view_is, c.in-Some.is)
    (on_ok c.put_global.result (λ m. made-all b c.put_global.new.present c.in-Some.batch c.put_global.new.self
    (Global c.args.name.now c.args.value) m sound.ready sound.opened.0) c.put_global.ensures.ok)

pub returns-clause-err : goal.returns-clause-err
returns-clause-err g c =
    let w = c.self.inside in
    let b = journal w.present w.oldest w.depth w.batches.items w.cursor in
    let sound = rw c.in-Some.is at c.self.invariant in
    rw (← c.self.view_is, c.in-Some.is)
    (on_error c.put_global.result (λ e. rw e.1
    (history-grown b c.put_global.new.present c.in-Some.batch e.0 sound.ready sound.opened.0))
    c.put_global.ensures.err)

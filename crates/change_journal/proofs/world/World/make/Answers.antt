use Rattle.journal_entries.proofs.Turned.{either, on_ok, on_error}
use Rattle.change_journal.proofs.Journal.{journal}
use Rattle.change_journal.proofs.Growth.{history-grown, IsSound-grown}
use Rattle.change_journal.proofs.Making.{made-all, IsSound-made}
use Rattle.change_journal.proofs.world.World.make.Goals as goal

pub invariant_of-self : goal.invariant_of-self
invariant_of-self g c =
    let w = c.self.inside in
    let b = journal w.present w.oldest w.depth w.batches.items w.cursor in
    let k = c.make.new.present in
    let sound = rw c.in-Some.is at c.self.invariant in
    let fit = rw (← c.self.view_is, c.in-Some.is) at c.requires.fits in
    either c.make.result c.make.ensures.ok c.make.ensures.err
    (λ m. IsSound-made b k _ c.in-Some.batch c.make.new.self c.args.change fit c.law_of_texts.ensures m sound)
    (λ e. rw e.1 (IsSound-grown b k _ c.in-Some.batch e.0 sound))

pub returns-clause-ok : goal.returns-clause-ok
returns-clause-ok g c =
    let w = c.self.inside in
    let b = journal w.present w.oldest w.depth w.batches.items w.cursor in
    let sound = rw c.in-Some.is at c.self.invariant in
    rw (← c.self.view_is, c.in-Some.is)
    (on_ok c.make.result (λ m. made-all b c.make.new.present c.in-Some.batch c.make.new.self c.args.change m sound.ready
    sound.opened.0) c.make.ensures.ok)

pub returns-clause-err : goal.returns-clause-err
returns-clause-err g c =
    let w = c.self.inside in
    let b = journal w.present w.oldest w.depth w.batches.items w.cursor in
    let sound = rw c.in-Some.is at c.self.invariant in
    rw (← c.self.view_is, c.in-Some.is)
    (on_error c.make.result (λ e. rw e.1
    (history-grown b c.make.new.present c.in-Some.batch e.0 sound.ready sound.opened.0)) c.make.ensures.err)

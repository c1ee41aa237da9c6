use Rattle.std.proofs.Common.{length, ap, ◌∙◌, arith}
use Rattle.change_journal.proofs.Journal.{journal}
use Rattle.change_journal.proofs.Steps.{length-future}
use Rattle.change_journal.proofs.world.World.redoable.Goals as goal

pub returns : goal.returns
returns g c =
    let w = c.self.inside in
    let ahead = length-future (journal w.present w.oldest w.depth w.batches.items w.cursor) w.«open»
    ∙ ap (λ j. length j.history.future) c.self.view_is in
    omega (arith, c.len.ensures, ahead)

use Rattle.std.proofs.Common.{length, ap, ◌∙◌}
use Rattle.change_journal.proofs.Steps.{length-past}
use Rattle.change_journal.proofs.world.World.undoable.Goals as goal

pub returns-clause-count : goal.returns-clause-count
returns-clause-count g c =
    let w = c.self.inside in
    length-past
    (record {
      present = w.present;
      oldest = w.oldest;
      depth = w.depth;
      batches = w.batches.items;
      cursor = w.cursor;
    }) w.«open» c.self.invariant.within ∙ ap (λ j. length j.history.past) c.self.view_is

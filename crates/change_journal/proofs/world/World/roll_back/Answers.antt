use Rattle.change_journal.proofs.Journal.{journal}
use Rattle.change_journal.proofs.Moves.{IsSound-rolled_back}
use Rattle.change_journal.proofs.world.World.roll_back.Goals as goal

pub invariant_of-self : goal.invariant_of-self
invariant_of-self g c =
    let w = c.self.inside in
    rw (c.in-Some.ensures.after, c.give_up.ensures)
    (IsSound-rolled_back (journal w.present w.oldest w.depth w.batches.items w.cursor) _ c.in-Some.batch
    (rw (← c.in-Some.ensures.value) at c.self.invariant))

use Rattle.std.proofs.Common.{ap, ◌∙◌}
use Rattle.change_journal.proofs.Journal.{journal}
use Rattle.change_journal.proofs.Rooms.{IsSound-kept}
use Rattle.change_journal.proofs.Steps.{closed}
use Rattle.change_journal.proofs.world.World.forget_room.Goals as goal

pub invariant_of-self : goal.invariant_of-self
invariant_of-self g c =
    let w = c.self.inside in
    let b = journal w.present w.oldest w.depth w.batches.items w.cursor in
    let none = closed b w.«open» (ap (λ j. j.history.start) c.self.view_is ∙ c.requires) in
    rw (c.close_others.ensures.same, none)
    (IsSound-kept c.in-Ok.cards b c.close_others.new.self.room _ _ c.close_others.ensures.room c.in-Ok.ensures
    (rw none at c.self.invariant))

pub returns-in-Ok : goal.returns-in-Ok
returns-in-Ok g c = rw (c.close_others.ensures.same) (ap (λ j. j.history) c.self.view_is)

use Rattle.std.proofs.Common.{◌≡◌, None, ap, sym, ◌∙◌}
use Rattle.change_journal.specs.Batches.{history_of}
use Rattle.change_journal.proofs.Journal.{journal}
use Rattle.change_journal.proofs.Steps.{closed}
use Rattle.change_journal.proofs.Renumbered.{IsSound-renumbered, history-renumbered}
use Rattle.change_journal.proofs.world.World.forget_names.Goals as goal

pub invariant_of-self : goal.invariant_of-self
invariant_of-self g c =
    let w = c.self.inside in
    let b = journal w.present w.oldest w.depth w.batches.items w.cursor in
    let e = c.in-Ok.ensures in
    let none = closed b w.«open» (ap (λ j. j.history.start) c.self.view_is ∙ c.requires) in
    rw (c.renumber.ensures, c.renumber_each.ensures, none)
    (IsSound-renumbered b c.in-Ok.renumbering _ _ e.of e.needed (rw none at c.self.invariant))

pub returns-in-Ok : goal.returns-in-Ok
returns-in-Ok g c =
    let w = c.self.inside in
    let b = journal w.present w.oldest w.depth w.batches.items w.cursor in
    let e = c.in-Ok.ensures in
    let none = closed b w.«open» (ap (λ j. j.history.start) c.self.view_is ∙ c.requires) in
    let before : history_of b None ≡ c.args.self.now.history =
    ap (history_of b) (sym none) ∙ ap (λ j. j.history) c.self.view_is in
    rw (c.renumber.ensures, c.renumber_each.ensures, none)
    (history-renumbered b c.in-Ok.renumbering e.of e.needed ∙ before)

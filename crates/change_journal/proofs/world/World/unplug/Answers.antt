use Rattle.std.proofs.Common.{ap, sym, ◌∙◌, arith}
use Rattle.std.proofs.lemmas.List.{length-map}
use Rattle.journal_entries.specs.State.{titles_of}
use Rattle.change_journal.proofs.Journal.{journal}
use Rattle.change_journal.proofs.Steps.{closed}
use Rattle.change_journal.proofs.Moves.{IsSound-unplugged, index-within}
use Rattle.change_journal.proofs.world.World.unplug.Goals as goal

pub unplug-requires : goal.unplug-requires
unplug-requires g c =
    let w = c.self.inside in
    let ts = titles_of w.present.state.externals in
    omega (
      arith,
      index-within c.args.name.now ts c.in_ok-i.i (sym c.external_number.ensures ∙ c.in_ok-i.was),
      length-map w.present.state.externals (λ e. e.title),
    )

pub invariant_of-self : goal.invariant_of-self
invariant_of-self g c =
    let w = c.self.inside in
    let b = journal w.present w.oldest w.depth w.batches.items w.cursor in
    let none = closed b w.«open» (ap (λ j. j.history.start) c.self.view_is ∙ c.requires) in
    rw (c.unplug.ensures.present, c.shrink_to_fit.ensures.items, c.clear.ensures.items, none)
    (IsSound-unplugged b _ _ _ c.in_ok-i.i (rw none at c.self.invariant))

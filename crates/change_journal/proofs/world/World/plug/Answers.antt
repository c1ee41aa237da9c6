use Rattle.std.proofs.Common.{◌≡◌, false, None, ap, sym, ◌∙◌}
use Rattle.journal_entries.specs.State.{seen_by, has_name, titles_of}
use Rattle.change_journal.specs.History.{plugged}
use Rattle.change_journal.specs.Batches.{history_of}
use Rattle.change_journal.proofs.Journal.{journal}
use Rattle.change_journal.proofs.Steps.{closed}
use Rattle.change_journal.proofs.Plugs.{IsSound-plugged, history-plugged}
use Rattle.change_journal.proofs.world.World.plug.Goals as goal

pub invariant_of-self-2 : goal.invariant_of-self-2
invariant_of-self-2 g c =
    let w = c.self.inside in
    let b = journal w.present w.oldest w.depth w.batches.items w.cursor in
    let x = seen_by g.E.External.title g.E.External.sort g.E.External.answers_calls g.E.External.cells
    c.args.external in
    let none = closed b w.«open» (ap (λ j. j.history.start) c.self.view_is ∙ c.requires) in
    let new : has_name x.title (titles_of w.present.state.externals)
    ≡ false = ap (λ n. has_name n (titles_of w.present.state.externals)) (sym c.name.ensures)
    ∙ sym c.has_external.ensures ∙ c.if-has_external.false in
    rw (c.in-Ok.ensures.ok, none) (IsSound-plugged b _ x (g.E.External.log c.args.external)
    c.law_of_external.ensures new (rw none at c.self.invariant))

pub returns-clause-ok : goal.returns-clause-ok
returns-clause-ok g c =
    let w = c.self.inside in
    let b = journal w.present w.oldest w.depth w.batches.items w.cursor in
    let x = seen_by g.E.External.title g.E.External.sort g.E.External.answers_calls g.E.External.cells
    c.args.external in
    let log = g.E.External.log c.args.external in
    let none = closed b w.«open» (ap (λ j. j.history.start) c.self.view_is ∙ c.requires) in
    let before : history_of b None ≡ c.args.self.now.history =
    ap (history_of b) (sym none) ∙ ap (λ j. j.history) c.self.view_is in
    let ready = c.self.invariant.ready in
    rw (c.in-Ok.ensures.ok, none) (history-plugged b x log ready ∙ ap (λ h. plugged h x log) before)

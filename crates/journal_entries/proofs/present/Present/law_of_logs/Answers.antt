use Rattle.std.proofs.Common.{sym, ◌∙◌}
use Rattle.std.proofs.lemmas.List.{length-map}
use Rattle.journal_entries.specs.State.{seen_by}
use Rattle.journal_entries.proofs.present.Present.law_of_logs.Goals as goal

pub returns : goal.returns
returns g c =
    let f = seen_by g.E.External.title g.E.External.sort g.E.External.answers_calls g.E.External.cells in
    let xs = c.self.inside.externals.items in
    rw (← c.self.view_is) (length-map xs g.E.External.log ∙ sym (length-map xs f))

use Rattle.std.proofs.Common.{map, ap, ◌∙◌}
use Rattle.journal_entries.specs.State.{has_name}
use Rattle.journal_entries.specs.State.{seen_by}
use Rattle.journal_entries.proofs.Turned.{map-title}
use Rattle.journal_entries.proofs.present.Present.has_external.Goals as goal

pub returns : goal.returns
returns g c =
    let f = seen_by g.E.External.title g.E.External.sort g.E.External.answers_calls g.E.External.cells in
    c.has_name.ensures ∙ ap (λ xs. has_name c.args.name.now (map g.E.External.title xs)) c.deref.ensures.value
    ∙ ap (λ ns. has_name c.args.name.now ns)
    (map-title f c.self.inside.externals.items ∙ ap (λ h. map (λ s. s.title) h.state.externals) c.self.view_is)

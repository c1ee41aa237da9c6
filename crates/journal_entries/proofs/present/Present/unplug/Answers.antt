use Rattle.std.proofs.Common.{refl}
use Rattle.journal_entries.specs.State.{seen_by}
use Rattle.journal_entries.proofs.Turned.{map-without}
use Rattle.journal_entries.proofs.present.Present.unplug.Goals as goal

pub returns-clause-present : goal.returns-clause-present
returns-clause-present g c =
    let f = seen_by g.E.External.title g.E.External.sort g.E.External.answers_calls g.E.External.cells in
    let xs = c.self.inside.externals.items in
    let items = c.remove.ensures.by_index.2 in
    rw (← c.self.view_is, items, map-without f xs c.args.i, map-without g.E.External.log xs c.args.i) refl

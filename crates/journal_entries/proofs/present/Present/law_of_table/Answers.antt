use Rattle.journal_entries.specs.State.{seen_by}
use Rattle.journal_entries.proofs.Turned.{each_follows}
use Rattle.journal_entries.proofs.present.Present.law_of_table.Goals as goal

pub returns : goal.returns
returns g c =
    let f = seen_by g.E.External.title g.E.External.sort g.E.External.answers_calls g.E.External.cells in
    rw (← c.self.view_is) (each_follows g.E.HasTable.turn_table f g.E.External.log g.met.E.HasTable.follows
    c.self.inside.externals.items)

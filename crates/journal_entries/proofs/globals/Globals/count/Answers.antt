use Rattle.std.proofs.Common.{length, ap, sym, ◌∙◌}
use Rattle.journal_entries.proofs.Naming.{count_by-entries, listed-entries, Lists-listed}
use Rattle.journal_entries.proofs.globals.Globals.count.Goals as goal

pub returns-clause-count : goal.returns-clause-count
returns-clause-count c =
    let s = c.self.inside in
    let ns = s.names in
    rw (← c.self.view_is) (c.self.invariant.2 ∙ count_by-entries ns s.values.items c.self.invariant.0
    ∙ sym (ap length (listed-entries ns s.values.items c.self.invariant.1 c.self.invariant.0)))

pub returns-clause-each : goal.returns-clause-each
returns-clause-each c = rw (← c.self.view_is)
    (Lists-listed c.self.inside.names c.self.inside.values.items c.self.invariant.1
    c.self.invariant.0)

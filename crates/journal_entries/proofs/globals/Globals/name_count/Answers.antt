use Rattle.journal_entries.proofs.Naming.{Lists-listed}
use Rattle.journal_entries.proofs.globals.Globals.name_count.Goals as goal

pub returns-clause-each : goal.returns-clause-each
returns-clause-each c = rw (← c.self.view_is)
    (Lists-listed c.self.inside.names c.self.inside.values.items c.self.invariant.1
    c.self.invariant.0)

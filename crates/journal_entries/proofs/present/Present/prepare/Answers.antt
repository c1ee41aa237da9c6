use Rattle.journal_entries.proofs.Preparing.{prepares_property}
use Rattle.journal_entries.proofs.present.Present.prepare.Goals as goal

pub returns-in-Prop-clause-entries : goal.returns-in-Prop-clause-entries
returns-in-Prop-clause-entries g c = rw c.in-Prop.is
    (prepares_property c.args.self.now c.in-Prop.id c.in-Prop.value (rw c.in-Prop.is at c.requires.fits))

use Rattle.journal_entries.proofs.Trails.{short}
use Rattle.journal_entries.proofs.laws.law_of_trails.Goals as goal

pub returns : goal.returns
returns c = short

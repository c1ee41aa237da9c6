use Rattle.totality.proofs.Tables.{tables_are_behaviours}
use Rattle.totality.proofs.law.tables_are_behaviours.Goals as goal

pub returns : goal.returns
returns c = tables_are_behaviours

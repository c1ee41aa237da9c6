use Rattle.totality.proofs.Logged.{behaviours_are_logged, behaviours_follow_tables}
use Rattle.totality.proofs.law.behaviours_are_logged.Goals as goal

pub returns-clause-turns : goal.returns-clause-turns
returns-clause-turns c = behaviours_are_logged

pub returns-clause-tables : goal.returns-clause-tables
returns-clause-tables c = behaviours_follow_tables

use Rattle.std.proofs.Common.{rules, subst, sym}
use Rattle.object_table.specs.WellFormed.{IsWellFormed}
use Rattle.object_table.proofs.Empty.{empty_is_well_formed}
use Rattle.object_table.proofs.stack.Stack.new.Goals as goal

pub returns-clause-content : goal.returns-clause-content
returns-clause-content c = search rules

pub returns-clause-well_formed : goal.returns-clause-well_formed
returns-clause-well_formed c = subst IsWellFormed (sym (returns-clause-content c)) empty_is_well_formed

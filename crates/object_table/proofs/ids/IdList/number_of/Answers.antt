use Rattle.std.proofs.Common.{sym}
use Rattle.object_table.proofs.Numbered.{at_number-position}
use Rattle.object_table.proofs.ids.IdList.number_of.Goals as goal

pub returns-clause-stands_there : goal.returns-clause-stands_there
returns-clause-stands_there c =
    at_number-position c.args.self.now c.args.id c.in_ok-place_of.field-0 (sym c.in_ok-place_of.ensures.value)

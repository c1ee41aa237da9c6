use Rattle.std.proofs.Common.{arith, sym}
use Rattle.std.proofs.lemmas.Bool.Decides.{nat_tests}
use Rattle.object_table.proofs.Rows.{gap_behind}
use Rattle.object_table.proofs.row.is_behind_all.Goals as goal

pub returns-in-Some : goal.returns-in-Some
returns-in-Some g c =
    let read = c.in-Some.ensures.item in
    λ less. gap_behind _ c.args.part c.in-Some.last.now c.requires (grind (arith, nat_tests, sym read.0)) read.1
    (grind (arith, nat_tests, less))

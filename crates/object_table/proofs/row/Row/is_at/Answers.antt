use Rattle.std.proofs.Common.{arith, sym}
use Rattle.std.proofs.lemmas.Bool.Decides.{nat_tests}
use Rattle.object_table.proofs.Rows.{at_read}
use Rattle.object_table.proofs.row.Row.is_at.Goals as goal

pub returns-in-Some : goal.returns-in-Some
returns-in-Some g c =
    let read = c.in-Some.ensures.lookup in
    λ same. rw (← c.self.view_is, ← c.deref.ensures.value)
    (at_read _ c.args.part c.args.place c.in-Some.found.now (grind (arith, nat_tests, sym read.0)) read.1
    (grind (arith, nat_tests, same)))

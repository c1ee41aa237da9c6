use Rattle.std.proofs.Common.{◌≢◌, ◌+◌, arith}
use Rattle.externals.specs.Cells.{Avoids}
use Rattle.text_tools.proofs.table.set_entry.Goals as goal

pub plan-requires-2-clause-once : goal.plan-requires-2-clause-once
plan-requires-2-clause-once c =
    let other : 32 + c.args.place ≢ c.args.place = λ e. absurd (omega arith) in
    let none : Avoids (32 + c.args.place) c.new-plan.result = rw c.new-plan.ensures tt in
    c.plan.ensures.names (32 + c.args.place) other none

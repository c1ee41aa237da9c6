use Rattle.std.proofs.Common.{rules}
use Rattle.one_pass.proofs.Lists.{with_last}
use Rattle.one_pass.proofs.expr.+pass.Goals as goal

pub list-returns-in_default-clause-computed : goal.list-returns-in_default-clause-computed
list-returns-in_default-clause-computed g t c =
    let x = rw (c.loop-turn.invariant.same) at c.in_ok-depth.ensures.computed in
    with_last c.loop-turn.invariant.computed x (search rules) (search rules)

use Rattle.std.proofs.Common.{◌≡◌, vec_len}
use Rattle.stack_file.specs.Building.{with_keepings}
use Rattle.stack_file.proofs.building.add_keepings.Given as goal

-- the keepings that are left still come in
abbrev pub invariant-loop-keeping : goal.invariant-loop-keeping
invariant-loop-keeping l = with_keepings l.card l.keepings.items l.stack.content
    ≡ with_keepings l.fn.card l.fn.keepings.items l.fn.stack.content

abbrev pub decreases-loop-keeping : goal.decreases-loop-keeping
decreases-loop-keeping l = vec_len l.keepings

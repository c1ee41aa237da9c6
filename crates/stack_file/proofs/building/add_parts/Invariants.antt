use Rattle.std.proofs.Common.{◌≡◌, vec_len}
use Rattle.stack_file.specs.Building.{with_parts}
use Rattle.stack_file.proofs.building.add_parts.Given as goal

-- the parts that are left still come in
abbrev pub invariant-loop-part : goal.invariant-loop-part
invariant-loop-part l =
    with_parts l.card l.parts.items l.stack.content ≡ with_parts l.fn.card l.fn.parts.items l.fn.stack.content

abbrev pub decreases-loop-part : goal.decreases-loop-part
decreases-loop-part l = vec_len l.parts

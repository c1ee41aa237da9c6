use Rattle.std.proofs.Common.{◌≡◌, ◌++◌, filter, map, take}
use Rattle.structural_changes.specs.Prepared.{has_content}
use Rattle.structural_changes.proofs.removing.add_kept.Given as goal

-- what the parts so far keep
abbrev pub invariant-loop-part : goal.invariant-loop-part
invariant-loop-part l = l.found.items ≡ l.fn.found.items
    ++ filter (has_content l.fn.kind l.fn.stack.content) (map (λ part. (part, l.fn.card)) (take l.part-index l.parts))

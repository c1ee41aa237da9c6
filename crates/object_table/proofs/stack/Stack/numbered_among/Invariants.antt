use Rattle.std.proofs.Common.{◌≡◌, drop, slice_get}
use Rattle.object_table.specs.Numbers.{at_number, of_kind}
use Rattle.object_table.proofs.stack.Stack.numbered_among.Given as goal

abbrev pub invariant-loop-part : goal.invariant-loop-part
invariant-loop-part l =
    slice_get (of_kind l.self.content l.kind (drop l.part-index l.parts)) l.before
    ≡ at_number (of_kind l.self.content l.kind l.parts) l.number

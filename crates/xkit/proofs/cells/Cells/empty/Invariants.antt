use Rattle.std.proofs.Common.{◌≡◌, [], replicate}
use Rattle.xkit.proofs.cells.Cells.empty.Given as goal

abbrev pub invariant-loop : goal.invariant-loop
invariant-loop l = l.texts.items ≡ replicate l.counter []

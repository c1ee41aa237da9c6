use Rattle.xkit.proofs.Planning.{Exchanges}
use Rattle.xkit.proofs.cells.Cells.flip.Given as goal

abbrev pub invariant-loop-i : goal.invariant-loop-i
invariant-loop-i l = Exchanges l.initial.self-inside.texts.items l.initial.patch l.self-inside.texts.items l.patch l.i

use Rattle.std.proofs.Common.{◌≡◌, ◌∷◌, ◌++◌, drop}
use Rattle.xkit.proofs.relay.note_of.Given as goal

abbrev pub invariant-loop-i : goal.invariant-loop-i
invariant-loop-i l = l.note ++ drop l.i l.texts ≡ l.stage ∷ drop l.fn.from l.texts

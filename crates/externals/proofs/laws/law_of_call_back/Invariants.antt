use Rattle.std.proofs.Common.{All, take}
use Rattle.ht_values.specs.Text.{IsText}
use Rattle.externals.proofs.laws.law_of_call_back.Given as goal

abbrev pub invariant-loop-i : goal.invariant-loop-i
invariant-loop-i l = All IsText (take l.i l.note)

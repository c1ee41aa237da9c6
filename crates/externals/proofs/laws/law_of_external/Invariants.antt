use Rattle.std.proofs.Common.{All, take}
use Rattle.ht_values.specs.Text.{IsText}
use Rattle.externals.proofs.laws.law_of_external.Given as goal

abbrev pub invariant-loop-i : goal.invariant-loop-i
invariant-loop-i g l = All IsText (take l.i (g.E.External.cells l.external))

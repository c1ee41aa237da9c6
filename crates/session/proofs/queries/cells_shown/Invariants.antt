use Rattle.std.proofs.Common.{◌≡◌, map, take}
use Rattle.stack_text.specs.Words.{spelled}
use Rattle.session.proofs.queries.cells_shown.Given as goal

abbrev pub invariant-loop-i : goal.invariant-loop-i
invariant-loop-i g l = l.shown ≡ map spelled (take l.i (g.E.External.cells l.external))

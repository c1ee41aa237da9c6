use Rattle.std.proofs.Common.{◌≡◌, drop}
use Rattle.std.specs.Int.{int_min}
use Rattle.ht_values.specs.Functions.{best, best_of}
use Rattle.ht_values.proofs.function.least.Given as goal

abbrev pub invariant-loop-text : goal.invariant-loop-text
invariant-loop-text l = best int_min l.first l.rest ≡ best_of int_min l.least (drop l.text-index l.rest)

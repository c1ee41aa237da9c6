use Rattle.std.proofs.Common.{◌≡◌, drop}
use Rattle.std.specs.Int.{int_max}
use Rattle.ht_values.specs.Functions.{best, best_of}
use Rattle.ht_values.proofs.function.greatest.Given as goal

abbrev pub invariant-loop-text : goal.invariant-loop-text
invariant-loop-text l = best int_max l.first l.rest ≡ best_of int_max l.greatest (drop l.text-index l.rest)

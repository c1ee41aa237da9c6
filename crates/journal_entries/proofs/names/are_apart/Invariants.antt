use Rattle.std.proofs.Common.{◌≡◌, map, drop}
use Rattle.journal_entries.specs.State.{are_apart}
use Rattle.journal_entries.proofs.names.are_apart.Given as goal

abbrev pub invariant-loop-i : goal.invariant-loop-i
invariant-loop-i g l =
    are_apart (map g.E.External.title (drop l.i l.externals)) ≡ are_apart (map g.E.External.title l.externals)

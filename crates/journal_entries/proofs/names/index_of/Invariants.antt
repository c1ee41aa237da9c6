use Rattle.std.proofs.Common.{◌≡◌, map, drop, ◌+◌, option_map}
use Rattle.journal_entries.specs.State.{index_of}
use Rattle.journal_entries.proofs.names.index_of.Given as goal

abbrev pub invariant-loop-i : goal.invariant-loop-i
invariant-loop-i g l = index_of l.name (map g.E.External.title l.externals)
    ≡ option_map (λ k. k + l.i) (index_of l.name (map g.E.External.title (drop l.i l.externals)))

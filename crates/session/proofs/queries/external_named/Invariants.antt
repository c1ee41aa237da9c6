use Rattle.std.proofs.Common.{◌≡◌, ◌+◌, drop, option_map}
use Rattle.journal_entries.specs.State.{index_of, titles_of}
use Rattle.session.proofs.queries.external_named.Given as goal

abbrev pub invariant-loop-i : goal.invariant-loop-i
invariant-loop-i g l = index_of l.name (titles_of l.world.history.now.externals)
    ≡ option_map (λ k. k + l.i) (index_of l.name (titles_of (drop l.i l.world.history.now.externals)))

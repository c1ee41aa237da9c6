use Rattle.std.proofs.Common.{◌≡◌, map, drop}
use Rattle.journal_entries.specs.State.{has_name}
use Rattle.journal_entries.proofs.names.has_name.Given as goal

abbrev pub invariant-loop-external : goal.invariant-loop-external
invariant-loop-external g l = has_name l.name (map g.E.External.title (drop l.external-index l.externals))
    ≡ has_name l.name (map g.E.External.title l.externals)

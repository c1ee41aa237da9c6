use Rattle.std.proofs.Common.{All, map, take}
use Rattle.externals.specs.Cells.{IsExternal}
use Rattle.journal_entries.specs.State.{seen_by}
use Rattle.journal_entries.proofs.laws.law_of_externals.Given as goal

abbrev pub invariant-loop-external : goal.invariant-loop-external
invariant-loop-external g l = All IsExternal
    (take l.external-index
    (map (seen_by g.E.External.title g.E.External.sort g.E.External.answers_calls g.E.External.cells) l.externals))

use Rattle.std.proofs.Common.{◌≡◌, ◌++◌, length}
use Rattle.std.specs.List.{AllByRecursion}
use Rattle.session.specs.Splits.{ended_lines, IsLine}
use Rattle.session.proofs.queries.lines_of.Given as goal

-- the lines so far, and what is left
abbrev pub invariant-loop-end : goal.invariant-loop-end
invariant-loop-end l = record {
  whole : l.text ≡ ended_lines l.shown ++ l.rest;
  each : AllByRecursion IsLine l.shown;
}

abbrev pub decreases-loop-end : goal.decreases-loop-end
decreases-loop-end l = length l.rest

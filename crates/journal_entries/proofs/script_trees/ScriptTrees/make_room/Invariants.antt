use Rattle.journal_entries.specs.ScriptTrees.{IsCounted, KeepsFewer, how_many}
use Rattle.journal_entries.proofs.script_trees.ScriptTrees.make_room.Given as goal

abbrev pub invariant-loop-self : goal.invariant-loop-self
invariant-loop-self l = KeepsFewer l.initial.self l.self × IsCounted l.self

abbrev pub decreases-loop-self : goal.decreases-loop-self
decreases-loop-self l = how_many l.self

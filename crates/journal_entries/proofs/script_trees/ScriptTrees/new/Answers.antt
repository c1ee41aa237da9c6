use Rattle.journal_entries.specs.ScriptTrees.{AreTrees}
use Rattle.journal_entries.proofs.script_trees.ScriptTrees.new.Goals as goal

pub returns-clause-trees : goal.returns-clause-trees
unfolding AreTrees
returns-clause-trees c s id = rw c.new.ensures.empty tt

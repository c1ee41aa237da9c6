use Rattle.journal_entries.proofs.ScriptTrees.{fewer_in}
use Rattle.journal_entries.proofs.script_trees.ScriptTrees.keep.Goals as goal

pub returns-clause-trees : goal.returns-clause-trees
returns-clause-trees c s are reads bytes = c.put.ensures.trees s
    (fewer_in s c.args.self.now c.make_room.new.self c.make_room.ensures.fewer are)
    (record { reads = reads; bytes = bytes })

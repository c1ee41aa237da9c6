use Rattle.std.proofs.Common.{sym, ap, option_map}
use Rattle.journal_entries.specs.ScriptTrees.{AreTrees, IsTreeOf, kept_of, last_reading, object_script, tree_read}
use Rattle.journal_entries.proofs.ScriptTrees.{found_tree}
use Rattle.journal_entries.proofs.script_trees.ScriptTrees.get.Goals as goal

pub returns : goal.returns
unfolding AreTrees
returns c s are =
    let trees = c.args.self.now in
    let id = c.args.id in
    let read = ap (option_map (λ r. r.last)) (sym c.in_ok-readings.ensures.value) in
    let found = ap (option_map kept_of) (sym c.in_ok-kept.ensures.value) in
    (found_tree (λ k. IsTreeOf (object_script s id) k) (tree_read trees) (last_reading trees id)
    c.in_ok-readings.readings.now.last (kept_of c.in_ok-kept.kept.now) read found (are id)).reads

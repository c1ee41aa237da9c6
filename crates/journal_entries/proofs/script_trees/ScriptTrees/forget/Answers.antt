use Rattle.std.proofs.Common.{None, sym, ap, ◌∙◌, option_map}
use Rattle.std.specs.Ordering.{nat_cmp, eq_by_cmp}
use Rattle.journal_entries.specs.ScriptTrees.{last_reading, tree_read}
use Rattle.journal_entries.proofs.ScriptTrees.{fewer_in, forgot_tree, kept_trees, seen_put}
use Rattle.journal_entries.proofs.script_trees.ScriptTrees.forget.Goals as goal

pub returns-in_default-clause-trees : goal.returns-in_default-clause-trees
returns-in_default-clause-trees c s are =
    kept_trees s c.args.entry.now _ (sym c.changed_script.ensures ∙ c.in_default.is) are

pub returns-in-Some-remove-clause-trees : goal.returns-in-Some-remove-clause-trees
returns-in-Some-remove-clause-trees c s are =
    let old = c.args.self.now in
    let id = c.in-Some.id in
    fewer_in _ _ _ c.drop_tree.ensures.fewer
    (forgot_tree s c.args.entry.now id (last_reading old) _ (tree_read old) (tree_read old)
    (sym c.changed_script.ensures ∙ c.in-Some.is)
    (λ q. ap (option_map (λ r. r.last)) (c.remove.ensures.updates.0 q)
    ∙ seen_put (λ r. r.last) (eq_by_cmp nat_cmp id q) None _)
    (λ n k is. is)
    are)

pub returns-in_default-remove-clause-trees : goal.returns-in_default-remove-clause-trees
returns-in_default-remove-clause-trees c s are =
    let old = c.args.self.now in
    let id = c.in-Some.id in
    forgot_tree s c.args.entry.now id (last_reading old) _ (tree_read old) (tree_read old)
    (sym c.changed_script.ensures ∙ c.in-Some.is)
    (λ q. ap (option_map (λ r. r.last)) (c.remove.ensures.updates.0 q)
    ∙ seen_put (λ r. r.last) (eq_by_cmp nat_cmp id q) None _)
    (λ n k is. is)
    are

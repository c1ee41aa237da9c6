use Rattle.std.proofs.Common.{◌<◌, ℕ, Some, sym, ap, ◌∙◌, option_map, subst, arith}
use Rattle.std.proofs.lemmas.Option.{same_Some}
use Rattle.std.specs.BTreeMap.{is_at}
use Rattle.std.specs.Map.{lookup}
use Rattle.std.specs.Ordering.{nat_cmp, eq_by_cmp}
use Rattle.journal_entries.specs.ScriptTrees.{IsTreeOf, kept_of, last_reading, object_script, tree_read}
use Rattle.journal_entries.proofs.ScriptTrees.{below_noted, below_put, put_elsewhere, put_tree, seen_put, sum-put}
use Rattle.journal_entries.proofs.script_trees.ScriptTrees.put.Goals as goal

pub returns-in_err-insert-2-clause-trees : goal.returns-in_err-insert-2-clause-trees
returns-in_err-insert-2-clause-trees c s are tree =
    let old = c.args.self.now in
    let id = c.args.id in
    let reading = old.next_reading in
    let same =
    λ (n : ℕ). ap (λ es. option_map kept_of (lookup (is_at (nat_cmp n)) es)) (sym c.in_err-insert-2.ensures.err) in
    put_tree s id reading (last_reading old) _ (tree_read old) _
    (λ q. ap (option_map (λ r. r.last)) (c.in_ok-insert.ensures.updates.0 q)
    ∙ seen_put (λ r. r.last) (eq_by_cmp nat_cmp id q) _ _)
    (λ n k apart is. same n ∙ is)
    (λ k is. let later : reading < reading = c.requires.counted.read reading k (same reading ∙ is) in let none : ⊥ =
    omega arith in absurd none)
    c.requires.counted.noted
    are

pub returns-clause-trees : goal.returns-clause-trees
returns-clause-trees c s are tree =
    let old = c.args.self.now in
    let id = c.args.id in
    let reading = old.next_reading in
    put_tree s id reading (last_reading old) _ (tree_read old) _
    (λ q. ap (option_map (λ r. r.last)) (c.in_ok-insert.ensures.updates.0 q)
    ∙ seen_put (λ r. r.last) (eq_by_cmp nat_cmp id q) _ _)
    (put_elsewhere reading (Some (kept_of c.args.kept)) (tree_read old) _
    (λ q. ap (option_map kept_of) (c.in_ok-insert-2.ensures.updates.0 q)
    ∙ seen_put kept_of (eq_by_cmp nat_cmp reading q) _ _))
    (λ k is. subst (λ x. IsTreeOf (object_script s id) x)
    (same_Some (kept_of c.args.kept) k (sym (ap (option_map kept_of) c.in_ok-insert-2.ensures.updates.1) ∙ is))
    tree)
    c.requires.counted.noted
    are

pub returns-clause-counted : goal.returns-clause-counted
returns-clause-counted c =
    let old = c.args.self.now in
    let id = c.args.id in
    let reading = old.next_reading in
    let room = c.requires.room in
    let next = c.requires.next in
    let counted = c.requires.counted.counted in
    let sum = sum-put old.trees c.insert-2.new.self reading c.args.kept c.in_ok-insert-2.ensures.was_ordered
    (λ x is. let later : reading < reading = c.requires.counted.read reading (kept_of x) (ap (option_map kept_of) is) in
    omega arith)
    c.in_ok-insert-2.ensures.entries in
    record {
      counted = omega (arith, sum, counted);
      few = room;
      read = λ n k is. rw next (below_put reading (Some (kept_of c.args.kept)) (tree_read old) _
          (λ q. ap (option_map kept_of) (c.in_ok-insert-2.ensures.updates.0 q)
          ∙ seen_put kept_of (eq_by_cmp nat_cmp reading q) _ _) c.requires.counted.read n k is);
      noted = λ q n is. rw next (below_noted id reading (last_reading old) _
          (λ p. ap (option_map (λ r. r.last)) (c.in_ok-insert.ensures.updates.0 p)
          ∙ seen_put (λ r. r.last) (eq_by_cmp nat_cmp id p) _ _) c.requires.counted.noted q n is);
    }

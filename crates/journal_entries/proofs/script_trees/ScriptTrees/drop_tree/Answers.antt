use Rattle.std.proofs.Common.{None, ap, ◌∙◌, option_map, arith}
use Rattle.std.specs.BTreeMap.{is_at}
use Rattle.std.specs.Ordering.{nat_cmp, eq_by_cmp}
use Rattle.journal_entries.specs.ScriptTrees.{kept_of, tree_read}
use Rattle.journal_entries.proofs.ScriptTrees.{seen_put, sum-removed, taken_out}
use Rattle.journal_entries.proofs.script_trees.ScriptTrees.drop_tree.Goals as goal

pub overflow_sub-self : goal.overflow_sub-self
overflow_sub-self c =
    let sum = sum-removed c.args.self.now.trees c.remove.new.self (is_at (nat_cmp c.args.number)) c.in-Some.kept
    c.in-Some.ensures.value c.in-Some.ensures.entries in
    let counted = c.requires.counted.counted in
    omega (arith, sum, counted)

pub returns-in-Some-clause-counted : goal.returns-in-Some-clause-counted
returns-in-Some-clause-counted c =
    let sum = sum-removed c.args.self.now.trees c.remove.new.self (is_at (nat_cmp c.args.number)) c.in-Some.kept
    c.in-Some.ensures.value c.in-Some.ensures.entries in
    let counted = c.requires.counted.counted in
    let few = c.requires.counted.few in
    record {
      counted = omega (arith, sum, counted);
      few = omega (arith, sum, counted, few);
      read = λ n k is. c.requires.counted.read n k
          (taken_out c.args.number (tree_read c.args.self.now) _
          (λ q. ap (option_map kept_of) (c.remove.ensures.updates.0 q)
          ∙ seen_put kept_of (eq_by_cmp nat_cmp c.args.number q) None _) n k is);
      noted = c.requires.counted.noted;
    }

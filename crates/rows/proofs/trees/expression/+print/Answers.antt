use Rattle.std.proofs.Common.{◌≡◌, ◌<◌, arith, get_or, length, rules}
use Rattle.std.proofs.lemmas.Grind.{common_steps}
use Rattle.ht_grammar.specs.Trees as tree
use Rattle.ht_tree.proofs.Chains.{deep_operand, joined_deep}
use Rattle.rows.proofs.trees.expression.+print.Goals as goal

pub print_chain-print_binary-requires : goal.print_chain-print_binary-requires
print_chain-print_binary-requires t c =
    let chain = c.args.chain.now in
    let h = joined_deep (tree.binary chain.op chain.left chain.right) chain.joined.items in
    first_of (search rules, grind (arith, common_steps))

pub print_chain-print_expr-requires : goal.print_chain-print_expr-requires
print_chain-print_expr-requires t c =
    let chain = c.args.chain.now in
    let i = c.loop-joined.joined-index in
    let j = c.joined-item.result in
    let items = c.deref-joined-items.ensures.value in
    let there : i < length chain.joined.items = rw items at c.loop-joined-test.true in
    let is : j ≡ get_or chain.joined.items i j = rw items at c.joined-item.is in
    let h = deep_operand (tree.binary chain.op chain.left chain.right) chain.joined.items i j there is in
    first_of (search rules, grind (arith, common_steps))

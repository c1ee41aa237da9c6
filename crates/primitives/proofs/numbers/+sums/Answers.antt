use Rattle.std.proofs.Common.{SFits, ap, arith, drop, get_or, length, refl, rules, sym, w64, ◌∙◌, ◌≡◌, ◌<◌, ◌+◌}
use Rattle.std.proofs.lemmas.Grind.{common_steps}
use Rattle.std.proofs.lemmas.Int.{to_z-of_z}
use Rattle.std.proofs.lemmas.Option.{IfSome_then}
use Rattle.ht_grammar.specs.Trees as tree
use Rattle.ht_tree.specs.View.{form_of}
use Rattle.ht_tree.proofs.Chains.{deep_operand, joined_deep}
use Rattle.meaning.specs.Meaning.{Val}
use Rattle.meaning.specs.Values.{Yields}
use Rattle.primitives.proofs.Kept.{computes_more}
use Rattle.primitives.proofs.Lists.{cut_lent}
use Rattle.primitives.proofs.numbers.+sums.Goals as goal

pub number_at_once-returns-in-Paren : goal.number_at_once-returns-in-Paren
number_at_once-returns-in-Paren g t c =
    IfSome_then c.number_at_once.result c.number_at_once.ensures
    (λ n h r d. Val.paren (sym c.form.ensures ∙ ap form_of c.in-Paren.is) (h r d))

pub number_at_once-returns-in_ok-x-in-UnaryOfName : goal.number_at_once-returns-in_ok-x-in-UnaryOfName
number_at_once-returns-in_ok-x-in-UnaryOfName g t c =
    let x = c.in_ok-x-in-UnaryOfName.x in
    let x_fits : SFits w64 x = search rules in
    let meaning = rw (to_z-of_z w64 x x_fits) at c.number_by_unary.ensures in
    let kind = sym c.form.ensures ∙ ap form_of c.in-UnaryOfName.is in
    IfSome_then c.number_by_unary.result meaning
    (λ n h r d. Val.one_operand kind (Val.name refl (sym c.in_ok-x-in-UnaryOfName.ensures)) (Yields.yields h))

pub number_at_once-returns-in-UnaryOfNumber : goal.number_at_once-returns-in-UnaryOfNumber
number_at_once-returns-in-UnaryOfNumber g t c =
    let x = c.in-UnaryOfNumber.number in
    let x_fits : SFits w64 x = search rules in
    let meaning = rw (to_z-of_z w64 x x_fits) at c.number_by_unary-in-UnaryOfNumber.ensures in
    let kind = sym c.form.ensures ∙ ap form_of c.in-UnaryOfNumber.is in
    IfSome_then c.number_by_unary-in-UnaryOfNumber.result meaning
    (λ n h r d. Val.one_operand kind (Val.number refl) (Yields.yields h))

pub number_at_once-returns-in_ok-x-in-Unary : goal.number_at_once-returns-in_ok-x-in-Unary
number_at_once-returns-in_ok-x-in-Unary g t c =
    let x = c.in_ok-x-in-Unary.x in
    let x_fits : SFits w64 x = search rules in
    let meaning = rw (to_z-of_z w64 x x_fits) at c.number_by_unary-in-Unary.ensures in
    let kind = sym c.form.ensures ∙ ap form_of c.in-Unary.is in
    IfSome_then c.number_by_unary-in-Unary.result meaning
    (λ n h r d. Val.one_operand kind (c.in_ok-x-in-Unary.ensures r d) (Yields.yields h))

pub number_at_once-returns-in_ok-y-in-Binary : goal.number_at_once-returns-in_ok-y-in-Binary
number_at_once-returns-in_ok-y-in-Binary g t c =
    let x = c.in_ok-x-in-Binary.x in
    let y = c.in_ok-y-in-Binary.y in
    let x_fits : SFits w64 x = search rules in
    let y_fits : SFits w64 y = search rules in
    let meaning = rw (to_z-of_z w64 x x_fits, to_z-of_z w64 y y_fits) at c.number_by.ensures.meaning in
    let kind = sym c.form.ensures ∙ ap form_of c.in-Binary.is in
    IfSome_then c.number_by.result meaning
    (λ n h r d. Val.two_operands kind (c.in_ok-x-in-Binary.ensures r d) (c.in_ok-y-in-Binary.ensures r d)
    (Yields.yields h))

pub number_at_once-returns-in_ok-z-in-LeftNested : goal.number_at_once-returns-in_ok-z-in-LeftNested
number_at_once-returns-in_ok-z-in-LeftNested g t c =
    let x = c.in_ok-x-in-LeftNested.x in
    let y = c.in_ok-y-in-LeftNested.y in
    let z = c.in_ok-z-in-LeftNested.z in
    let v = c.in_ok-nested-in-LeftNested.nested in
    let x_fits : SFits w64 x = search rules in
    let y_fits : SFits w64 y = search rules in
    let z_fits : SFits w64 z = search rules in
    let v_fits : SFits w64 v = search rules in
    let inner = rw (to_z-of_z w64 x x_fits, to_z-of_z w64 y y_fits) at c.in_ok-nested-in-LeftNested.ensures.meaning in
    let outer = rw (to_z-of_z w64 v v_fits, to_z-of_z w64 z z_fits) at c.number_by-in-LeftNested-2.ensures.meaning in
    let kind = sym c.form.ensures ∙ ap form_of c.in-LeftNested.is in
    IfSome_then c.number_by-in-LeftNested-2.result outer
    (λ n h r d. Val.two_operands kind
    (Val.two_operands refl (c.in_ok-x-in-LeftNested.ensures r d) (c.in_ok-y-in-LeftNested.ensures r d)
    (Yields.yields inner)) (c.in_ok-z-in-LeftNested.ensures r d) (Yields.yields h))

pub number_at_once-returns-in_ok-nested-in-RightNested : goal.number_at_once-returns-in_ok-nested-in-RightNested
number_at_once-returns-in_ok-nested-in-RightNested g t c =
    let x = c.in_ok-x-in-RightNested.x in
    let y = c.in_ok-y-in-RightNested.y in
    let z = c.in_ok-z-in-RightNested.z in
    let v = c.in_ok-nested-in-RightNested.nested in
    let x_fits : SFits w64 x = search rules in
    let y_fits : SFits w64 y = search rules in
    let z_fits : SFits w64 z = search rules in
    let v_fits : SFits w64 v = search rules in
    let inner = rw (to_z-of_z w64 y y_fits, to_z-of_z w64 z z_fits) at c.in_ok-nested-in-RightNested.ensures.meaning in
    let outer = rw (to_z-of_z w64 x x_fits, to_z-of_z w64 v v_fits) at c.number_by-in-RightNested-2.ensures.meaning in
    let kind = sym c.form.ensures ∙ ap form_of c.in-RightNested.is in
    IfSome_then c.number_by-in-RightNested-2.result outer
    (λ n h r d. Val.two_operands kind (c.in_ok-x-in-RightNested.ensures r d)
    (Val.two_operands refl (c.in_ok-y-in-RightNested.ensures r d) (c.in_ok-z-in-RightNested.ensures r d)
    (Yields.yields inner)) (Yields.yields h))

pub number_of_chain-number_at_once-requires : goal.number_of_chain-number_at_once-requires
number_of_chain-number_at_once-requires g t c κs within =
    let chain = c.args.chain.now in
    let h = joined_deep (tree.binary chain.op chain.left chain.right) chain.joined.items in
    first_of (search rules, grind (arith, common_steps))

pub number_of_chain-number_at_once-requires-2 : goal.number_of_chain-number_at_once-requires-2
number_of_chain-number_at_once-requires-2 g t c κs within =
    let chain = c.args.chain.now in
    let h = joined_deep (tree.binary chain.op chain.left chain.right) chain.joined.items in
    first_of (search rules, grind (arith, common_steps))

pub number_of_chain-number_of_operand-requires : goal.number_of_chain-number_of_operand-requires
number_of_chain-number_of_operand-requires g t c κs within =
    let chain = c.args.chain.now in
    let items = c.deref-joined-items.ensures.value in
    let there : c.loop-joined.joined-index < length chain.joined.items = rw items at c.loop-joined-test.true in
    let is : c.joined-item.result ≡ get_or chain.joined.items c.loop-joined.joined-index c.joined-item.result =
    rw items at c.joined-item.is in
    let h = deep_operand (tree.binary chain.op chain.left chain.right) chain.joined.items c.loop-joined.joined-index
    c.joined-item.result there is in
    first_of (search rules, grind (arith, common_steps))

pub number_of_chain-loop-joined-init : goal.number_of_chain-loop-joined-init
number_of_chain-loop-joined-init g t c =
    let chain = c.args.chain.now in
    let x = c.in_ok-x.x in
    let y = c.in_ok-y.y in
    let v = c.in_ok-number.number in
    let x_fits : SFits w64 x = search rules in
    let y_fits : SFits w64 y = search rules in
    let v_fits : SFits w64 v = search rules in
    let is = rw (to_z-of_z w64 x x_fits, to_z-of_z w64 y y_fits) at c.in_ok-number.ensures.meaning in
    λ n rest. (rw (to_z-of_z w64 v v_fits) at rest) (tree.binary chain.op chain.left chain.right)
    (λ r d. Val.two_operands refl (c.in_ok-x.ensures r d) (c.in_ok-y.ensures r d) (Yields.yields is))

pub number_of_chain-loop-joined-preserved : goal.number_of_chain-loop-joined-preserved
number_of_chain-loop-joined-preserved g t c =
    let chain = c.args.chain.now in
    let i = c.loop-joined.joined-index in
    let q = c.in_ok-next.next in
    let u = c.in_ok-number-2.number in
    let q_fits : SFits w64 q = search rules in
    let u_fits : SFits w64 u = search rules in
    let computed = rw (to_z-of_z w64 q q_fits) at c.in_ok-number-2.ensures.meaning in
    let items = c.deref-joined-items.ensures.value in
    let left = cut_lent chain.joined.items _ i c.joined-item.result items c.loop-joined-test.true c.joined-item.is in
    λ n rest. c.loop-joined.invariant n (rw left
    (computes_more _ q u c.joined-item.result (drop (i + 1) chain.joined.items) n c.in_ok-next.ensures computed
    (rw (to_z-of_z w64 u u_fits) at rest)))

use Rattle.std.proofs.Common.{rules, arith}
use Rattle.std.proofs.lemmas.Grind.{common_steps}
use Rattle.ht_grammar.specs.Reading.{read, list_at}
use Rattle.ht_tree.specs.View.{exprs_of}
use Rattle.ht_expressions.proofs.Lists.{snoc_fits}
use Rattle.ht_lex.proofs.Turns.{one_more, no_more}
use Rattle.ht_expressions.proofs.grammar.Grammar.list.Goals as goal

pub returns-in_err-expr : goal.returns-in_err-expr
unfolding list_at
returns-in_err-expr g c =
    let e = one_more (λ n. list_at (read c.args.self.now.depth) c.args.self.now.depth n
    (exprs_of c.loop-turn.found.items.items) c.loop-turn.tokens) _ c.loop-turn._turn c.loop-turn-test.true
    c.loop-turn.invariant.same in
    first_of (search rules, grind (arith, common_steps))

pub returns-in_default : goal.returns-in_default
unfolding list_at
returns-in_default g c =
    let s = c.fitted.ensures in
    let e = one_more (λ n. list_at (read c.args.self.now.depth) c.args.self.now.depth n
    (exprs_of c.loop-turn.found.items.items) c.loop-turn.tokens) _ c.loop-turn._turn c.loop-turn-test.true
    c.loop-turn.invariant.same in
    let x = c.operand.ensures in let w = c.with.ensures in
    let fits = snoc_fits (exprs_of c.loop-turn.found.items.items) c.in_ok-expr.expr c.loop-turn.invariant.fits in
    first_of (search rules, grind (arith, common_steps))

pub loop-turn-preserved : goal.loop-turn-preserved
unfolding list_at
loop-turn-preserved g c =
    let e = one_more (λ n. list_at (read c.args.self.now.depth) c.args.self.now.depth n
    (exprs_of c.loop-turn.found.items.items) c.loop-turn.tokens) _ c.loop-turn._turn c.loop-turn-test.true
    c.loop-turn.invariant.same in
    let x = c.operand.ensures in let w = c.with.ensures in
    let fits = snoc_fits (exprs_of c.loop-turn.found.items.items) c.in_ok-expr.expr c.loop-turn.invariant.fits in
    first_of (search rules, grind (arith, common_steps))

pub returns : goal.returns
unfolding list_at
returns g c =
    let e = no_more (λ n. list_at (read c.args.self.now.depth) c.args.self.now.depth n
    (exprs_of c.loop-turn.found.items.items) c.loop-turn.tokens) _ c.loop-turn._turn c.loop-turn-test.false
    c.loop-turn.invariant.same in
    first_of (search rules, grind (arith, common_steps))

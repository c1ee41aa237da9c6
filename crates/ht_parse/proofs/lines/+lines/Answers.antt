use Rattle.std.proofs.Common.{rules, suc, ◌-◌, ◌+◌, length, arith}
use Rattle.std.proofs.lemmas.Grind.{common_steps}
use Rattle.ht_grammar.specs.Reading.{made}
use Rattle.ht_grammar.specs.Lines.{lines_at}
use Rattle.ht_tree.specs.StatementView.{stmts_of}
use Rattle.ht_parse.specs.Blocks.{statement_of, else_if_of}
use Rattle.ht_parse.specs.Contexts.{context_of}
use Rattle.ht_parse.specs.Lists.{append}
use Rattle.ht_parse.proofs.Deeper.{lines_of}
use Rattle.ht_parse.proofs.Lists.{append_stop, made_lines, made_nothing, with_fits}
use Rattle.ht_lex.proofs.Turns.{one_more, no_more}
use Rattle.ht_parse.proofs.lines.+lines.Goals as goal

pub lines-loop-turn-init : goal.lines-loop-turn-init
lines-loop-turn-init t c =
    let a = lines_of c.args.depth (context_of c.args.context) c.args.tokens.now in
    let b = made_nothing (lines_at (statement_of c.args.depth) (else_if_of c.args.depth)
    (suc (length c.args.tokens.now)) (context_of c.args.context) c.args.tokens.now) in
    first_of (search rules, grind (arith, common_steps))

pub lines-returns-then-not-begins_statement : goal.lines-returns-then-not-begins_statement
unfolding lines_at
lines-returns-then-not-begins_statement t c =
    let f = c.fitted.ensures in
    let e = one_more (λ n. made (append (stmts_of c.loop-turn.found.items.items))
    (lines_at (statement_of c.args.depth) (else_if_of c.args.depth) n (context_of c.args.context)
    c.loop-turn.tokens)) _ c.loop-turn._turn c.loop-turn-test.true c.loop-turn.invariant.same in
    let s = append_stop (stmts_of c.loop-turn.found.items.items) in
    first_of (search rules, grind (arith, common_steps))

pub lines-returns-in_err-stmt : goal.lines-returns-in_err-stmt
unfolding lines_at
lines-returns-in_err-stmt t c =
    let e = one_more (λ n. made (append (stmts_of c.loop-turn.found.items.items))
    (lines_at (statement_of c.args.depth) (else_if_of c.args.depth) n (context_of c.args.context)
    c.loop-turn.tokens)) _ c.loop-turn._turn c.loop-turn-test.true c.loop-turn.invariant.same in
    first_of (search rules, grind (arith, common_steps))

pub lines-returns-then-not-eat_ends : goal.lines-returns-then-not-eat_ends
unfolding lines_at
lines-returns-then-not-eat_ends t c =
    let e = one_more (λ n. made (append (stmts_of c.loop-turn.found.items.items))
    (lines_at (statement_of c.args.depth) (else_if_of c.args.depth) n (context_of c.args.context)
    c.loop-turn.tokens)) _ c.loop-turn._turn c.loop-turn-test.true c.loop-turn.invariant.same in
    first_of (search rules, grind (arith, common_steps))

pub lines-loop-turn-preserved : goal.lines-loop-turn-preserved
unfolding lines_at
lines-loop-turn-preserved t c =
    let e = one_more (λ n. made (append (stmts_of c.loop-turn.found.items.items))
    (lines_at (statement_of c.args.depth) (else_if_of c.args.depth) n (context_of c.args.context)
    c.loop-turn.tokens)) _ c.loop-turn._turn c.loop-turn-test.true c.loop-turn.invariant.same in
    let m = made_lines (stmts_of c.loop-turn.found.items.items) c.in_ok-stmt.stmt
    (lines_at (statement_of c.args.depth) (else_if_of c.args.depth)
    (length c.args.tokens.now + 1 - (c.loop-turn._turn + 1)) (context_of c.args.context) c.eat_ends.new.tokens) in
    let f = with_fits (stmts_of c.loop-turn.found.items.items) c.in_ok-stmt.stmt c.loop-turn.invariant.fits in
    first_of (search rules, grind (arith, common_steps))

pub lines-returns : goal.lines-returns
unfolding lines_at
lines-returns t c =
    let e = no_more (λ n. made (append (stmts_of c.loop-turn.found.items.items))
    (lines_at (statement_of c.args.depth) (else_if_of c.args.depth) n (context_of c.args.context)
    c.loop-turn.tokens)) _ c.loop-turn._turn c.loop-turn-test.false c.loop-turn.invariant.same in
    first_of (search rules, grind (arith, common_steps))

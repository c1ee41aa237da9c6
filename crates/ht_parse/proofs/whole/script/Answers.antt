use Rattle.std.proofs.Common.{rules, ◌-◌, ◌+◌, length, arith}
use Rattle.std.proofs.lemmas.Grind.{common_steps}
use Rattle.ht_grammar.specs.Reading.{made}
use Rattle.ht_grammar.specs.Whole.{handlers_at}
use Rattle.ht_tree.specs.ScriptView.{script_of, handler_of}
use Rattle.ht_parse.specs.Lists.{append_handlers}
use Rattle.ht_parse.proofs.Lists.{append_none, made_handlers, handlers_fit}
use Rattle.ht_lex.proofs.Turns.{one_more, no_more}
use Rattle.ht_parse.proofs.whole.script.Goals as goal

pub returns-in_err-handler : goal.returns-in_err-handler
unfolding handlers_at
returns-in_err-handler c =
    let e = one_more (λ n. made (append_handlers (script_of c.loop-turn.found)) (handlers_at n c.loop-turn.tokens)) _
    c.loop-turn._turn c.loop-turn-test.true c.loop-turn.invariant.same in
    first_of (search rules, grind (arith, common_steps))

pub returns-then-is_none : goal.returns-then-is_none
unfolding handlers_at
returns-then-is_none c =
    let e = one_more (λ n. made (append_handlers (script_of c.loop-turn.found)) (handlers_at n c.loop-turn.tokens)) _
    c.loop-turn._turn c.loop-turn-test.true c.loop-turn.invariant.same in
    let s = append_none (script_of c.loop-turn.found) in
    first_of (search rules, grind (arith, common_steps))

pub loop-turn-preserved : goal.loop-turn-preserved
unfolding handlers_at
loop-turn-preserved c =
    let e = one_more (λ n. made (append_handlers (script_of c.loop-turn.found)) (handlers_at n c.loop-turn.tokens)) _
    c.loop-turn._turn c.loop-turn-test.true c.loop-turn.invariant.same in
    let m = made_handlers (script_of c.loop-turn.found) (handler_of c.in_ok-handler.handler)
    (handlers_at (length c.args.tokens.now + 1 - (c.loop-turn._turn + 1)) c.handler.new.tokens) in
    let f = handlers_fit (script_of c.loop-turn.found) (handler_of c.in_ok-handler.handler)
    c.loop-turn.invariant.fits in
    first_of (search rules, grind (arith, common_steps))

pub returns : goal.returns
unfolding handlers_at
returns c =
    let e = no_more (λ n. made (append_handlers (script_of c.loop-turn.found)) (handlers_at n c.loop-turn.tokens)) _
    c.loop-turn._turn c.loop-turn-test.false c.loop-turn.invariant.same in
    first_of (search rules, grind (arith, common_steps))

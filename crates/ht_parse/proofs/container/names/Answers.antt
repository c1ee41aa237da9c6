use Rattle.std.proofs.Common.{rules, ◌-◌, ◌+◌, ◌++◌, arith}
use Rattle.std.proofs.lemmas.Grind.{common_steps}
use Rattle.ht_grammar.specs.Reading.{made}
use Rattle.ht_grammar.specs.Lines.{names_at}
use Rattle.ht_parse.proofs.Lists.{made_names}
use Rattle.ht_lex.proofs.Turns.{one_more, no_more}
use Rattle.ht_parse.proofs.container.names.Goals as goal

pub returns-in_default : goal.returns-in_default
unfolding names_at
returns-in_default c =
    let e = one_more (λ n. made (λ ws. c.loop-turn.found.items ++ ws) (names_at n c.loop-turn.tokens)) _
    c.loop-turn._turn c.loop-turn-test.true c.loop-turn.invariant in
    first_of (search rules, grind (arith, common_steps))

pub returns-in_default-peek : goal.returns-in_default-peek
unfolding names_at
returns-in_default-peek c =
    let e = one_more (λ n. made (λ ws. c.loop-turn.found.items ++ ws) (names_at n c.loop-turn.tokens)) _
    c.loop-turn._turn c.loop-turn-test.true c.loop-turn.invariant in
    first_of (search rules, grind (arith, common_steps))

pub loop-turn-preserved : goal.loop-turn-preserved
unfolding names_at
loop-turn-preserved c =
    let e = one_more (λ n. made (λ ws. c.loop-turn.found.items ++ ws) (names_at n c.loop-turn.tokens)) _
    c.loop-turn._turn c.loop-turn-test.true c.loop-turn.invariant in
    let m = made_names c.loop-turn.found.items c.take.result.now
    (names_at (c.args.turns - (c.loop-turn._turn + 1)) c.skip.new.self) in
    first_of (search rules, grind (arith, common_steps))

pub returns : goal.returns
unfolding names_at
returns c =
    let e = no_more (λ n. made (λ ws. c.loop-turn.found.items ++ ws) (names_at n c.loop-turn.tokens)) _
    c.loop-turn._turn c.loop-turn-test.false c.loop-turn.invariant in
    first_of (search rules, grind (arith, common_steps))

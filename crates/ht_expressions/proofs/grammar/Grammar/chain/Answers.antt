use Rattle.std.proofs.Common.{◌≡◌, ◌+◌, ◌-◌, rules, arith, ◌∙◌}
use Rattle.std.proofs.lemmas.Grind.{common_steps}
use Rattle.ht_expressions.proofs.Chain.{chain_infix, chain_test, chain_no_infix, chain_no_test, chain_neither}
use Rattle.ht_expressions.proofs.Chain.{chain_none}
use Rattle.ht_expressions.proofs.grammar.Grammar.chain.Goals as goal
use Rattle.ht_expressions.proofs.grammar.Grammar.chain.Goals.{in_default-via-in-Infix+else-rank-below}
use Rattle.ht_expressions.proofs.grammar.Grammar.chain.Goals.{in_default-via-in-Test+else-below-eq-EQUALITY}
use Rattle.ht_expressions.proofs.grammar.Grammar.chain.Goals.{in_default-via-in_default, in-Infix+in_ok-left-in-Infix}
use Rattle.ht_expressions.proofs.grammar.Grammar.chain.Goals.{in-Test+in_ok-left-in-Test}

pub returns-in_err-left-in-Infix : goal.returns-in_err-left-in-Infix
returns-in_err-left-in-Infix g c =
    let e = c.loop-turn.invariant.same
    ∙ chain_infix c.args.self.now.depth c.args.below c.loop-turn.left c.loop-turn.tokens
    (c.args.self.now.depth + 2 - c.loop-turn._turn) (omega arith) c.in-Infix.ensures c.if-rank-below.true in
    first_of (search rules, grind (arith, common_steps))

pub returns-in_err-left-in-Test : goal.returns-in_err-left-in-Test
returns-in_err-left-in-Test g c =
    let e = c.loop-turn.invariant.same
    ∙ chain_test c.args.self.now.depth c.args.below c.loop-turn.left c.loop-turn.tokens
    (c.args.self.now.depth + 2 - c.loop-turn._turn) (omega arith) c.in-Test.ensures c.if-below-eq-EQUALITY.true in
    first_of (search rules, grind (arith, common_steps))

pub returns-in_default : goal.returns-in_default
returns-in_default g c =
    let m = c.mark-before.ensures in
    elim c.in_default.branch [
      | in_default-via-in-Infix+else-rank-below w ↦
          (let e = c.loop-turn.invariant.same
          ∙ chain_no_infix c.args.self.now.depth c.args.below c.loop-turn.left c.loop-turn.tokens
          (c.args.self.now.depth + 2 - c.loop-turn._turn) (omega arith) w.in-Infix.ensures w.if-rank-below.false in
          first_of (search rules, grind (arith, common_steps)))
      | in_default-via-in-Test+else-below-eq-EQUALITY w ↦
          (let e = c.loop-turn.invariant.same
          ∙ chain_no_test c.args.self.now.depth c.args.below c.loop-turn.left c.loop-turn.tokens
          (c.args.self.now.depth + 2 - c.loop-turn._turn) (omega arith) w.in-Test.ensures
          w.if-below-eq-EQUALITY.false in first_of (search rules, grind (arith, common_steps)))
      | in_default-via-in_default w ↦
          (let e = c.loop-turn.invariant.same
          ∙ chain_neither c.args.self.now.depth c.args.below c.loop-turn.left c.loop-turn.tokens
          (c.args.self.now.depth + 2 - c.loop-turn._turn) (omega arith) w.in_default.ensures in first_of
          (search rules, grind (arith, common_steps)))
    ]

pub loop-turn-preserved : goal.loop-turn-preserved
loop-turn-preserved g c =
    let s : c.args.self.now.depth + 2 - c.loop-turn._turn - 1 ≡ c.args.self.now.depth + 2 - (c.loop-turn._turn + 1) =
    omega arith in
    elim c.match-take_operator.branch [
      | in-Infix+in_ok-left-in-Infix w ↦
          (let e = c.loop-turn.invariant.same
          ∙ chain_infix c.args.self.now.depth c.args.below c.loop-turn.left c.loop-turn.tokens
          (c.args.self.now.depth + 2 - c.loop-turn._turn) (omega arith) w.in-Infix.ensures w.if-rank-below.true in
          let j = w.in_ok-left-in-Infix.ensures in first_of (search rules, grind (arith, common_steps)))
      | in-Test+in_ok-left-in-Test w ↦
          (let e = c.loop-turn.invariant.same
          ∙ chain_test c.args.self.now.depth c.args.below c.loop-turn.left c.loop-turn.tokens
          (c.args.self.now.depth + 2 - c.loop-turn._turn) (omega arith) w.in-Test.ensures w.if-below-eq-EQUALITY.true in
          let j = w.in_ok-left-in-Test.ensures in first_of (search rules, grind (arith, common_steps)))
    ]

pub returns : goal.returns
returns g c = c.loop-turn.invariant.same
    ∙ chain_none c.args.self.now.depth c.args.below c.loop-turn.left c.loop-turn.tokens
    (c.args.self.now.depth + 2 - c.loop-turn._turn) (omega arith)

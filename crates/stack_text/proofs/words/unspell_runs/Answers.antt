use Rattle.std.proofs.Common.{◌≡◌, ◌<◌, length, sym, ◌∙◌, arith}
use Rattle.std.proofs.lemmas.Bool.Decides.{nat_tests}
use Rattle.std.proofs.lemmas.Grind.{common_steps}
use Rattle.stack_text.proofs.Runs.{next-unspelled, all-unspelled, none-unspelled}
use Rattle.stack_text.proofs.words.unspell_runs.Goals as goal

pub returns-in-None : goal.returns-in-None
returns-in-None c =
    let some : 0 < length c.in_ok-rest.rest.now = grind (arith, common_steps, nat_tests) in
    sym c.loop.invariant.left ∙ sym c.in_ok-rest.ensures.text
    ∙ none-unspelled c.copy_plain.new.out.items c.in_ok-rest.rest.now some (sym c.in-None.ensures.value)

pub loop-preserved : goal.loop-preserved
loop-preserved c =
    let rest = c.in_ok-rest.rest.now in
    let after = c.in-Some.after.now in
    let some : 0 < length rest = grind (arith, common_steps, nat_tests) in
    let fewer : length after < length rest = c.in-Some.ensures.shorter in
    record {
      left =
          next-unspelled c.copy_plain.new.out.items c.push.new.self.items rest after c.in-Some.byte some
          (sym c.in-Some.ensures.value) fewer c.in_ok-push-in-Some.ensures.items
          ∙ c.in_ok-rest.ensures.text ∙ c.loop.invariant.left;
      short = omega (arith, c.in_ok-rest.ensures.shorter, c.loop.invariant.short, fewer);
    }

pub returns-after-loop : goal.returns-after-loop
returns-after-loop c =
    let none : length c.loop.rest.now ≡ 0 = omega (arith, c.loop.invariant.short) in
    sym c.loop.invariant.left ∙ all-unspelled c.loop.out.items c.loop.rest.now none

pub returns-then-is_empty : goal.returns-then-is_empty
returns-then-is_empty c =
    let none : length c.in_ok-rest.rest.now ≡ 0 = grind (arith, common_steps, nat_tests) in
    sym c.loop.invariant.left ∙ sym c.in_ok-rest.ensures.text
    ∙ all-unspelled c.copy_plain.new.out.items c.in_ok-rest.rest.now none

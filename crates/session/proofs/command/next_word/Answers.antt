use Rattle.std.proofs.Common.{arith}
use Rattle.std.proofs.lemmas.Grind.{common_steps}
use Rattle.std.proofs.lemmas.Bool.Decides.{nat_tests}
use Rattle.session.proofs.Spaces.{words-next, words-none}
use Rattle.session.proofs.command.next_word.Goals as goal

pub returns-then-is_empty : goal.returns-then-is_empty
returns-then-is_empty c = grind (arith, common_steps, nat_tests, words-none c.args.line.now)

pub returns : goal.returns
returns c = words-next c.args.line.now c.after_spaces-bytes.result.now c.word_length-end.result
    c.after_spaces-bytes.ensures (grind (arith, common_steps, nat_tests)) c.word_length-end.ensures.value
    c.word_length-end.ensures.within

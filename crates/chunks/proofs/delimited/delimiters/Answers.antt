use Rattle.std.proofs.Common.{◌+◌, ◌≤◌, arith, length}
use Rattle.chunks.proofs.Blocks.{counted, few_counted}
use Rattle.chunks.proofs.delimited.delimiters.Goals as goal

pub loop-at-preserved : goal.loop-at-preserved
loop-at-preserved c =
    let text = c.args.text.now in
    let at = c.loop-at.at in
    let end = at + c.min.result in
    let within : end ≤ length text = omega arith in
    let all = counted c.args.delimiter text at end (omega arith) in
    let few = few_counted c.args.delimiter text end in
    record {
      counted = omega (arith, all, c.loop-at.invariant.counted, c.from-many.ensures, c.delimiters_in.ensures);
      few = omega (arith, few, all, c.loop-at.invariant.counted, c.from-many.ensures, c.delimiters_in.ensures);
      within = within;
    }

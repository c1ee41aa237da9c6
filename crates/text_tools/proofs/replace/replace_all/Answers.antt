use Rattle.std.proofs.Common.{◌<◌, ◌≤◌, length, arith}
use Rattle.text_tools.proofs.Replaced.{replaced-end}
use Rattle.text_tools.proofs.replace.replace_all.Goals as goal

pub returns : goal.returns
returns c =
    let some : 0 < length c.args.old.now = omega arith in
    let past : length c.args.text.now ≤ c.loop-at.at = rw c.as_slice-bytes.ensures.value at c.loop-at-test.false in
    let whole = rw c.as_slice-bytes.ensures.value at c.loop-at.invariant.1 in
    replaced-end c.args.old.now c.args.new.now c.args.text.now c.loop-at.made c.loop-at.at some past
    c.loop-at.invariant.0 whole

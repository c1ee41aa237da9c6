use Rattle.std.proofs.Common.{length, ap, arith, length-take}
use Rattle.text_tools.proofs.table.keys.Goals as goal

pub slice_bounds-result-end : goal.slice_bounds-result-end
slice_bounds-result-end c =
    let n = ap length c.as_slice-texts.ensures in omega (arith, length-take 32 c.as_slice-texts.result.now)

pub returns-clause-count : goal.returns-clause-count
returns-clause-count c =
    let n = ap length c.as_slice-texts.ensures in omega (arith, length-take 32 c.as_slice-texts.result.now)

use Rattle.std.proofs.Common.{arith, ◌+◌, ◌∙◌}
use Rattle.ht_values.proofs.Digits.{one_more, no_less, all_read}
use Rattle.ht_values.proofs.number.magnitude.Goals as goal

pub returns-in_err-checked_mul : goal.returns-in_err-checked_mul
returns-in_err-checked_mul c =
    let ds = c.args.digits.now in
    let i = c.loop-digit.digit-index in
    let more = one_more ds i c.requires c.loop-digit-test.true in
    let less = no_less ds (i + 1) in
    rw c.from_residual.ensures (λ small. c.in_err-checked_mul.ensures (omega arith))

pub returns-in_err-value : goal.returns-in_err-value
returns-in_err-value c =
    let ds = c.args.digits.now in
    let i = c.loop-digit.digit-index in
    let more = one_more ds i c.requires c.loop-digit-test.true in
    let less = no_less ds (i + 1) in
    rw c.from_residual-in_err-value.ensures (λ small. c.in_err-value.ensures (omega arith))

pub returns : goal.returns
returns c =
    let all = all_read c.args.digits.now c.loop-digit.digit-index c.loop-digit-test.false in
    (omega arith, c.loop-digit.invariant.read ∙ all)

use Rattle.std.proofs.Common.{ℕ, ◌<◌, ◌≤◌, ◌^◌, arith, rules, lit<}
use Rattle.std.proofs.Math.Nat.{pow-le-pow_right}
use Rattle.stack_text.proofs.words.number_of.Goals as goal

below : (i k n : ℕ) → i ≤ k → n < 10 ^ i → n < 10 ^ k
below i k n small h =
    let ten : 0 < 10 = lit< tt in
    let most : 10 ^ i ≤ 10 ^ k = pow-le-pow_right ten small in
    omega arith

pub overflow_mul-number : goal.overflow_mul-number
overflow_mul-number c =
    let b : c.loop-byte.number < 10 ^ 6 =
    below c.loop-byte.byte-index 6 c.loop-byte.number (omega arith) c.loop-byte.invariant.small in
    omega (arith, b)

pub overflow_add-number : goal.overflow_add-number
overflow_add-number c =
    let b : c.loop-byte.number < 10 ^ 6 =
    below c.loop-byte.byte-index 6 c.loop-byte.number (omega arith) c.loop-byte.invariant.small in
    search (rules, b)

-- Powers with an exponent so high that only those of -1, 0 and 1 are in range.
use Rattle.std.proofs.Common.{◌≡◌, ◌≢◌, refl, ◌∙◌, ap, ℕ, zero, suc, ◌*◌, ◌%◌, ◌^◌, ◌<◌, ◌≤◌, Bool, true, false, cond}
use Rattle.std.proofs.Common.{nat_lt, ◌==◌, Ok, Err, ℤ, pos, negsuc, neg_ℤ, arith}
use Rattle.std.specs.Int.{int_pow}
use Rattle.std.proofs.Math.Nat.{pow-suc, pow-zero, mul-le-mul}
use Rattle.std.proofs.Math.Pow.{pow_mono}
use Rattle.ht_values.specs.declared.fault.Fault.TheVariants.{OutOfRange}
use Rattle.ht_values.specs.Number.{ranged}

one_to : (n : ℕ) → 1 ^ n ≡ 1
one_to zero = pow-zero 1
one_to (suc n) = pow-suc 1 n ∙ ap (λ m. m * 1) (one_to n)

zero_to : (n : ℕ) → 0 < n → 0 ^ n ≡ 0
zero_to zero h = absurd (omega arith)
zero_to (suc n) h = let e : 0 ^ n * 0 ≡ 0 = omega arith in pow-suc 0 n ∙ e

over : (a n : ℕ) → 2 ≤ a → 2 ^ n ≤ a ^ n
over a zero h = omega (arith, pow-zero 2, pow-zero a)
over a (suc n) h = let m : 2 ^ n * 2 ≤ a ^ n * a = mul-le-mul (over a n h) h in omega (arith, pow-suc 2 n, pow-suc a n)

large : (a n : ℕ) → 2 ≤ a → 64 ≤ n → 2 ^ 64 ≤ a ^ n
large a n h far = let low : 2 ^ 64 ≤ 2 ^ n = pow_mono far in let high : 2 ^ n ≤ a ^ n = over a n h in omega arith

pub far_zero : (n : ℕ) → 64 ≤ n → ranged (int_pow (pos 0) n) ≡ Ok (pos 0)
far_zero n far = let some : 0 < n = omega arith in ap (λ m. ranged (pos m)) (zero_to n some)

pub far_one : (n : ℕ) → ranged (int_pow (pos 1) n) ≡ Ok (pos 1)
far_one n = ap (λ m. ranged (pos m)) (one_to n)

-- a number of this size, with or without a sign
abbrev sign_if : Bool → ℕ → ℤ
sign_if even m = cond even (pos m) (neg_ℤ (pos m))

pub far_even : (n : ℕ) → n % 2 ≡ 0 → ranged (int_pow (negsuc 0) n) ≡ Ok (pos 1)
far_even n e = let b : (n % 2 == 0) ≡ true = grind arith in ap (λ v. ranged (sign_if v (1 ^ n))) b ∙ far_one n

pub far_odd : (n : ℕ) → n % 2 ≢ 0 → ranged (int_pow (negsuc 0) n) ≡ Ok (negsuc 0)
far_odd n e = let b : (n % 2 == 0) ≡ false = grind arith in ap (λ v. ranged (sign_if v (1 ^ n))) b
    ∙ ap (λ m. ranged (neg_ℤ (pos m))) (one_to n)

too_large : (m : ℕ) → 2 ^ 64 ≤ m → ranged (pos m) ≡ Err OutOfRange
too_large m h = let b : nat_lt m (2 ^ 63) ≡ false = grind arith in ap (λ v. cond v (Ok (pos m)) (Err OutOfRange)) b

too_small : (m : ℕ) → 2 ^ 64 ≤ m → ranged (neg_ℤ (pos m)) ≡ Err OutOfRange
too_small zero h = absurd (omega arith)
too_small (suc m) h =
    let b : nat_lt m (2 ^ 63) ≡ false = grind arith in ap (λ v. cond v (Ok (negsuc m)) (Err OutOfRange)) b

signed_large : (even : Bool) (m : ℕ) → 2 ^ 64 ≤ m → ranged (sign_if even m) ≡ Err OutOfRange
signed_large true m h = too_large m h
signed_large false m h = too_small m h

pub far_other : (z : ℤ) (n : ℕ) → z ≢ pos 0 → z ≢ pos 1 → z ≢ negsuc 0 → 64 ≤ n → ranged (int_pow z n) ≡ Err OutOfRange
far_other (pos zero) n h i j far = absurd (h refl)
far_other (pos (suc zero)) n h i j far = absurd (i refl)
far_other (pos (suc (suc a))) n h i j far =
    let two : 2 ≤ suc (suc a) = omega arith in too_large (suc (suc a) ^ n) (large (suc (suc a)) n two far)
far_other (negsuc zero) n h i j far = absurd (j refl)
far_other (negsuc (suc a)) n h i j far = let two : 2
    ≤ suc (suc a) = omega arith in signed_large (n % 2 == 0) (suc (suc a) ^ n) (large (suc (suc a)) n two far)

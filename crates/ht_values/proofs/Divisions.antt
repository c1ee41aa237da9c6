-- Quotients and remainders.
use Rattle.std.proofs.Common.{◌≡◌, refl, sym, ap, subst, ℕ, zero, suc, ◌<◌, ◌%◌, Bool, true, false, cond, Ok, Err}
use Rattle.std.proofs.Common.{Result, ℤ, pos, negsuc, neg_ℤ, ◌+ℤ◌, ◌*ℤ◌, ◌≤ℤ◌, arith}
use Rattle.std.specs.Prelude.{int_div, int_rem, unsigned_abs}
use Rattle.std.specs.Ordering.{int_eq}
use Rattle.std.specs.Result.{result_unwrap_or}
use Rattle.std.proofs.Math.Nat.{zero-mod}
use Rattle.std.proofs.lemmas.Bool.{false≢true}
use Rattle.std.proofs.lemmas.Int.{ints, quot-rem, rem_below}
use Rattle.ht_values.specs.declared.fault.Fault.{Fault}
use Rattle.ht_values.specs.declared.fault.Fault.TheVariants.{DivideByZero, OutOfRange}
use Rattle.ht_values.specs.Laws.{DivAndModDivide, IsDivision}
use Rattle.ht_values.specs.Number.{is_in_range, ranged}

same_value : (x y : ℤ) → ◌≡◌ {A = Result ℤ Fault} (Ok x) (Ok y) → x ≡ y
same_value x y e = ap (λ r. result_unwrap_or r x) e

-- a number in range is that number
in_range : (z q : ℤ) (v : Bool) → cond v (Ok z) (Err OutOfRange) ≡ Ok q → z ≡ q
in_range z q true e = same_value z q e
in_range z q false e = let no : ⊥ = cc in absurd no

natural : (n : ℕ) → pos 0 ≤ℤ pos n
natural n = omega (arith, ints)

negated : (n : ℕ) → neg_ℤ (pos n) ≤ℤ pos 0
negated zero = omega (arith, ints)
negated (suc n) = omega (arith, ints)

not_below : (x y : ℤ) → pos 0 ≤ℤ x → pos 0 ≤ℤ int_rem x y
not_below (pos a) y h = natural (a % unsigned_abs y)
not_below (negsuc a) y h = absurd (omega (arith, ints))

not_above : (x y : ℤ) → x ≤ℤ pos 0 → int_rem x y ≤ℤ pos 0
not_above (pos zero) y h = let e : 0 % unsigned_abs y
    ≡ 0 = zero-mod (unsigned_abs y) in subst (λ n. pos n ≤ℤ pos 0) (sym e) (omega (arith, ints))
not_above (pos (suc a)) y h = absurd (omega (arith, ints))
not_above (negsuc a) y h = negated (suc a % unsigned_abs y)

some_divisor : (y : ℤ) → int_eq y (pos 0) ≡ false → 0 < unsigned_abs y
some_divisor (pos zero) e = absurd (false≢true (sym e))
some_divisor (pos (suc n)) e = omega arith
some_divisor (negsuc n) e = omega arith

module _ (x y q r : ℤ) where
  divided : (v : Bool) → int_eq y (pos 0) ≡ v → cond v (Err DivideByZero) (ranged (int_div x y)) ≡ Ok q
      → cond v (Err DivideByZero) (Ok (int_rem x y)) ≡ Ok r → IsDivision x y q r
  divided true z eq er = let no : ⊥ = cc in absurd no
  divided false z eq er =
      let quotient : int_div x y ≡ q = in_range (int_div x y) q (is_in_range (int_div x y)) eq in
      let rest : int_rem x y ≡ r = same_value (int_rem x y) r er in
      record {
        whole = subst (λ k. ((k *ℤ y) +ℤ r) ≡ x) quotient
            (subst (λ k. ((int_div x y *ℤ y) +ℤ k) ≡ x) rest (quot-rem x y));
        small = subst (λ k. unsigned_abs k < unsigned_abs y) rest (rem_below x y (some_divisor y z));
        not_below = λ h. subst (λ k. pos 0 ≤ℤ k) rest (not_below x y h);
        not_above = λ h. subst (λ k. k ≤ℤ pos 0) rest (not_above x y h);
      }

pub div_and_mod_divide : DivAndModDivide
div_and_mod_divide x y q r eq er = divided x y q r (int_eq y (pos 0)) refl eq er

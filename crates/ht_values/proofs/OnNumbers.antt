-- What operators give of the numerals of two numbers.
use Rattle.std.proofs.Common.{◌≡◌, refl, sym, Ok, Err, Result, ℤ, SFits}
use Rattle.std.specs.Prelude.{IfSome, ◌+ℤ◌, ◌-ℤ◌, ◌*ℤ◌}
use Rattle.std.specs.Result.{result_ok}
use mir.Syntax.{w64}
use Rattle.ht_values.specs.declared.fault.Fault.{Fault}
use Rattle.ht_values.specs.declared.operator.Op.{Op}
use Rattle.ht_values.specs.declared.operator.Op.TheVariants as op
use Rattle.ht_values.specs.Number.{ranged}
use Rattle.ht_values.specs.Operators.{are_equal, binary, cut_quotient, exact_quotient, in_numerals, number_by, on_numbers}
use Rattle.ht_values.specs.Operators.{order_of, power, remainder, truth_by, word_of}
use Rattle.ht_values.specs.Text.{numeral}
use Rattle.ht_values.proofs.Spellings.{numeral_is_one, numeral_is_read}
use Rattle.std.specs.Ordering.{int_cmp, int_eq}

computed : (r : Result ℤ Fault) → IfSome (result_ok r) (λ n. in_numerals r ≡ Ok (numeral n))
computed (Ok n) = refl
computed (Err e) = tt

of_numerals : (f : ℤ → ℤ → Result ℤ Fault) (x y : ℤ) → SFits w64 x → SFits w64 y
    → IfSome (result_ok (f x y)) (λ n. in_numerals (on_numbers f (numeral x) (numeral y)) ≡ Ok (numeral n))
of_numerals f x y p q = rw (numeral_is_read x p, numeral_is_read y q) (computed (f x y))

pub number_meant : (o : Op) (x y : ℤ) → SFits w64 x → SFits w64 y
    → IfSome (number_by o x y) (λ n. binary o (numeral x) (numeral y) ≡ Ok (numeral n))
unfolding binary
number_meant op.Add x y p q = of_numerals (λ a b. ranged (a +ℤ b)) x y p q
number_meant op.Subtract x y p q = of_numerals (λ a b. ranged (a -ℤ b)) x y p q
number_meant op.Multiply x y p q = of_numerals (λ a b. ranged (a *ℤ b)) x y p q
number_meant op.Divide x y p q = of_numerals exact_quotient x y p q
number_meant op.Div x y p q = of_numerals cut_quotient x y p q
number_meant op.Mod x y p q = of_numerals remainder x y p q
number_meant op.Power x y p q = of_numerals power x y p q
number_meant op.Or x y p q = tt
number_meant op.And x y p q = tt
number_meant op.Equal x y p q = tt
number_meant op.NotEqual x y p q = tt
number_meant op.Less x y p q = tt
number_meant op.Greater x y p q = tt
number_meant op.LessOrEqual x y p q = tt
number_meant op.GreaterOrEqual x y p q = tt
number_meant op.Contains x y p q = tt
number_meant op.IsIn x y p q = tt
number_meant op.IsNotIn x y p q = tt
number_meant op.Join x y p q = tt
number_meant op.JoinSpaced x y p q = tt

equal_numerals : (x y : ℤ) → SFits w64 x → SFits w64 y → are_equal (numeral x) (numeral y) ≡ int_eq x y
equal_numerals x y p q =
    let m = numeral_is_one x p in
    let n = numeral_is_one y q in
    rw (m.0, n.0, sym m.1, sym n.1) refl

numerals_in_order : (x y : ℤ) → SFits w64 x → SFits w64 y → order_of (numeral x) (numeral y) ≡ int_cmp x y
numerals_in_order x y p q =
    let m = numeral_is_one x p in
    let n = numeral_is_one y q in
    rw (m.0, n.0, sym m.1, sym n.1) refl

pub truth_meant : (o : Op) (x y : ℤ) → SFits w64 x → SFits w64 y
    → IfSome (truth_by o x y) (λ b. binary o (numeral x) (numeral y) ≡ Ok (word_of b))
unfolding binary
truth_meant op.Equal x y p q = rw (equal_numerals x y p q) refl
truth_meant op.NotEqual x y p q = rw (equal_numerals x y p q) refl
truth_meant op.Less x y p q = rw (numerals_in_order x y p q) refl
truth_meant op.Greater x y p q = rw (numerals_in_order x y p q) refl
truth_meant op.LessOrEqual x y p q = rw (numerals_in_order x y p q) refl
truth_meant op.GreaterOrEqual x y p q = rw (numerals_in_order x y p q) refl
truth_meant op.Or x y p q = tt
truth_meant op.And x y p q = tt
truth_meant op.Contains x y p q = tt
truth_meant op.IsIn x y p q = tt
truth_meant op.IsNotIn x y p q = tt
truth_meant op.Join x y p q = tt
truth_meant op.JoinSpaced x y p q = tt
truth_meant op.Add x y p q = tt
truth_meant op.Subtract x y p q = tt
truth_meant op.Multiply x y p q = tt
truth_meant op.Divide x y p q = tt
truth_meant op.Div x y p q = tt
truth_meant op.Mod x y p q = tt
truth_meant op.Power x y p q = tt

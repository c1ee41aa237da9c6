-- What each operator gives: the exact whole number first, then its range.
use Rattle.std.specs.Prelude.{ℕ, Bool, true, false, not, ◌&&◌, ◌||◌, List, ◌∷◌, ◌++◌, codes, ℤ, pos, negsuc, ◌+ℤ◌}
use Rattle.std.specs.Prelude.{◌-ℤ◌, ◌*ℤ◌, neg_ℤ, int_div, int_rem, if◌then◌else◌, is_some, Option, Some, None, Ok, Err}
use Rattle.std.specs.Prelude.{Result}
use Rattle.std.specs.Int.{int_pow}
use Rattle.std.specs.Result.{result_ok}
use Rattle.std.specs.Cmp.Lexicographic.{slice_cmp}
use Rattle.std.specs.Ordering.{nat_cmp, int_cmp, int_eq, is_lt, is_le, is_gt, is_ge}
use Rattle.std.specs.declared.cmp.Ordering.{Ordering}
use Rattle.ht_values.specs.declared.fault.Fault.{Fault}
use Rattle.ht_values.specs.declared.fault.Fault.TheVariants.{BadArgument, DivideByZero, NotExact, NotLogical}
use Rattle.ht_values.specs.declared.operator.Op.{Op}
use Rattle.ht_values.specs.declared.operator.Op.TheVariants as op
use Rattle.ht_values.specs.declared.operator.UnOp.{UnOp}
use Rattle.ht_values.specs.declared.operator.UnOp.TheVariants as un_op
use Rattle.ht_values.specs.declared.operator.ValueType.{ValueType}
use Rattle.ht_values.specs.declared.operator.ValueType.TheVariants as value_type
use Rattle.ht_values.specs.Number.{number_of, is_numeral, ranged, value_of}
use Rattle.ht_values.specs.Outcome.{and_then, within_limit}
use Rattle.ht_values.specs.Search.{place_of}
use Rattle.ht_values.specs.Text.{folded, numeral, same}

-- the numeral of a number, or the fault in its place
abbrev pub in_numerals : Result ℤ Fault → Result (List ℕ) Fault
in_numerals r = and_then r (λ z. Ok (numeral z))

-- how a truth value is spelled
abbrev pub word_of : Bool → List ℕ
word_of b = if b then codes "true" else codes "false"

-- the word of a truth value, or the fault in its place
abbrev pub in_words : Result Bool Fault → Result (List ℕ) Fault
in_words r = and_then r (λ b. Ok (word_of b))

-- the truth value of a text that is the same as `true` or `false`
abbrev pub truth_of : List ℕ → Result Bool Fault
truth_of t = if same t (codes "true") then Ok true else if same t (codes "false") then Ok false else Err NotLogical

-- what two numbers give, after both are converted, the left one first
abbrev pub on_numbers : (ℤ → ℤ → Result ℤ Fault) → List ℕ → List ℕ → Result ℤ Fault
on_numbers f a b = and_then (number_of a) (λ x. and_then (number_of b) (λ y. f x y))

-- what two truth values give, after both are converted, the left one first
abbrev pub on_truths : (Bool → Bool → Bool) → List ℕ → List ℕ → Result Bool Fault
on_truths f a b = and_then (truth_of a) (λ x. and_then (truth_of b) (λ y. Ok (f x y)))

-- `x / y`, which is exact or nothing
abbrev pub exact_quotient : ℤ → ℤ → Result ℤ Fault
exact_quotient x y =
    if int_eq y (pos 0) then Err DivideByZero
    else if int_eq (int_rem x y) (pos 0) then ranged (int_div x y)
    else Err NotExact

-- `x div y`, cut toward zero
abbrev pub cut_quotient : ℤ → ℤ → Result ℤ Fault
cut_quotient x y = if int_eq y (pos 0) then Err DivideByZero else ranged (int_div x y)

-- `x mod y`, with the sign of x
abbrev pub remainder : ℤ → ℤ → Result ℤ Fault
remainder x y = if int_eq y (pos 0) then Err DivideByZero else Ok (int_rem x y)

-- `x ^ y`
abbrev pub power : ℤ → ℤ → Result ℤ Fault
power x (pos n) = ranged (int_pow x n)
power x (negsuc n) = Err BadArgument

-- whether both texts are numerals
abbrev pub are_numerals : List ℕ → List ℕ → Bool
are_numerals a b = is_numeral a && is_numeral b

-- whether two values are equal: as numbers where both are numerals, else as texts that are the same
abbrev pub are_equal : List ℕ → List ℕ → Bool
are_equal a b = if are_numerals a b then int_eq (value_of a) (value_of b) else same a b

-- how two texts stand in order: by their folded bytes
abbrev pub text_order : List ℕ → List ℕ → Ordering
text_order a b = slice_cmp nat_cmp (folded a) (folded b)

-- how two values stand in order: as numbers where both are numerals, else as texts
abbrev pub order_of : List ℕ → List ℕ → Ordering
order_of a b = if are_numerals a b then int_cmp (value_of a) (value_of b) else text_order a b

-- whether the value is of the type
abbrev pub is_a : ValueType → List ℕ → Bool
is_a value_type.Number t = is_numeral t
is_a value_type.Integer t = is_numeral t
is_a value_type.Logical t = same t (codes "true") || same t (codes "false")

-- whether a run of the second text is the same as the first
abbrev pub is_in : List ℕ → List ℕ → Bool
is_in run t = is_some (place_of run t)

-- what an operator of two operands gives
unfoldable pub binary : Op → List ℕ → List ℕ → Result (List ℕ) Fault
binary op.Or a b = in_words (on_truths (λ x y. x || y) a b)
binary op.And a b = in_words (on_truths (λ x y. x && y) a b)
binary op.Equal a b = Ok (word_of (are_equal a b))
binary op.NotEqual a b = Ok (word_of (not (are_equal a b)))
binary op.Less a b = Ok (word_of (is_lt (order_of a b)))
binary op.Greater a b = Ok (word_of (is_gt (order_of a b)))
binary op.LessOrEqual a b = Ok (word_of (is_le (order_of a b)))
binary op.GreaterOrEqual a b = Ok (word_of (is_ge (order_of a b)))
binary op.Contains a b = Ok (word_of (is_in b a))
binary op.IsIn a b = Ok (word_of (is_in a b))
binary op.IsNotIn a b = Ok (word_of (not (is_in a b)))
binary op.Join a b = within_limit (a ++ b)
binary op.JoinSpaced a b = within_limit (a ++ 32 ∷ b)
binary op.Add a b = in_numerals (on_numbers (λ x y. ranged (x +ℤ y)) a b)
binary op.Subtract a b = in_numerals (on_numbers (λ x y. ranged (x -ℤ y)) a b)
binary op.Multiply a b = in_numerals (on_numbers (λ x y. ranged (x *ℤ y)) a b)
binary op.Divide a b = in_numerals (on_numbers exact_quotient a b)
binary op.Div a b = in_numerals (on_numbers cut_quotient a b)
binary op.Mod a b = in_numerals (on_numbers remainder a b)
binary op.Power a b = in_numerals (on_numbers power a b)

-- the number that an operator of arithmetic gives of two numbers; none of the others, nor where it gives a fault
abbrev pub number_by : Op → ℤ → ℤ → Option ℤ
number_by op.Add x y = result_ok (ranged (x +ℤ y))
number_by op.Subtract x y = result_ok (ranged (x -ℤ y))
number_by op.Multiply x y = result_ok (ranged (x *ℤ y))
number_by op.Divide x y = result_ok (exact_quotient x y)
number_by op.Div x y = result_ok (cut_quotient x y)
number_by op.Mod x y = result_ok (remainder x y)
number_by op.Power x y = result_ok (power x y)
number_by _ x y = None

-- the truth value that a comparison gives of two numbers; none of the other operators
abbrev pub truth_by : Op → ℤ → ℤ → Option Bool
truth_by op.Equal x y = Some (int_eq x y)
truth_by op.NotEqual x y = Some (not (int_eq x y))
truth_by op.Less x y = Some (is_lt (int_cmp x y))
truth_by op.Greater x y = Some (is_gt (int_cmp x y))
truth_by op.LessOrEqual x y = Some (is_le (int_cmp x y))
truth_by op.GreaterOrEqual x y = Some (is_ge (int_cmp x y))
truth_by _ x y = None

-- what an operator of one operand gives
unfoldable pub unary : UnOp → List ℕ → Result (List ℕ) Fault
unary un_op.Minus a = in_numerals (and_then (number_of a) (λ x. ranged (neg_ℤ x)))
unary un_op.Not a = in_words (and_then (truth_of a) (λ x. Ok (not x)))
unary (un_op.IsA kind) a = Ok (word_of (is_a kind a))
unary (un_op.IsNotA kind) a = Ok (word_of (not (is_a kind a)))

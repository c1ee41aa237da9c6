-- Values that are kept as numbers or as truth values, beside their texts.
use Rattle.std.proofs.Common.{◌≡◌, refl, ap, ◌∙◌, sym, subst, ℕ, suc, ◌<◌, ◌≤◌, ◌^◌, Bool, true, false, List, [], ◌∷◌}
use Rattle.std.proofs.Common.{length, get_or, decimal, Ok, Err, Result, ℤ, pos, negsuc, SFits, lit<, lit≤, le_trans}
use Rattle.std.proofs.Common.{◌+◌, arith}
use Rattle.std.specs.Prelude.{IsTrue, if◌then◌else◌, SomeIff}
use Rattle.std.specs.Char.{is_ascii_digit, to_ascii_lowercase}
use Rattle.std.specs.List.{list_all}
use Rattle.std.specs.Prelude.{◌==◌}
use Rattle.std.specs.Result.{result_ok}
use Rattle.std.specs.Str.Parse.{AllDigits, digits_value}
use Rattle.std.proofs.lemmas.Bool.{false≢true}
use Rattle.std.proofs.lemmas.Bool.Decides.{nat_tests}
use Rattle.std.proofs.lemmas.Fmt.{decimal_is_IsNumeral, decimal-digits_value, length_signed_le}
use mir.Syntax.{w64}
use Rattle.std.proofs.lemmas.Str.Parse.{digit_from_value, numerals_by_value, tells_by_index}
use Rattle.ht_values.specs.declared.fault.Fault.{Fault}
use Rattle.ht_values.specs.declared.fault.Fault.TheVariants.{NotANumber, NotLogical, OutOfRange}
use Rattle.ht_values.specs.declared.text.TheConstants.{LIMIT}
use Rattle.ht_values.specs.Number.{is_in_range, is_numeral, number_of, ranged, value_of}
use Rattle.ht_values.specs.Operators.{truth_of, word_of}
use Rattle.ht_values.specs.Text.{numeral, same}
use Rattle.ht_values.proofs.Digits.{is_digit}
use Rattle.ht_values.proofs.Numerals.{numeral_spelled}
use Rattle.ht_values.proofs.ReadBack.{numerals_read_back, spelled_back}

in_range : (z : ℤ) → SFits w64 z → is_in_range z ≡ true
in_range (pos n) f = grind (arith, nat_tests, f.sfits)
in_range (negsuc n) f = grind (arith, nat_tests, f.sfits)

-- the number of a numeral
pub numeral_is_read : (z : ℤ) → SFits w64 z → number_of (numeral z) ≡ Ok z
numeral_is_read z f = numerals_read_back z (in_range z f)

-- a numeral is one
pub numeral_is_one : (z : ℤ) → SFits w64 z → IsTrue (is_numeral (numeral z)) × (z ≡ value_of (numeral z))
numeral_is_one z f =
    let t = numeral z in
    subst (λ r. SomeIff (result_ok r) (IsTrue (is_numeral t)) (value_of t)) (spelled_back z (in_range z f))
    (numeral_spelled t)

pub word_is_no_number : (b : Bool) → number_of (word_of b) ≡ Err NotANumber
unfolding number_of
word_is_no_number true = refl
word_is_no_number false = refl

pub word_is_no_numeral : (b : Bool) → ¬ (IsTrue (is_numeral (word_of b)))
word_is_no_numeral true = λ e. false≢true e
word_is_no_numeral false = λ e. false≢true e

pub word_is_true : (b : Bool) → truth_of (word_of b) ≡ Ok b
word_is_true true = refl
word_is_true false = refl

-- a text whose first byte stands before the letters is the same as no word
no_word : (c w : ℕ) (cs ws : List ℕ) → c < 65 → 97 ≤ w → same (c ∷ cs) (w ∷ ws) ≡ false
no_word c w cs ws low high =
    let e : (to_ascii_lowercase c == to_ascii_lowercase w) ≡ false = grind (arith, nat_tests) in
    rw e refl

no_truth : (c : ℕ) (cs : List ℕ) → c < 65 → truth_of (c ∷ cs) ≡ Err NotLogical
no_truth c cs low =
    rw (
      no_word c 116 cs (114 ∷ 117 ∷ 101 ∷ []) low (lit≤ tt),
      no_word c 102 cs (97 ∷ 108 ∷ 115 ∷ 101 ∷ []) low
          (lit≤ tt),
    ) refl

no_truth_of : (ds : List ℕ) → 0 < length ds → AllDigits 10 ds → truth_of ds ≡ Err NotLogical
no_truth_of [] some digits = absurd (omega arith)
no_truth_of (c ∷ cs) some digits = let d = digit_from_value c digits.0 in no_truth c cs (omega arith)

-- a numeral is no truth value
pub numeral_is_no_truth : (z : ℤ) → SFits w64 z → truth_of (numeral z) ≡ Err NotLogical
numeral_is_no_truth (pos n) f =
    let d = decimal_is_IsNumeral n (omega (arith, f.sfits)) in no_truth_of (decimal n) d.0.0 d.0.1
numeral_is_no_truth (negsuc n) f = no_truth 45 (decimal (suc n)) (lit< tt)

plain : (ds : List ℕ) → list_all is_ascii_digit ds ≡ true → 0 < length ds → (get_or ds 0 0 ≡ 48 → length ds ≡ 1)
    → digits_value 10 ds < 2 ^ 64 → decimal (digits_value 10 ds) ≡ ds
plain ds all some lead small =
    decimal-digits_value (numerals_by_value _ tells_by_index) ds (λ i h. is_digit ds i all h) some lead small

abbrev number_in : Result ℤ Fault → ℤ
number_in (Ok z) = z
number_in (Err e) = pos 0

abbrev is_number : Result ℤ Fault → Bool
is_number (Ok z) = true
is_number (Err e) = false

-- digits without a zero in front are the numeral of their number
pub plain_is_spelled : (ds : List ℕ) (n : ℤ) (size : ℕ) → list_all is_ascii_digit ds ≡ true → 0 < length ds
    → (get_or ds 0 0 ≡ 48 → length ds ≡ 1) → digits_value 10 ds < 2 ^ 64 → size ≡ digits_value 10 ds
    → ranged (pos size) ≡ Ok n → numeral n ≡ ds
plain_is_spelled ds n size all some lead small is e = by (is_in_range (pos size)) refl
  where
    ranged_by : (b : Bool) → is_in_range (pos size) ≡ b → (if b then Ok (pos size) else Err OutOfRange) ≡ Ok n
    ranged_by b h = sym (ap (λ v. if v then Ok (pos size) else Err OutOfRange) h) ∙ e

    by : (b : Bool) → is_in_range (pos size) ≡ b → numeral n ≡ ds
    by true h = ap (λ r. numeral (number_in r)) (sym (ranged_by true h)) ∙ ap decimal is ∙ plain ds all some lead small
    by false h = absurd (false≢true (ap is_number (ranged_by false h)))

-- both are short
pub numeral_fits : (z : ℤ) → SFits w64 z → length (numeral z) ≤ LIMIT
numeral_fits z f = let short = length_signed_le 20 z (le_trans (omega (arith, f.sfits)) big) (omega (arith, f.sfits)) in
    omega (arith, short)
  where
    big : 2 ^ 63 + 1 ≤ 10 ^ 20
    big = lit≤ tt

pub word_fits : (b : Bool) → length (word_of b) ≤ LIMIT
word_fits true = lit≤ tt
word_fits false = lit≤ tt

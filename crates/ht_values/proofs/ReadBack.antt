-- The numeral of a number is read back.
use Rattle.std.proofs.Common.{◌≡◌, ◌≢◌, refl, ◌∙◌, ap, ℕ, suc, ◌+◌, ◌-◌, ◌^◌, ◌<◌, ◌≤◌, true, false, not, ◌&&◌, cond}
use Rattle.std.proofs.Common.{nat_lt, ◌==◌, List, [], ◌∷◌, length, take, drop, get_or, decimal, Ok, Err, ℤ, pos}
use Rattle.std.proofs.Common.{negsuc, neg_ℤ, arith}
use Rattle.std.specs.Prelude.{if◌then◌else◌}
use Rattle.std.specs.Char.{is_ascii_digit}
use Rattle.std.specs.Int.{IsInRange}
use Rattle.std.specs.List.{list_all, prefix_len, suffix_len}
use Rattle.std.specs.Str.Parse.{AllDigits, digits_value}
use Rattle.std.proofs.lemmas.Fmt.{decimal_is_IsNumeral}
use Rattle.std.proofs.lemmas.List.{take_all}
use Rattle.std.proofs.lemmas.List.Sums.{suffix_len_is}
use Rattle.std.proofs.lemmas.Str.Parse.{digit_at, digit_from_value}
use Rattle.ht_values.specs.declared.fault.Fault.TheVariants.{NotANumber, OutOfRange}
use Rattle.ht_values.specs.Laws.{NumeralsReadBack}
use Rattle.ht_values.specs.Number.{are_digits, is_in_range, is_space, number_of, ranged, spelled, trimmed}
use Rattle.ht_values.specs.Number.{without_front_spaces}
use Rattle.ht_values.specs.Text.{numeral}

-- a text whose first and last bytes are no spaces stays as it is
kept : (b : ℕ) (bs : List ℕ) → b ≢ 32 → get_or (b ∷ bs) (length bs) 0 ≢ 32 → trimmed (b ∷ bs) ≡ b ∷ bs
kept b bs first last =
    let t : List ℕ = b ∷ bs in
    let no_first : is_space b ≡ false = grind arith in
    let front : without_front_spaces t ≡ t = ap (λ v. drop (cond v (1 + prefix_len is_space bs) 0) t) no_first in
    let at_end : suc (length bs) - 1 ≡ length bs = omega arith in
    let no_last : is_space (get_or t (suc (length bs) - 1) 0) ≡ false =
    ap (λ n. is_space (get_or t n 0)) at_end ∙ (grind arith) in
    let back : suffix_len is_space t ≡ length t - length t =
    suffix_len_is is_space t (length t) 0 (omega arith) (λ k low high. absurd (omega arith)) (λ some. no_last) in
    ap (λ rest. take (length rest - suffix_len is_space rest) rest) front
    ∙ take_all (length t - suffix_len is_space t) t (omega arith)

all_digits : (ds : List ℕ) → AllDigits 10 ds → list_all is_ascii_digit ds ≡ true
all_digits [] h = refl
all_digits (c ∷ cs) h =
    let d = digit_from_value c h.0 in
    let one : is_ascii_digit c ≡ true = by c d in
    ap (λ v. v && list_all is_ascii_digit cs) one ∙ all_digits cs h.1
  where
    by : (c : ℕ) → IsInRange 48 57 c → is_ascii_digit c ≡ true
    by c d = grind arith

-- digits without a sign
module _ (c : ℕ) (cs : List ℕ) (digits : AllDigits 10 (c ∷ cs)) where
  first_digit : (48 ≤ c) × (c ≤ 57)
  first_digit = let d = digit_from_value c digits.0 in (omega arith, omega arith)

  last_digit : get_or (c ∷ cs) (length cs) 0 ≢ 32
  last_digit e = let d = digit_at (c ∷ cs) (length cs) digits (omega arith) in absurd (omega arith)

  trimmed_digits : trimmed (c ∷ cs) ≡ c ∷ cs
  trimmed_digits = kept c cs (λ e. omega (arith, first_digit.0)) last_digit

  are_all : are_digits (c ∷ cs) ≡ true
  are_all = let some : (suc (length cs) == 0) ≡ false =
      grind arith in ap (λ v. not v && list_all is_ascii_digit (c ∷ cs)) some ∙ all_digits (c ∷ cs) digits

  no_minus : (c == 45) ≡ false
  no_minus = let low = first_digit.0 in grind arith

  plain_spelled : spelled (c ∷ cs) ≡ ranged (pos (digits_value 10 (c ∷ cs)))
  plain_spelled =
      let t : List ℕ = c ∷ cs in
      ap (λ v. if are_digits (if v then drop 1 t else t) then ranged
      (if v then neg_ℤ (pos (digits_value 10 (drop 1 t))) else pos (digits_value 10 t)) else Err NotANumber)
      no_minus
      ∙ ap (λ v. if v then ranged (pos (digits_value 10 t)) else Err NotANumber) are_all

  plain_trimmed : spelled (trimmed (c ∷ cs)) ≡ ranged (pos (digits_value 10 (c ∷ cs)))
  plain_trimmed = ap spelled trimmed_digits ∙ plain_spelled

  signed_spelled : spelled (45 ∷ c ∷ cs) ≡ ranged (neg_ℤ (pos (digits_value 10 (c ∷ cs))))
  signed_spelled = ap (λ v. if v then ranged (neg_ℤ (pos (digits_value 10 (c ∷ cs)))) else Err NotANumber) are_all

  signed_trimmed : spelled (trimmed (45 ∷ c ∷ cs)) ≡ ranged (neg_ℤ (pos (digits_value 10 (c ∷ cs))))
  signed_trimmed = ap spelled (kept 45 (c ∷ cs) (λ e. omega arith) last_digit) ∙ signed_spelled

plain_trimmed_of : (ds : List ℕ) → 0 < length ds → AllDigits 10 ds
    → spelled (trimmed ds) ≡ ranged (pos (digits_value 10 ds))
plain_trimmed_of [] some digits = absurd (omega arith)
plain_trimmed_of (c ∷ cs) some digits = plain_trimmed c cs digits

signed_trimmed_of : (ds : List ℕ) → 0 < length ds → AllDigits 10 ds
    → spelled (trimmed (45 ∷ ds)) ≡ ranged (neg_ℤ (pos (digits_value 10 ds)))
signed_trimmed_of [] some digits = absurd (omega arith)
signed_trimmed_of (c ∷ cs) some digits = signed_trimmed c cs digits

within : (z : ℤ) → is_in_range z ≡ true → ranged z ≡ Ok z
within z h = ap (λ v. if v then Ok z else Err OutOfRange) h

below : (n : ℕ) → nat_lt n (2 ^ 63) ≡ true → n < 2 ^ 63
below n h = grind arith

-- it is a numeral
pub spelled_back : (z : ℤ) → is_in_range z ≡ true → spelled (trimmed (numeral z)) ≡ Ok z
spelled_back (pos n) h =
    let small : n < 2 ^ 63 = below n h in
    let d = decimal_is_IsNumeral n (omega arith) in
    plain_trimmed_of (decimal n) d.0.0 d.0.1 ∙ ap (λ m. ranged (pos m)) d.1 ∙ within (pos n) h
spelled_back (negsuc n) h =
    let small : n < 2 ^ 63 = below n h in
    let d = decimal_is_IsNumeral (suc n) (omega arith) in
    signed_trimmed_of (decimal (suc n)) d.0.0 d.0.1 ∙ ap (λ m. ranged (neg_ℤ (pos m))) d.1 ∙ within (negsuc n) h

-- no number is spelled by nothing
some_digits : (inner : List ℕ) (z : ℤ) → spelled inner ≡ Ok z
    → (if length inner == 0 then Ok (pos 0) else spelled inner) ≡ Ok z
some_digits [] z e = let no : ⊥ = cc in absurd no
some_digits (c ∷ cs) z e = let some : (suc (length cs) == 0)
    ≡ false = grind arith in ap (λ v. if v then Ok (pos 0) else spelled (c ∷ cs)) some ∙ e

pub numerals_read_back : NumeralsReadBack
unfolding number_of
numerals_read_back z h = some_digits (trimmed (numeral z)) z (spelled_back z h)

-- Digits, read from the left.
use Rattle.std.proofs.Common.{◌≡◌, refl, sym, ◌∙◌, ap, ℕ, ◌+◌, ◌-◌, ◌*◌, ◌<◌, ◌≤◌, Bool, true, false, List, length}
use Rattle.std.proofs.Common.{take, get_or, arith}
use Rattle.std.specs.Prelude.{slice_index}
use Rattle.std.specs.Char.{is_ascii_digit, digit_value}
use Rattle.std.specs.List.{list_all}
use Rattle.std.specs.Str.Parse.{digits_value}
use Rattle.std.proofs.lemmas.Bool.{false≢true}
use Rattle.std.proofs.lemmas.List.{take_all}
use Rattle.std.proofs.lemmas.List.Folds.{list_all_at}
use Rattle.std.proofs.lemmas.Int.Digits.{digits_value_more}
use Rattle.std.proofs.lemmas.Str.Parse.{digits_value-take-le}

digit_by : (c : ℕ) → is_ascii_digit c ≡ true → (48 ≤ c) × (c ≤ 57)
digit_by c e = (grind arith, grind arith)

all_by : (ds : List ℕ) (i : ℕ) (v : Bool) → is_ascii_digit (get_or ds i 0) ≡ v → list_all is_ascii_digit ds ≡ true
    → i < length ds → is_ascii_digit (get_or ds i 0) ≡ true
all_by ds i true e all below = e
all_by ds i false e all below = absurd (false≢true (sym (list_all_at is_ascii_digit ds i 0 below e) ∙ all))

value_by : (c : ℕ) → 48 ≤ c → c ≤ 57 → digit_value c ≡ c - 48
value_by c low high = grind arith

-- each byte of digits is one
pub is_digit : (ds : List ℕ) (i : ℕ) → list_all is_ascii_digit ds ≡ true → i < length ds
    → (48 ≤ slice_index ds i) × (slice_index ds i ≤ 57)
is_digit ds i all below = digit_by (get_or ds i 0) (all_by ds i (is_ascii_digit (get_or ds i 0)) refl all below)

-- one more digit
pub one_more : (ds : List ℕ) (i : ℕ) → list_all is_ascii_digit ds ≡ true → i < length ds
    → digits_value 10 (take (i + 1) ds) ≡ digits_value 10 (take i ds) * 10 + (slice_index ds i - 48)
one_more ds i all below =
    let d = is_digit ds i all below in
    digits_value_more 10 ds i below ∙ ap (λ n. digits_value 10 (take i ds) * 10 + n) (value_by (get_or ds i 0) d.0 d.1)

-- more digits spell no less
pub no_less : (ds : List ℕ) (i : ℕ) → digits_value 10 (take i ds) ≤ digits_value 10 ds
no_less ds i = digits_value-take-le 10 ds i (omega arith)

pub all_read : (ds : List ℕ) (i : ℕ) → length ds ≤ i → digits_value 10 (take i ds) ≡ digits_value 10 ds
all_read ds i past = ap (digits_value 10) (take_all i ds past)

-- Numbers and their one spelling.
use Rattle.std.proofs.Common.{◌≡◌, Option, None, ◌≢◌, ℕ, zero, suc, ◌+◌, ◌-◌, ◌*◌, ◌^◌, ◌<◌, ◌≤◌, true, false, eqb, ltb}
use Rattle.std.proofs.Common.{leb, List, [], ◌∷◌, length, get_or, Some, refl, sym, ap, ◌∙◌, arith, rules, lit<, lit≤}
use Rattle.std.proofs.Common.{inl, inr, ◌||◌, ◌&&◌, ◌==◌, not, decimal, IfSome, IfNone}
use Rattle.std.specs.Int.{IsInRange}
use Rattle.std.specs.Str.{all_ascii_digits}
use Rattle.std.proofs.lemmas.Bool.Decides.{nat_tests, eqb_tells}
use Rattle.std.proofs.lemmas.Fmt.{digits_decimal, digits_value-decimal, length-decimal-le, decimal_nonempty}
use Rattle.std.proofs.lemmas.Fmt.{first_decimal, decimal_digit, decimal-digits_value}
use Rattle.std.proofs.lemmas.List.{get_or_default}
use Rattle.std.proofs.lemmas.List.Folds.{list_any_none}
use Rattle.std.proofs.lemmas.Str.Parse.{IsNumeralModel, numerals_by_fold, not_in_digits, digits_value_short}
use Rattle.std.proofs.lemmas.Bool.{and_parts}
use Rattle.stack_text.specs.Words.{digits_after, is_misspelled, number_at}
use Rattle.stack_text.proofs.Keyed.{has, Spelled, then_given, else_given}

-- the number whose digits follow those of n
abbrev read_on : ℕ → List ℕ → ℕ
read_on n [] = n
read_on n (d ∷ ds) = read_on (n * 10 + (d - 48)) ds

own : IsNumeralModel (λ ds. all_ascii_digits ds ≡ true) (read_on 0)
own = numerals_by_fold _ (search rules) read_on (search rules)

digits_after-found : (ds : List ℕ) (n m : ℕ) → digits_after n ds ≡ Some m
    → (all_ascii_digits ds ≡ true) × (read_on n ds ≡ m)
digits_after-found [] n m e = (refl, cc)
digits_after-found (d ∷ ds) n m e =
    let p = then_given (leb 48 d && leb d 57) (digits_after (n * 10 + (d - 48)) ds) m e in
    let others = digits_after-found ds (n * 10 + (d - 48)) m p.1 in
    (rw (p.0, others.0) refl, others.1)

digits_after-again : (ds : List ℕ) (n : ℕ) → all_ascii_digits ds ≡ true → digits_after n ds ≡ Some (read_on n ds)
digits_after-again [] n e = refl
digits_after-again (d ∷ ds) n e =
    let p = and_parts (leb 48 d && leb d 57) (all_ascii_digits ds) e in
    let others = digits_after-again ds (n * 10 + (d - 48)) p.1 in
    rw (p.0, others) refl

short : (d n : ℕ) → (ltb 6 n || (eqb d 48 && not (eqb n 0))) ≡ false → n ≤ 6
short d n e = grind (arith, nat_tests)

no_zero : (d n : ℕ) → (ltb 6 n || (eqb d 48 && not (eqb n 0))) ≡ false → d ≡ 48 → n ≡ 0
no_zero d n e is = grind (arith, nat_tests)

spelled_well : (d n : ℕ) → n ≤ 6 → (d ≡ 48 → n ≡ 0) → (ltb 6 n || (eqb d 48 && not (eqb n 0))) ≡ false
spelled_well d n few h = grind (arith, nat_tests, h)

-- what the tests of a spelling say
record IsWell (ds : List ℕ) : Type 0 where
  some : 0 < length ds
  few : length ds ≤ 7
  zero_alone : get_or ds 0 0 ≡ 48 → length ds ≡ 1

well : (ds : List ℕ) → is_misspelled ds ≡ false → IsWell ds
well [] e = absurd cc
well (d ∷ ds) e =
    let few = short d (length ds) e in
    record { some = omega arith; few = omega arith; zero_alone = λ is. ap suc (no_zero d (length ds) e is) }

well-again : (ds : List ℕ) → IsWell ds → is_misspelled ds ≡ false
well-again [] w = absurd (let h : 0 < 0 = w.some in omega arith)
well-again (d ∷ ds) w =
    let few : suc (length ds) ≤ 7 = w.few in
    spelled_well d (length ds) (omega arith) (λ is. let one : suc (length ds) ≡ 1 = w.zero_alone is in omega arith)

digits_alone : (c : ℕ) (ds : List ℕ) → all_ascii_digits ds ≡ true → (IsInRange 48 57 c → ⊥) → has c ds ≡ false
digits_alone c ds all out = list_any_none (λ x. x == c) ds (λ k d lt.
    elim (eqb_tells (get_or ds k d) c) [
      | inl h ↦ absurd (not_in_digits own ds c all out k lt (get_or_default ds k 0 d lt ∙ h.1))
      | inr h ↦ h.0
    ])

decimal-well : (n : ℕ) → n < 10 ^ 7 → IsWell (decimal n)
decimal-well zero lt = rw (decimal_digit 0 (lit< tt)) (record { some = lit< tt; few = lit≤ tt; zero_alone = λ e. refl })
decimal-well (suc n) lt =
    let small : suc n < 2 ^ 64 = omega arith in
    let first = first_decimal (suc n) (omega arith) small in
    record {
      some = decimal_nonempty (suc n) small;
      few = length-decimal-le 7 (suc n) (lit< tt) lt small;
      zero_alone = λ e. absurd (omega arith);
    }

number-found : (word : List ℕ) (n : ℕ) → number_at word ≡ Some n → (n < 10 ^ 7) × (word ≡ decimal n)
number-found word n e =
    let p = else_given (is_misspelled word) (digits_after 0 word) n e in
    let w = well word p.0 in
    let q = digits_after-found word 0 n p.1 in
    let low : read_on 0 word < 10 ^ 7 = digits_value_short own word 7 q.0 w.few in
    let back = decimal-digits_value own word q.0 w.some w.zero_alone (omega arith) in
    (rw (← q.1) low, sym back ∙ ap decimal q.1)

number-again : (n : ℕ) → n < 10 ^ 7 → number_at (decimal n) ≡ Some n
number-again n lt =
    let small : n < 2 ^ 64 = omega arith in
    let all = digits_decimal own n small in
    let value = digits_value-decimal own n small in
    rw (well-again (decimal n) (decimal-well n lt), digits_after-again (decimal n) 0 all, value) refl

pub has-decimal : (c n : ℕ) → n < 10 ^ 7 → (IsInRange 48 57 c → ⊥) → has c (decimal n) ≡ false
has-decimal c n lt out = digits_alone c (decimal n) (digits_decimal own n (omega arith)) out

-- the numbers below 10,000,000, each in its one spelling
pub numbers : Spelled number_at (λ n. n < 10 ^ 7) decimal
numbers = record { found = number-found; again = number-again; line = λ n lt. has-decimal 10 n lt (λ h. omega arith) }

-- bytes that are read as no number spell none
no_number : (bytes : List ℕ) → number_at bytes ≡ None → (n : ℕ) → n < 10 ^ 7 → bytes ≢ decimal n
no_number bytes none n small is =
    let again : number_at bytes ≡ Some n = ap number_at is ∙ number-again n small in
    cc

pub number_known : (bytes : List ℕ) (o : Option ℕ) → o ≡ number_at bytes
    → IfSome o (λ n. (n < 10 ^ 7) × (bytes ≡ decimal n))
number_known bytes None is = tt
number_known bytes (Some n) is = number-found bytes n (sym is)

pub number_unknown : (bytes : List ℕ) (o : Option ℕ) → o ≡ number_at bytes
    → IfNone o ((n : ℕ) → n < 10 ^ 7 → bytes ≢ decimal n)
number_unknown bytes None is = no_number bytes (sym is)
number_unknown bytes (Some n) is = tt

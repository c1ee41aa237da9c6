-- Where a byte comes first.
use Rattle.std.proofs.Common.{◌≡◌, ℕ, ◌<◌, ◌≤◌, Bool, true, false, List, length, get_or, sym, ap, ◌∙◌, arith, refl}
use Rattle.std.proofs.Common.{Option, Some, None, IfSome, ltb, cond, position, not, All, ◌==◌}
use Rattle.std.specs.List.{position_or_len}
use Rattle.std.proofs.lemmas.Bool.Decides.{nat_tests}
use Rattle.std.proofs.lemmas.List.Sums.{prefix_len_is, prefix_len_passes}
use Rattle.std.proofs.lemmas.Bool.{not-true}
use Rattle.memchr.specs.Find.{IsFirstByte, is_byte}

-- ---- what a place says

pub place-is : (p : ℕ → Bool) (xs : List ℕ) (i : ℕ) → position p xs ≡ Some i
    → (position_or_len p xs ≡ i) × (position_or_len p xs < length xs)
place-is p xs i at = by (ltb (position_or_len p xs) (length xs)) refl at
  where
    by : (b : Bool) → ltb (position_or_len p xs) (length xs) ≡ b → cond b (Some (position_or_len p xs)) None ≡ Some i
        → (position_or_len p xs ≡ i) × (position_or_len p xs < length xs)
    by true e is = (cc, grind (arith, nat_tests))
    by false e is = absurd cc

no_place : (p : ℕ → Bool) (xs : List ℕ) → position p xs ≡ None → length xs ≤ position_or_len p xs
no_place p xs none = by (ltb (position_or_len p xs) (length xs)) refl none
  where
    by : (b : Bool) → ltb (position_or_len p xs) (length xs) ≡ b → cond b (Some (position_or_len p xs)) None ≡ None
        → length xs ≤ position_or_len p xs
    by true e is = absurd cc
    by false e is = grind (arith, nat_tests)

pub all-other : (p : ℕ → Bool) (xs : List ℕ) → position p xs ≡ None → All (λ x. p x ≡ false) xs
all-other p xs none k d low =
    let past = no_place p xs none in
    not-true (p (get_or xs k d)) (prefix_len_passes (λ x. not (p x)) xs k d (omega arith))

-- ---- a search that gives the first place

other : (b : Bool) → (b ≡ true → ⊥) → not b ≡ true
other true never = absurd (never refl)
other false never = refl

pub first_place : (byte : ℕ) (bytes : List ℕ) (r : Option ℕ) → IsFirstByte (is_byte byte) bytes r
    → (r ≡ position (λ b. b == byte) bytes) × IfSome r (λ i. i < length bytes)
first_place byte bytes None h =
    let n : position_or_len (λ b. b == byte) bytes ≡ length bytes = prefix_len_is (λ b. not (b == byte)) bytes
    (length bytes) 0 (omega arith) (λ k low. other (get_or bytes k 0 == byte) (h k (omega arith) low))
    (λ past. absurd (omega (arith, past))) in
    let past : ltb (length bytes) (length bytes) ≡ false = grind (arith, nat_tests) in (
      sym (ap (λ m. cond (ltb m (length bytes)) (Some m) None) n
          ∙ ap (λ b. cond b (Some (length bytes)) None) past),
      tt,
    )
first_place byte bytes (Some k) h =
    let low = h.0.high in
    let n : position_or_len (λ b. b == byte) bytes ≡ k = prefix_len_is (λ b. not (b == byte)) bytes k 0 (omega arith)
    (λ j few. other (get_or bytes j 0 == byte) (h.0.before j (omega arith) few)) (λ _. ap not h.1) in
    let within : ltb k (length bytes) ≡ true = grind (arith, nat_tests) in
    (sym (ap (λ m. cond (ltb m (length bytes)) (Some m) None) n ∙ ap (λ b. cond b (Some k) None) within), low)

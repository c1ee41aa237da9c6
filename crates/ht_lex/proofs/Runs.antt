-- Runs of bytes that pass a test.
use Rattle.std.proofs.Common.{◌≡◌, ℕ, zero, suc, ◌+◌, ◌<◌, ◌≤◌, List, [], ◌∷◌, ◌++◌, Bool, true, false, length, take}
use Rattle.std.proofs.Common.{cond, refl, sym, ap, ◌∙◌, subst, arith, slice_index}
use Rattle.std.specs.Cmp.{first_so, second_so}
use Rattle.std.specs.Cmp.Derive.{both_true}
use Rattle.std.specs.List.{list_all, prefix_len}

pub run_on : (p : ℕ → Bool) (x : ℕ) (xs : List ℕ) → p x ≡ true → prefix_len p (x ∷ xs) ≡ suc (prefix_len p xs)
run_on p x xs e =
    let n : 1 + prefix_len p xs ≡ suc (prefix_len p xs) = omega arith in ap (λ b. cond b (1 + prefix_len p xs) 0) e ∙ n

run_off : (p : ℕ → Bool) (x : ℕ) (xs : List ℕ) → p x ≡ false → prefix_len p (x ∷ xs) ≡ 0
run_off p x xs e = ap (λ b. cond b (1 + prefix_len p xs) 0) e

-- What begins a text and passes is no longer than the run.
pub passing_le : (p : ℕ → Bool) (q r : List ℕ) → list_all p q ≡ true → length q ≤ prefix_len p (q ++ r)
passing_le p [] r e = omega arith
passing_le p (x ∷ q) r e = omega
    (arith, run_on p x (q ++ r) (first_so (p x) (list_all p q) e), passing_le p q r (second_so (p x) (list_all p q) e))

pub run_passes : (p : ℕ → Bool) (xs : List ℕ) → list_all p (take (prefix_len p xs) xs) ≡ true
run_passes p [] = refl
run_passes p (x ∷ xs) = go (p x) refl (run_passes p xs)
  where
    go : (b : Bool) → p x ≡ b → list_all p (take (prefix_len p xs) xs) ≡ true
        → list_all p (take (prefix_len p (x ∷ xs)) (x ∷ xs)) ≡ true
    go true e h = subst (λ n. list_all p (take n (x ∷ xs)) ≡ true) (sym (run_on p x xs e)) (both_true e h)
    go false e h = subst (λ n. list_all p (take n (x ∷ xs)) ≡ true) (sym (run_off p x xs e)) refl

pub run_begins : (p : ℕ → Bool) (xs : List ℕ) → p 0 ≡ false → p (slice_index xs 0) ≡ true → 0 < prefix_len p xs
run_begins p [] e f = cc
run_begins p (x ∷ xs) e f = omega (arith, run_on p x xs f)

pub run_within : (p : ℕ → Bool) (xs : List ℕ) → prefix_len p xs ≤ length xs
run_within p [] = omega arith
run_within p (x ∷ xs) = go (p x) refl (run_within p xs)
  where
    go : (b : Bool) → p x ≡ b → prefix_len p xs ≤ length xs → prefix_len p (x ∷ xs) ≤ length (x ∷ xs)
    go true e h = omega (arith, run_on p x xs e)
    go false e h = omega (arith, run_off p x xs e)

-- A run that a byte closes.
pub closed_len : (p : ℕ → Bool) (w r : List ℕ) (c : ℕ) → list_all p w ≡ true → p c ≡ false
    → prefix_len p ((w ++ c ∷ []) ++ r) ≡ length w
closed_len p [] r c e f = run_off p c r f
closed_len p (x ∷ w) r c e f = run_on p x ((w ++ c ∷ []) ++ r) (first_so (p x) (list_all p w) e)
    ∙ ap suc (closed_len p w r c (second_so (p x) (list_all p w) e) f)

pub closed_at : (w r : List ℕ) (c : ℕ) → slice_index ((w ++ c ∷ []) ++ r) (length w) ≡ c
closed_at [] r c = refl
closed_at (x ∷ w) r c = closed_at w r c

-- The run and the byte that closes it, which isn't 0.
pub closed_take : (k : ℕ) (xs : List ℕ) (c : ℕ) → slice_index xs k ≡ c → 0 < c → take (suc k) xs ≡ take k xs ++ c ∷ []
closed_take k [] c e f = absurd (omega arith)
closed_take zero (x ∷ xs) c e f = ap (λ v. v ∷ []) e
closed_take (suc k) (x ∷ xs) c e f = ap (λ v. x ∷ v) (closed_take k xs c e f)

pub closed_within : (k : ℕ) (xs : List ℕ) → 0 < slice_index xs k → k < length xs
closed_within k [] f = absurd (omega arith)
closed_within zero (x ∷ xs) f = omega arith
closed_within (suc k) (x ∷ xs) f = omega (arith, closed_within k xs f)

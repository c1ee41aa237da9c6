-- An id put right behind another.
use Rattle.std.proofs.Common.{◌≡◌, ℕ, suc, ◌+◌, ◌<◌, ◌≤◌, min, Bool, true, false, cond, not, List, [], ◌∷◌, ◌++◌}
use Rattle.std.proofs.Common.{length, take, drop, get_or, nat_eq, nat_lt, refl, sym, ap, ◌∙◌, arith, Some, None}
use Rattle.std.proofs.Common.{option_map, unwrap_or, slice_get, if◌then◌else◌}
use Rattle.std.proofs.lemmas.Bool.Decides.{nat_tests}
use Rattle.std.proofs.lemmas.List.{at_drop_more, drop_all}
use Rattle.std.specs.List.{position_or_len}
use Rattle.object_table.specs.Numbers.{number_in}
use Rattle.structural_changes.specs.Writes.{insert_after, behind, first_or, following}

-- how many stand up to an id and with it, or all where it isn't there
counted : ℕ → List ℕ → ℕ
counted place [] = 0
counted place (x ∷ xs) = if nat_eq x place then 1 else suc (counted place xs)

counted-inserts : (place id : ℕ) (xs : List ℕ)
    → take (counted place xs) xs ++ id ∷ drop (counted place xs) xs ≡ insert_after place id xs
unfolding counted
counted-inserts place id [] = refl
counted-inserts place id (x ∷ xs) = by (counted-inserts place id xs) (nat_eq x place)
  where
    by : take (counted place xs) xs ++ id ∷ drop (counted place xs) xs ≡ insert_after place id xs → (b : Bool)
        → take (if b then 1 else suc (counted place xs)) (x ∷ xs) ++ id
        ∷ drop (if b then 1 else suc (counted place xs)) (x ∷ xs)
        ≡ (if b then x ∷ id ∷ xs else x ∷ insert_after place id xs)
    by rest true = refl
    by rest false = ap (λ l. x ∷ l) rest

counted_is : (place : ℕ) (xs : List ℕ)
    → counted place xs ≡ min (position_or_len (λ x. nat_eq x place) xs + 1) (length xs)
unfolding counted
counted_is place [] = omega arith
counted_is place (x ∷ xs) = by (counted_is place xs) (nat_eq x place)
  where
    by : counted place xs ≡ min (position_or_len (λ y. nat_eq y place) xs + 1) (length xs) → (b : Bool)
        → (if b then 1 else suc (counted place xs))
        ≡ min (cond (not b) (1 + position_or_len (λ y. nat_eq y place) xs) 0 + 1) (suc (length xs))
    by rest true = omega arith
    by rest false = omega arith

-- the number of an id, or of all ids
at_most : (k n : ℕ) → min (unwrap_or (option_map (λ i. i + 1) (cond (nat_lt k n) (Some k) None)) n) n ≡ min (k + 1) n
at_most k n = by (nat_lt k n) refl
  where
    by : (b : Bool) → nat_lt k n ≡ b
        → min (unwrap_or (option_map (λ i. i + 1) (cond b (Some k) None)) n) n ≡ min (k + 1) n
    by true q = refl
    by false q = let many : n ≤ k = grind (arith, nat_tests, q) in omega arith

pub inserted : (place id : ℕ) (xs : List ℕ)
    → let at : ℕ = min (unwrap_or (number_in place xs) (length xs)) (length xs) in take at xs ++ id ∷ drop at xs
    ≡ insert_after place id xs
inserted place id xs = ap (λ at. take at xs ++ id ∷ drop at xs)
    (at_most (position_or_len (λ x. nat_eq x place) xs) (length xs) ∙ sym (counted_is place xs))
    ∙ counted-inserts place id xs

-- ---- what follows an id

counted-behind : (place : ℕ) (xs : List ℕ) → behind place xs ≡ drop (counted place xs) xs
unfolding counted
counted-behind place [] = refl
counted-behind place (x ∷ xs) = by (counted-behind place xs) (nat_eq x place)
  where
    by : behind place xs ≡ drop (counted place xs) xs → (b : Bool)
        → (if b then xs else behind place xs) ≡ drop (if b then 1 else suc (counted place xs)) (x ∷ xs)
    by rest true = refl
    by rest false = rest

where_behind : (place : ℕ) (xs : List ℕ)
    → behind place xs ≡ drop (min (position_or_len (λ x. nat_eq x place) xs + 1) (length xs)) xs
where_behind place xs = counted-behind place xs ∙ ap (λ k. drop k xs) (counted_is place xs)

-- behind the last one stands nothing, so the first one follows
first_again : (place : ℕ) (xs : List ℕ) → length xs ≤ position_or_len (λ x. nat_eq x place) xs + 1
    → following place xs ≡ first_or place xs
first_again place xs past =
    let k : ℕ = min (position_or_len (λ x. nat_eq x place) xs + 1) (length xs) in
    let all : length xs ≤ k = omega arith in
    ap (λ l. first_or place (l ++ xs)) (where_behind place xs ∙ drop_all k xs all)

first_is : (place d : ℕ) (xs : List ℕ) → 0 < length xs → first_or place xs ≡ get_or xs 0 d
first_is place d [] some = absurd (omega arith)
first_is place d (x ∷ xs) some = refl

-- the id at the number of another stands right behind it
pub followed_by : (place d : ℕ) (xs : List ℕ) → unwrap_or (number_in place xs) 0 < length xs
    → get_or xs (unwrap_or (number_in place xs) 0) d ≡ following place xs
followed_by place d xs = by (nat_lt (position_or_len (λ x. nat_eq x place) xs) (length xs)) refl
  where
    by : (b : Bool) → nat_lt (position_or_len (λ x. nat_eq x place) xs) (length xs) ≡ b
        → unwrap_or (option_map (λ i. i + 1) (cond b (Some (position_or_len (λ x. nat_eq x place) xs)) None)) 0
        < length xs → get_or xs (unwrap_or
        (option_map (λ i. i + 1) (cond b (Some (position_or_len (λ x. nat_eq x place) xs)) None)) 0) d
        ≡ following place xs
    by true q less =
        let k : ℕ = position_or_len (λ x. nat_eq x place) xs + 1 in
        let whole : min k (length xs) ≡ k = omega arith in
        sym (ap (λ l. first_or place (l ++ xs)) (where_behind place xs ∙ ap (λ n. drop n xs) whole)
        ∙ at_drop_more (λ l. first_or place (l ++ xs)) xs k d less)
    by false q less =
        let many : length xs ≤ position_or_len (λ x. nat_eq x place) xs = grind (arith, nat_tests, q) in
        sym (first_again place xs (omega arith) ∙ first_is place d xs less)

-- where there is none, the first follows
pub followed_by_first : (place : ℕ) (xs : List ℕ) → length xs ≤ unwrap_or (number_in place xs) 0
    → unwrap_or (slice_get xs 0) place ≡ following place xs
followed_by_first place xs = by (nat_lt (position_or_len (λ x. nat_eq x place) xs) (length xs)) refl
  where
    one : (ys : List ℕ) → unwrap_or (slice_get ys 0) place ≡ first_or place ys
    one [] = refl
    one (y ∷ ys) = refl

    by : (b : Bool) → nat_lt (position_or_len (λ x. nat_eq x place) xs) (length xs) ≡ b
        → length xs ≤ unwrap_or (option_map (λ i. i + 1)
        (cond b (Some (position_or_len (λ x. nat_eq x place) xs)) None)) 0
        → unwrap_or (slice_get xs 0) place ≡ following place xs
    by true q past = one xs ∙ sym (first_again place xs past)
    by false q past =
        let many : length xs ≤ position_or_len (λ x. nat_eq x place) xs = grind (arith, nat_tests, q) in
        one xs ∙ sym (first_again place xs (omega arith))

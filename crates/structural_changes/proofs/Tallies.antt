-- Lists of ids by how often each id stands there.
use Rattle.std.proofs.Common.{◌≡◌, ℕ, zero, suc, ◌+◌, ◌≤◌, Bool, true, false, not, ◌||◌, List, [], ◌∷◌, ◌++◌, flat_map}
use Rattle.std.proofs.Common.{nat_eq, refl, sym, ap, subst, ◌∙◌, arith, if◌then◌else◌}
use Rattle.std.specs.List.{IsDistinct, AllByRecursion}
use Rattle.std.proofs.lemmas.Bool.{eq-eqb, false≢true}
use Rattle.std.proofs.lemmas.Bool.Decides.{nat_tests}
use Rattle.object_table.specs.Objects.{contains_id}
use Rattle.object_table.specs.WellFormed.{NamesEach}
use Rattle.structural_changes.specs.Writes.{insert_after}

abbrev pub one_if : Bool → ℕ
one_if true = 1
one_if false = 0

-- the sum of what each member gives
abbrev pub total : (ℕ → ℕ) → List ℕ → ℕ
total g [] = 0
total g (x ∷ xs) = g x + total g xs

-- how often an id stands in a list
abbrev pub tally : ℕ → List ℕ → ℕ
tally id = total (λ x. one_if (nat_eq x id))

-- ---- sums

pub none_more : (n : ℕ) → 0 + n ≡ n
none_more n = omega arith

pub total-append : (g : ℕ → ℕ) (xs ys : List ℕ) → total g (xs ++ ys) ≡ total g xs + total g ys
total-append g [] ys = omega arith
total-append g (x ∷ xs) ys = let rest = total-append g xs ys in omega arith

pub total-flat_map : (g : ℕ → ℕ) (f : ℕ → List ℕ) (xs : List ℕ)
    → total g (flat_map f xs) ≡ total (λ x. total g (f x)) xs
total-flat_map g f [] = refl
total-flat_map g f (x ∷ xs) = total-append g (f x) (flat_map f xs) ∙ ap (λ n. total g (f x) + n) (total-flat_map g f xs)

pub total-plus : (g h : ℕ → ℕ) (xs : List ℕ) → total (λ x. g x + h x) xs ≡ total g xs + total h xs
total-plus g h [] = refl
total-plus g h (x ∷ xs) = let rest = total-plus g h xs in omega arith

pub total-zero : (xs : List ℕ) → total (λ x. 0) xs ≡ 0
total-zero [] = refl
total-zero (x ∷ xs) = let rest = total-zero xs in omega arith

pub total-insert_after : (g : ℕ → ℕ) (place id : ℕ) (xs : List ℕ)
    → total g (insert_after place id xs) ≡ g id + total g xs
total-insert_after g place id [] = refl
total-insert_after g place id (x ∷ xs) = by (total-insert_after g place id xs) (nat_eq x place)
  where
    by : total g (insert_after place id xs) ≡ g id + total g xs → (b : Bool)
        → total g (if b then x ∷ id ∷ xs else x ∷ insert_after place id xs) ≡ g id + (g x + total g xs)
    by rest true = omega arith
    by rest false = omega arith

-- ---- membership

pub contains-tally : (id : ℕ) (xs : List ℕ) → contains_id id xs ≡ not (nat_eq (tally id xs) 0)
contains-tally id [] = refl
contains-tally id (x ∷ xs) = by (contains-tally id xs) (nat_eq x id)
  where
    by : contains_id id xs ≡ not (nat_eq (tally id xs) 0) → (b : Bool)
        → b || contains_id id xs ≡ not (nat_eq (one_if b + tally id xs) 0)
    by rest true = let some : nat_eq (1 + tally id xs) 0 ≡ false = grind (arith, nat_tests) in rw some refl
    by rest false = rest ∙ ap (λ n. not (nat_eq n 0)) (sym (none_more (tally id xs)))

-- an id is the same as itself
pub itself : (n : ℕ) → nat_eq n n ≡ true
itself n = eq-eqb n n refl

apart-tally : (x : ℕ) (xs : List ℕ) → AllByRecursion (λ y. nat_eq x y ≡ false) xs → tally x xs ≡ 0
apart-tally x [] h = refl
apart-tally x (y ∷ ys) h = let rest = apart-tally x ys h.1 in let other : nat_eq y x
    ≡ false = grind (arith, nat_tests, h.0) in ap (λ b. one_if b + tally x ys) other ∙ none_more (tally x ys) ∙ rest

tally-apart : (x : ℕ) (xs : List ℕ) → tally x xs ≡ 0 → AllByRecursion (λ y. nat_eq x y ≡ false) xs
tally-apart x [] e = tt
tally-apart x (y ∷ ys) e =
    let none : tally x ys ≡ 0 = omega arith in
    (by (nat_eq y x) refl e, tally-apart x ys none)
  where
    by : (b : Bool) → nat_eq y x ≡ b → one_if b + tally x ys ≡ 0 → nat_eq x y ≡ false
    by true q z = absurd (omega arith)
    by false q z = grind (arith, nat_tests, q)

pub distinct-tally : (id : ℕ) (xs : List ℕ) → IsDistinct nat_eq xs → tally id xs ≤ 1
unfolding IsDistinct
distinct-tally id [] h = omega arith
distinct-tally id (x ∷ xs) h = by (distinct-tally id xs h.1) (apart-tally x xs h.0) (nat_eq x id) refl
  where
    by : tally id xs ≤ 1 → tally x xs ≡ 0 → (b : Bool) → nat_eq x id ≡ b → one_if b + tally id xs ≤ 1
    by rest none true q = let same : x ≡ id = grind (arith, nat_tests, q) in let here : tally id xs
        ≡ 0 = subst (λ k. tally k xs ≡ 0) same none in omega arith
    by rest none false q = omega arith

pub tally-distinct : (xs : List ℕ) → ((id : ℕ) → tally id xs ≤ 1) → IsDistinct nat_eq xs
unfolding IsDistinct
tally-distinct [] h = tt
tally-distinct (x ∷ xs) h =
    let itself : nat_eq x x ≡ true = grind (arith, nat_tests) in
    let first : one_if (nat_eq x x) + tally x xs ≤ 1 = h x in
    let none : tally x xs ≡ 0 =
    (let two : 1 + tally x xs ≤ 1 = subst (λ b. one_if b + tally x xs ≤ 1) itself first in omega arith) in
    (tally-apart x xs none, tally-distinct xs (λ id. let here = h id in omega arith))

-- ---- lists that name each id that passes

as_one : (n : ℕ) (b : Bool) → n ≤ 1 → not (nat_eq n 0) ≡ b → n ≡ one_if b
as_one zero b h e = ap one_if e
as_one (suc zero) b h e = ap one_if e
as_one (suc (suc n)) b h e = absurd (omega arith)

pub named-tally : (p : ℕ → Bool) (ids : List ℕ) → NamesEach p ids → (id : ℕ) → tally id ids ≡ one_if (p id)
named-tally p ids names id =
    as_one (tally id ids) (p id) (distinct-tally id ids names.once) (sym (contains-tally id ids) ∙ names.each id)

one_back : (b : Bool) → not (nat_eq (one_if b) 0) ≡ b
one_back true = refl
one_back false = refl

pub at_most_one : (b : Bool) → one_if b ≤ 1
at_most_one true = omega arith
at_most_one false = omega arith

pub tally-named : (p : ℕ → Bool) (ids : List ℕ) → ((id : ℕ) → tally id ids ≡ one_if (p id)) → NamesEach p ids
tally-named p ids each = record {
  once = tally-distinct ids (λ id. rw (each id) (at_most_one (p id)));
  each = λ id. contains-tally id ids ∙ ap (λ n. not (nat_eq n 0)) (each id) ∙ one_back (p id);
}

-- ---- a list as a sum

pub one_member : (g : ℕ → ℕ) (id : ℕ) (xs : List ℕ) → contains_id id xs ≡ true → g id ≤ total g xs
one_member g id [] e = absurd (false≢true e)
one_member g id (x ∷ xs) e = by (λ more. one_member g id xs more) (nat_eq x id) refl e
  where
    by : (contains_id id xs ≡ true → g id ≤ total g xs) → (b : Bool) → nat_eq x id ≡ b → b || contains_id id xs ≡ true
        → g id ≤ g x + total g xs
    by rest true q more =
        let same : g x ≡ g id = (let here : x ≡ id = grind (arith, nat_tests, q) in ap g here) in omega arith
    by rest false q more = let less : g id ≤ total g xs = rest more in omega arith

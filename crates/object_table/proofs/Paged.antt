-- Numbers at ids, as pages are made and written.
use Rattle.std.proofs.Common.{◌≡◌, ◌≢◌, ◌==◌, ℕ, zero, suc, inl, inr, ◌+◌, ◌*◌, ◌/◌, ◌%◌, ◌<◌, if◌then◌else◌, true}
use Rattle.std.proofs.Common.{false, cond, List, [], ◌∷◌, ◌++◌, length, set, replicate, get_or, refl, sym, ap, ◌∙◌}
use Rattle.std.proofs.Common.{arith}
use Rattle.std.proofs.lemmas.Bool.{cases_eq}
use Rattle.std.proofs.lemmas.Bool.Decides.{nat_tests}
use Rattle.std.proofs.lemmas.List.{get_or-set_same, get_or-set_other}
use Rattle.std.proofs.lemmas.Nat.{div-add-mod'}
use Rattle.object_table.specs.Pages.{number_at}

same_test : (a b : ℕ) → a ≡ b → (a == b) ≡ true
same_test a b e = grind (arith, nat_tests)

apart_test : (a b : ℕ) → a ≢ b → (a == b) ≡ false
apart_test a b n = grind (arith, nat_tests)

-- a page has more numbers, all 0
zeros : (z n q : ℕ) → get_or (replicate n z) q z ≡ z
zeros z zero q = refl
zeros z (suc n) zero = refl
zeros z (suc n) (suc q) = zeros z n q

pub filled : (z : ℕ) (numbers : List ℕ) (n q : ℕ) → get_or (numbers ++ replicate n z) q z ≡ get_or numbers q z
filled z [] n q = zeros z n q
filled z (x ∷ xs) n zero = refl
filled z (x ∷ xs) n (suc q) = filled z xs n q

-- a number is written in a page
pub written : (numbers : List ℕ) (at number q : ℕ) → at < length numbers
    → get_or (set numbers at number) q 0 ≡ (if q == at then number else get_or numbers q 0)
written numbers at number q within =
    elim (cases_eq q at) [
      | inl e ↦ ap (λ k. get_or (set numbers at number) k 0) e ∙ get_or-set_same numbers at number 0 within
          ∙ sym (ap (λ b. cond b number (get_or numbers q 0)) (same_test q at e))
      | inr n ↦ get_or-set_other numbers at q number 0 n
          ∙ sym (ap (λ b. cond b number (get_or numbers q 0)) (apart_test q at n))
    ]

-- the id is the one of its page and its place there
same_id : (q id : ℕ) → q / 64 ≡ id / 64 → (q % 64 == id % 64) ≡ (q == id)
same_id q id page =
    elim (cases_eq (q % 64) (id % 64)) [
      | inl e ↦ same_test (q % 64) (id % 64) e
          ∙ sym (same_test q id (sym (div-add-mod' q 64) ∙ (λ i. page i * 64 + e i) ∙ div-add-mod' id 64))
      | inr n ↦ apart_test (q % 64) (id % 64) n ∙ sym (apart_test q id (λ e. n (ap (λ k. k % 64) e)))
    ]

-- a page is written at an id
pub number_written : (pages : List (List ℕ)) (page : List ℕ) (id number : ℕ) → id / 64 < length pages
    → ((k : ℕ) → get_or page k 0 ≡ (if k == id % 64 then number else get_or (get_or pages (id / 64) []) k 0)) → (q : ℕ)
    → number_at (set pages (id / 64) page) q ≡ (if q == id then number else number_at pages q)
number_written pages page id number within is q =
    elim (cases_eq (q / 64) (id / 64)) [
      | inl e ↦
          ap (λ k. get_or (get_or (set pages (id / 64) page) k []) (q % 64) 0) e
          ∙ ap (λ p. get_or p (q % 64) 0) (get_or-set_same pages (id / 64) page [] within)
          ∙ is (q % 64)
          ∙ (λ i. cond (same_id q id e i) number (get_or (get_or pages (sym e i) []) (q % 64) 0))
      | inr n ↦
          ap (λ p. get_or p (q % 64) 0) (get_or-set_other pages (id / 64) (q / 64) page [] n)
          ∙ sym (ap (λ b. cond b number (number_at pages q)) (apart_test q id (λ e. n (ap (λ k. k / 64) e))))
    ]

-- a page that says the same is written
pub number_same : (pages : List (List ℕ)) (page : List ℕ) (n : ℕ) → n < length pages
    → ((k : ℕ) → get_or page k 0 ≡ get_or (get_or pages n []) k 0) → (q : ℕ)
    → number_at (set pages n page) q ≡ number_at pages q
number_same pages page n within is q =
    elim (cases_eq (q / 64) n) [
      | inl e ↦
          ap (λ k. get_or (get_or (set pages n page) k []) (q % 64) 0) e
          ∙ ap (λ p. get_or p (q % 64) 0) (get_or-set_same pages n page [] within)
          ∙ is (q % 64)
          ∙ ap (λ k. get_or (get_or pages k []) (q % 64) 0) (sym e)
      | inr m ↦ ap (λ p. get_or p (q % 64) 0) (get_or-set_other pages n (q / 64) page [] m)
    ]

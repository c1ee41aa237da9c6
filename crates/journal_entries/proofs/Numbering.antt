-- The number of a name in a set of names.
use Rattle.std.proofs.Common.{◌≡◌, ◌≢◌, ℕ, zero, suc, ◌+◌, ◌<◌, ◌≤◌, Bool, true, false, cond, not, nat_lt, ◌||◌, bytes_eq}
use Rattle.std.proofs.Common.{List, [], ◌∷◌, ◌++◌, length, map, get_or, refl, sym, ap, ◌∙◌, arith, Option, Some, None}
use Rattle.std.specs.List.{position, position_or_len, prefix_len, list_any}
use Rattle.std.proofs.lemmas.List.Sums.{prefix_len_passes, prefix_len_stops}
use Rattle.std.proofs.lemmas.Bool.{ltb-true, ltb-false, not-false, not-true}
use Rattle.std.proofs.lemmas.Slice.Eq.{bytes_eq-Decides}
use Rattle.std.proofs.lemmas.List.{map-append}
use Rattle.stack_places.proofs.Exchanging.{false_true}
use Rattle.journal_entries.specs.Named.{IsNumberOf}

-- a test of names
abbrev is : List ℕ → List ℕ → Bool
is name n = bytes_eq name n

abbrev first : List ℕ → List (List ℕ) → ℕ
first name ns = prefix_len (λ n. not (is name n)) ns

first-map : {X : Type 0} (f : X → List ℕ) (name : List ℕ) (ks : List X)
    → position_or_len (λ k. is name (f k)) ks ≡ first name (map f ks)
first-map f name [] = refl
first-map f name (k ∷ ks) = ap (λ n. cond (not (is name (f k))) (1 + n) 0) (first-map f name ks)

first-here : (name : List ℕ) (ns : List (List ℕ)) → first name ns < length ns → get_or ns (first name ns) [] ≡ name
first-here name ns h = sym ((bytes_eq-Decides name (get_or ns (first name ns) [])).0
    (not-false (is name (get_or ns (first name ns) [])) (prefix_len_stops (λ n. not (is name n)) ns [] h)))

first-past : (name : List ℕ) (ns : List (List ℕ)) (k : ℕ) → k < first name ns → get_or ns k [] ≢ name
first-past name ns k h e = false_true
    (sym (not-true (is name (get_or ns k [])) (prefix_len_passes (λ n. not (is name n)) ns k [] h))
    ∙ (bytes_eq-Decides name (get_or ns k [])).1 (sym e))

found : (n m i : ℕ) → cond (nat_lt n m) (Some n) None ≡ Some i → (n < m) × (n ≡ i)
found n m i h =
    elim (nat_lt n m) as (λ b. nat_lt n m ≡ b → cond b (Some n) None ≡ Some i → (n < m) × (n ≡ i)) [
      | true ↦ λ e q. let s : n ≡ i = cc in (ltb-true n m e, s)
      | false ↦ λ e q. let none : None ≡ Some i → ⊥ = λ x. cc in absurd (none q)
    ] refl h

absent : (n m : ℕ) → cond (nat_lt n m) (Some n) None ≡ None → m ≤ n
absent n m h =
    elim (nat_lt n m) as (λ b. nat_lt n m ≡ b → cond b (Some n) None ≡ None → m ≤ n) [
      | true ↦ λ e q. let none : Some n ≡ None → ⊥ = λ x. cc in absurd (none q)
      | false ↦ λ e q. ltb-false n m e
    ] refl h

pub count-map : {X : Type 0} (f : X → List ℕ) (ks : List X) → length (map f ks) ≡ length ks
count-map f [] = refl
count-map f (k ∷ ks) = ap suc (count-map f ks)

-- the place that a set finds is the number of the name
pub position-number : {X : Type 0} (f : X → List ℕ) (name : List ℕ) (ks : List X) (ns : List (List ℕ)) (r : Option ℕ)
    → map f ks ≡ ns → position (λ k. bytes_eq name (f k)) ks ≡ r → IsNumberOf ns name r
position-number f name ks ns None e h =
    let past = absent (position_or_len (λ x. is name (f x)) ks) (length ks) h in
    λ k l. first-past name ns k (omega
    (arith, past, ap (first name) e, first-map f name ks, count-map f ks, ap length e))
position-number f name ks ns (Some i) e h =
    let parts = found (position_or_len (λ k. is name (f k)) ks) (length ks) i h in
    let at : i ≡ first name ns = sym parts.1 ∙ first-map f name ks ∙ ap (first name) e in
    let within : first name ns < length ns = omega (arith, parts.0, parts.1, at, count-map f ks, ap length e) in
    (omega (arith, at, within), ap (λ k. get_or ns k []) at ∙ first-here name ns within)

none-of : {X : Type 0} (f : X → List ℕ) (name : List ℕ) (ks : List X)
    → ((k : ℕ) → k < length (map f ks) → get_or (map f ks) k [] ≢ name) → list_any (λ k. bytes_eq name (f k)) ks ≡ false
none-of f name [] h = refl
none-of f name (k ∷ ks) h =
    elim (is name (f k)) as (λ b. is name (f k) ≡ b → (b || list_any (λ x. is name (f x)) ks) ≡ false) [
      | true ↦ λ e. absurd (h 0 (omega arith) (sym ((bytes_eq-Decides name (f k)).0 e)))
      | false ↦ λ e. none-of f name ks (λ j l. h (suc j) (omega arith))
    ] refl

-- the set lacks it
pub list_any-absent : {X : Type 0} (f : X → List ℕ) (name : List ℕ) (ks : List X) (ns : List (List ℕ)) → map f ks ≡ ns
    → ((k : ℕ) → k < length ns → get_or ns k [] ≢ name) → list_any (λ k. bytes_eq name (f k)) ks ≡ false
list_any-absent f name ks ns e h = none-of f name ks (rw (← e) at h)

-- a name that the set lacks is put at its end
pub name-pushed : {X : Type 0} (f : X → List ℕ) (ks new : List X) (b : X) (name : List ℕ)
    → ((k : ℕ) → k < length (map f ks) → get_or (map f ks) k [] ≢ name) → f b ≡ name
    → new ≡ cond (list_any (λ k. bytes_eq (f b) (f k)) ks) ks (ks ++ b ∷ []) → map f new ≡ map f ks ++ name ∷ []
name-pushed f ks new b name new_name is e =
    let lacks = list_any-absent f (f b) ks (map f ks) refl (rw is new_name) in
    ap (map f) (e ∙ ap (λ t. cond t ks (ks ++ b ∷ [])) lacks) ∙ map-append f ks (b ∷ []) ∙ (λ i. map f ks ++ is i ∷ [])

-- names and others behind them
pub number-left : (ns ms : List (List ℕ)) (name : List ℕ) (i : ℕ) → IsNumberOf ns name (Some i)
    → IsNumberOf (ns ++ ms) name (Some i)
number-left [] ms name i h = absurd (omega (arith, h.0))
number-left (n ∷ ns) ms name zero h = (omega arith, h.1)
number-left (n ∷ ns) ms name (suc i) h =
    let rest = number-left ns ms name i (omega (arith, h.0), h.1) in (omega (arith, rest.0), rest.1)

pub number-nowhere : (ns ms : List (List ℕ)) (name : List ℕ) → IsNumberOf ns name None → IsNumberOf ms name None
    → IsNumberOf (ns ++ ms) name None
number-nowhere [] ms name h g i l = g i l
number-nowhere (n ∷ ns) ms name h g zero l = h 0 (omega arith)
number-nowhere (n ∷ ns) ms name h g (suc i) l =
    number-nowhere ns ms name (λ k m. h (suc k) (omega (arith, m))) g i (omega (arith, l))

pub absent-left : (ns ms : List (List ℕ)) (name : List ℕ) → IsNumberOf (ns ++ ms) name None → IsNumberOf ns name None
absent-left [] ms name h k l = absurd (omega (arith, l))
absent-left (n ∷ ns) ms name h zero l = h 0 (omega arith)
absent-left (n ∷ ns) ms name h (suc k) l =
    absent-left ns ms name (λ j m. h (suc j) (omega (arith, m))) k (omega (arith, l))

pub absent-right : (ns ms : List (List ℕ)) (name : List ℕ) → IsNumberOf (ns ++ ms) name None → IsNumberOf ms name None
absent-right [] ms name h = h
absent-right (n ∷ ns) ms name h = absent-right ns ms name (λ j m. h (suc j) (omega (arith, m)))

pub at_end : (ns : List (List ℕ)) (name : List ℕ) → get_or (ns ++ name ∷ []) (length ns) [] ≡ name
at_end [] name = refl
at_end (n ∷ ns) name = at_end ns name

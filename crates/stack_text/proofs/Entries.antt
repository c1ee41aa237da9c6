-- Ids in lists: how often each stands there, and what is found where they are keys.
use Rattle.std.proofs.Common.{◌≡◌, ◌++◌, ℕ, suc, inl, inr, ◌+◌, ◌≤◌, true, false, cond, List, [], ◌∷◌, map, refl}
use Rattle.std.proofs.Common.{subst, arith, nat_eq, ◌==◌, ◌||◌, IsTrue, ◌≢◌, ◌-◌, is_some, length, true≢false, Bool}
use Rattle.std.proofs.Common.{Some, None, Option, IsSome, IfSome, sym, ap, ◌∙◌}
use Rattle.std.specs.List.{AllByRecursion, IsDistinct, flat_map}
use Rattle.std.proofs.lemmas.Bool.{cases_Bool, cases_eq}
use Rattle.std.proofs.lemmas.Bool.Decides.{nat_tests}
use Rattle.std.specs.Ordering.{nat_cmp, eq_by_cmp}
use Rattle.std.specs.Cmp.{nat_cmp_total}
use Rattle.std.specs.FinMap.{FinMap, find, from_entries, len, remove, get-from_entries, len-empty, len-insert}
use Rattle.std.specs.FinMap.{len-remove}
use Rattle.object_table.proofs.Slots.{tied_apart, tied_same}
use Rattle.stack_text.specs.Document.{contains_id}

abbrev pub times : ℕ → List ℕ → ℕ
times q [] = 0
times q (x ∷ xs) = cond (x == q) (suc (times q xs)) (times q xs)

pub times-append : (q : ℕ) (xs ys : List ℕ) → times q (xs ++ ys) ≡ times q xs + times q ys
times-append q [] ys = omega arith
times-append q (x ∷ xs) ys = elim (x == q)
    as (λ b. cond b (suc (times q (xs ++ ys))) (times q (xs ++ ys))
    ≡ cond b (suc (times q xs)) (times q xs) + times q ys) [
      | true ↦ omega (arith, times-append q xs ys)
      | false ↦ times-append q xs ys
    ]

-- each list's first id, and then what follows the first in each
pub times-heads : {X : Type 0} (f : X → ℕ) (g : X → List ℕ) (q : ℕ) (xs : List X)
    → times q (flat_map (λ x. f x ∷ g x) xs) ≡ times q (map f xs) + times q (flat_map g xs)
times-heads f g q [] = omega arith
times-heads f g q (x ∷ xs) = elim (f x == q)
    as (λ b. cond b (suc (times q (g x ++ flat_map (λ y. f y ∷ g y) xs)))
    (times q (g x ++ flat_map (λ y. f y ∷ g y) xs))
    ≡ cond b (suc (times q (map f xs))) (times q (map f xs)) + times q (g x ++ flat_map g xs)) [
      | true ↦ omega (
        arith,
        times-heads f g q xs,
        times-append q (g x) (flat_map g xs),
        times-append q (g x)
            (flat_map (λ y. f y ∷ g y) xs),
      )
      | false ↦ omega (
        arith,
        times-heads f g q xs,
        times-append q (g x) (flat_map g xs),
        times-append q (g x)
            (flat_map (λ y. f y ∷ g y) xs),
      )
    ]

pub times_none : (q : ℕ) (xs : List ℕ) → contains_id q xs ≡ false → times q xs ≡ 0
times_none q [] h = refl
times_none q (x ∷ xs) h = elim (x == q)
    as (λ b. (b || contains_id q xs) ≡ false → cond b (suc (times q xs)) (times q xs) ≡ 0)
    [ true ↦ λ k. absurd cc | false ↦ λ k. times_none q xs k ] h

pub times_some : (q : ℕ) (xs : List ℕ) → IsTrue (contains_id q xs) → 1 ≤ times q xs
times_some q [] h = absurd cc
times_some q (x ∷ xs) h = elim (x == q)
    as (λ b. IsTrue (b || contains_id q xs) → 1 ≤ cond b (suc (times q xs)) (times q xs))
    [ true ↦ λ k. omega arith | false ↦ λ k. times_some q xs k ] h

pub some_times : (q : ℕ) (xs : List ℕ) → 1 ≤ times q xs → IsTrue (contains_id q xs)
some_times q xs h =
    elim (cases_Bool (contains_id q xs)) [ inl e ↦ e | inr e ↦ absurd (omega (arith, times_none q xs e)) ]

apart : (x : ℕ) (ys : List ℕ) → times x ys ≡ 0 → AllByRecursion (λ y. nat_eq x y ≡ false) ys
apart x [] h = tt
apart x (y ∷ ys) h =
    elim (y == x) as (λ b. (y == x) ≡ b → cond b (suc (times x ys)) (times x ys) ≡ 0
    → AllByRecursion (λ z. nat_eq x z ≡ false) (y ∷ ys)) [
      | true ↦ λ e k. absurd (omega arith)
      | false ↦ λ e k. (grind (arith, nat_tests), apart x ys k)
    ] refl h

lacks : (x : ℕ) (ys : List ℕ) → AllByRecursion (λ y. nat_eq x y ≡ false) ys → times x ys ≡ 0
lacks x [] h = refl
lacks x (y ∷ ys) h = rw (reversed y h.0) (lacks x ys h.1)
  where
    reversed : (z : ℕ) → nat_eq x z ≡ false → (z == x) ≡ false
    reversed z e = grind (arith, nat_tests)

-- where no id stands twice
pub times_once : (xs : List ℕ) → IsDistinct nat_eq xs → (q : ℕ) → times q xs ≤ 1
unfolding IsDistinct
times_once [] once q = omega arith
times_once (x ∷ xs) once q =
    elim (x == q) as (λ b. (x == q) ≡ b → cond b (suc (times q xs)) (times q xs) ≤ 1) [
      | true ↦ λ e. omega (arith, here x q e (lacks x xs once.0))
      | false ↦ λ e. times_once xs once.1 q
    ] refl
  where
    here : (y n : ℕ) → (y == n) ≡ true → times y xs ≡ 0 → times n xs ≡ 0
    here y n e h = let same : y ≡ n = grind (arith, nat_tests) in subst (λ k. times k xs ≡ 0) same h

pub once_times : (xs : List ℕ) → ((q : ℕ) → times q xs ≤ 1) → IsDistinct nat_eq xs
unfolding IsDistinct
once_times [] h = tt
once_times (x ∷ xs) h = (apart x xs itself, once_times xs rest)
  where
    itself : times x xs ≡ 0
    itself =
        let same : (x == x) ≡ true = grind (arith, nat_tests) in
        omega (arith, subst (λ b. cond b (suc (times x xs)) (times x xs) ≤ 1) same (h x))

    rest : (q : ℕ) → times q xs ≤ 1
    rest q = elim (x == q) as (λ b. cond b (suc (times q xs)) (times q xs) ≤ 1 → times q xs ≤ 1)
        [ true ↦ λ k. omega arith | false ↦ λ k. k ] (h q)

abbrev pub keys : {X : Type 0} → List (ℕ × X) → List ℕ
keys es = map (λ e. e.0) es

different : (a b : ℕ) → nat_eq a b ≡ false → b ≢ a
different a b h e = grind (arith, nat_tests)

module _ {X : Type 0} where
  behind : (e : ℕ × X) (es fs : List (ℕ × X)) → AllByRecursion (λ f. find nat_cmp f.0 es ≡ Some f.1) fs
      → AllByRecursion (λ y. nat_eq e.0 y ≡ false) (keys fs)
      → AllByRecursion (λ f. find nat_cmp f.0 (e ∷ es) ≡ Some f.1) fs
  behind e es [] h apart = tt
  behind e es (f ∷ fs) h apart = (rw (tied_apart f.0 e.0 (different e.0 f.0 apart.0)) h.0, behind e es fs h.1 apart.1)

  pub missing : (q : ℕ) (es : List (ℕ × X)) → AllByRecursion (λ y. nat_eq q y ≡ false) (keys es)
      → find nat_cmp q es ≡ None
  missing q [] h = refl
  missing q (e ∷ es) h = rw (tied_apart q e.0 (λ k. different q e.0 h.0 (sym k))) (missing q es h.1)

  -- where no key stands twice, each entry is found
  pub found : (es : List (ℕ × X)) → IsDistinct nat_eq (keys es)
      → AllByRecursion (λ e. find nat_cmp e.0 es ≡ Some e.1) es
  unfolding IsDistinct
  found [] once = tt
  found (e ∷ es) once = (rw (tied_same e.0 e.0 refl) refl, behind e es es (found es once.1) once.0)

module _ {X : Type 0} where
  -- what holds of each entry's value holds of the one that is found
  pub found_each : (P : X → Type 0) (q : ℕ) (es : List (ℕ × X)) → AllByRecursion (λ (e : ℕ × X). P e.1) es
      → IfSome (find nat_cmp q es) P
  found_each P q [] h = tt
  found_each P q (e ∷ es) h = elim (eq_by_cmp nat_cmp q e.0) as (λ b. IfSome (cond b (Some e.1) (find nat_cmp q es)) P)
      [ true ↦ h.0 | false ↦ found_each P q es h.1 ]

  -- a value is found at the keys
  pub is_some-found : (q : ℕ) (es : List (ℕ × X)) → is_some (find nat_cmp q es) ≡ contains_id q (keys es)
  is_some-found q [] = refl
  is_some-found q (e ∷ es) = elim (cases_eq q e.0) [
    | inl k ↦
        let same : (e.0 == q) ≡ true = grind (arith, nat_tests) in
        rw (tied_same q e.0 k, same) refl
    | inr k ↦
        let other : (e.0 == q) ≡ false = grind (arith, nat_tests) in
        rw (tied_apart q e.0 k, other) (is_some-found q es)
  ]

module _ {X : Type 0} (m : ℕ → Option X) where
  -- where each entry says what m says, m is found at the keys
  pub found_at : (q : ℕ) (es : List (ℕ × X)) → AllByRecursion (λ e. m e.0 ≡ Some e.1) es
      → find nat_cmp q es ≡ cond (contains_id q (keys es)) (m q) None
  found_at q [] h = refl
  found_at q (e ∷ es) h = elim (cases_eq q e.0) [
    | inl k ↦
        let same : (e.0 == q) ≡ true = grind (arith, nat_tests) in
        rw (tied_same q e.0 k, same) (sym h.0 ∙ ap m (sym k))
    | inr k ↦
        let other : (e.0 == q) ≡ false = grind (arith, nat_tests) in
        rw (tied_apart q e.0 k, other) (found_at q es h.1)
  ]

  -- where each key of m is a key of the entries too, m alone is found
  pub agrees : (es : List (ℕ × X)) → AllByRecursion (λ e. m e.0 ≡ Some e.1) es
      → ((q : ℕ) → IsSome (m q) → IsTrue (contains_id q (keys es))) → (q : ℕ) → find nat_cmp q es ≡ m q
  agrees es h all q = found_at q es h ∙ by (m q) (contains_id q (keys es)) (all q)
    where
      by : (o : Option X) (b : Bool) → (IsSome o → IsTrue b) → cond b o None ≡ o
      by o true k = refl
      by None false k = refl
      by (Some x) false k = absurd (true≢false (sym (k refl)))

module _ {X : Type 0} where
  -- where no key stands twice, the map has an entry for each
  pub len_once : (es : List (ℕ × X)) → IsDistinct nat_eq (keys es) → len (from_entries {R = nat_cmp} es) ≡ length es
  unfolding IsDistinct
  len_once [] once = len-empty nat_cmp _
  len_once (e ∷ es) once =
      let m : FinMap nat_cmp X = from_entries es in
      len-insert nat_cmp_total m e.0 e.1
      ∙ ap (λ o. cond (is_some o) (len m) (len m + 1)) (get-from_entries nat_cmp_total es e.0 ∙ missing e.0 es once.0)
      ∙ omega (arith, len_once es once.1)

  -- and one less without the first
  pub len_without_first : (e : ℕ × X) (es : List (ℕ × X)) → IsDistinct nat_eq (keys (e ∷ es))
      → len (remove (from_entries {R = nat_cmp} (e ∷ es)) e.0) ≡ length es
  len_without_first e es once =
      let m : FinMap nat_cmp X = from_entries (e ∷ es) in
      len-remove nat_cmp_total m e.0
      ∙ ap (λ o. cond (is_some o) (len m - 1) (len m))
      (get-from_entries nat_cmp_total (e ∷ es) e.0 ∙ (found (e ∷ es) once).0)
      ∙ omega (arith, len_once (e ∷ es) once)

-- A list that stands at the head of another, and what is behind it.
use Rattle.std.proofs.Common.{◌≡◌, ℕ, zero, suc, ◌≤◌, List, [], ◌∷◌, ◌++◌, length, refl, sym, ap, subst, ◌∙◌}
use Rattle.std.proofs.Common.{append_assoc, append-nil, arith, All, drop, slice_index_or}
use Rattle.std.proofs.lemmas.List.{get_or_append_left, length-append}
use Rattle.preservation.specs.Laws.{IsPrefix}

pub prefix_same : {A : Type 0} (xs ys : List A) → ys ≡ xs → IsPrefix xs ys
prefix_same xs ys same = ([], same ∙ sym (append-nil xs))

pub prefix_trans : {A : Type 0} (xs ys zs : List A) → IsPrefix xs ys → IsPrefix ys zs → IsPrefix xs zs
prefix_trans xs ys zs h k = (h.0 ++ k.0, k.1 ∙ ap (λ l. l ++ k.0) h.1 ∙ append_assoc xs h.0 k.0)

pub prefix_length : {A : Type 0} (xs ys : List A) → IsPrefix xs ys → length xs ≤ length ys
prefix_length xs ys h = omega (arith, ap length h.1, length-append xs h.0)

pub prefix_drop : {A : Type 0} (n : ℕ) (xs ys : List A) → IsPrefix xs ys → IsPrefix (drop n xs) (drop n ys)
prefix_drop zero xs ys h = h
prefix_drop (suc n) [] ys h = (drop (suc n) ys, refl)
prefix_drop (suc n) (x ∷ xs) [] h = let no : ⊥ = cc in absurd no
prefix_drop (suc n) (x ∷ xs) (y ∷ ys) h =
    let same : ys ≡ xs ++ h.0 = ap (drop 1) h.1 in prefix_drop n xs ys (h.0, same)

-- what is behind a front
pub rest_is : {A : Type 0} (xs ys zs : List A) → ys ≡ xs ++ zs → drop (length xs) ys ≡ zs
rest_is {A = A} xs ys zs is = ap (drop (length xs)) is ∙ behind xs
  where
    behind : (xs : List A) → drop (length xs) (xs ++ zs) ≡ zs
    behind [] = refl
    behind (x ∷ xs) = behind xs

pub goes_on : {A : Type 0} (xs ys : List A) → IsPrefix xs ys → ys ≡ xs ++ drop (length xs) ys
goes_on xs ys h = h.1 ∙ ap (λ l. xs ++ l) (sym (rest_is xs ys h.0 h.1))

pub all_of_prefix : {A : Type 0} (P : A → Type 0) (xs ys : List A) → IsPrefix xs ys → All P ys → All P xs
all_of_prefix P xs ys h all k d within =
    subst P (ap (λ l. slice_index_or l k d) h.1 ∙ get_or_append_left xs h.0 d k within)
    (all k d (let longer = prefix_length xs ys h in omega (arith, within, longer)))

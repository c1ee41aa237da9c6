-- The list that is left in a loop.
use Rattle.std.proofs.Common.{◌≡◌, ℕ, ◌+◌, ◌<◌, List, ◌∷◌, length, drop, get_or, suc, sym, ◌∙◌, ap, add-one, drop-cons}

pub cut : {X : Type 0} (xs : List X) (i : ℕ) (x : X) → i < length xs → x ≡ get_or xs i x
    → drop i xs ≡ x ∷ drop (i + 1) xs
cut xs i x h e = rw (add-one) (drop-cons xs i x h ∙ ap (λ y. y ∷ drop (suc i) xs) (sym e))

pub cut_at : {X : Type 0} (xs : List X) (i : ℕ) (d : X) → i < length xs → drop i xs ≡ get_or xs i d ∷ drop (i + 1) xs
cut_at xs i d h = rw (add-one) (drop-cons xs i d h)

-- the same, of the list that a loop lends
pub cut_lent : {X : Type 0} (xs lent : List X) (i : ℕ) (x : X) → lent ≡ xs → i < length lent → x ≡ get_or lent i x
    → drop i xs ≡ x ∷ drop (i + 1) xs
cut_lent xs lent i x same h e = cut xs i x (rw same at h) (rw same at e)

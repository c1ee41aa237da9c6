-- The first place of what a test holds of, where a list has one value more.
use Rattle.std.proofs.Common.{◌≡◌, ℕ, ◌+◌, Bool, true, false, cond, List, [], ◌∷◌, ◌++◌, length, refl, sym, ◌∙◌, ap}
use Rattle.std.proofs.Common.{arith, add-zero}
use Rattle.std.specs.Prelude.{Option, Some, None, position}
use Rattle.std.specs.List.{position_from}
use Rattle.std.proofs.lemmas.Iterator.Adapters.{position_from-zero}

-- a place before the end, or the end, or none
abbrev pub placed : Bool → Option ℕ → ℕ → Option ℕ
placed here (Some i) n = Some i
placed here None n = cond here (Some n) None

from_push : {X : Type 0} (p : X → Bool) (i : ℕ) (xs : List X) (y : X)
    → position_from p i (xs ++ y ∷ []) ≡ placed (p y) (position_from p i xs) (i + length xs)
from_push p i [] y = ap (λ n. cond (p y) (Some n) None) (sym (add-zero i))
from_push p i (x ∷ xs) y =
    elim (p x) as (λ b. cond b (Some i) (position_from p (i + 1) (xs ++ y ∷ []))
    ≡ placed (p y) (cond b (Some i) (position_from p (i + 1) xs)) (i + length (x ∷ xs))) [
      | true ↦ refl
      | false ↦ from_push p (i + 1) xs y ∙ ap (placed (p y) (position_from p (i + 1) xs)) (omega arith)
    ]

pub position-push : {X : Type 0} (p : X → Bool) (xs : List X) (y : X)
    → position p (xs ++ y ∷ []) ≡ placed (p y) (position p xs) (length xs)
position-push p xs y =
    position_from-zero p (xs ++ y ∷ []) ∙ from_push p 0 xs y
    ∙ ap (λ o. placed (p y) o (0 + length xs)) (sym (position_from-zero p xs))
    ∙ ap (placed (p y) (position p xs)) (omega arith)

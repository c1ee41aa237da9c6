-- Cells that are shown, one after the other.
use Rattle.std.proofs.Common.{◌≡◌, ℕ, zero, suc, List, [], ◌∷◌, ◌++◌, map, take, ap, Some, None, slice_get, unwrap_or}
use Rattle.stack_text.specs.Words.{spelled}

pub one_more : (cells : List (List ℕ)) (i : ℕ) (cell : List ℕ) → slice_get cells i ≡ Some cell
    → map spelled (take (suc i) cells) ≡ map spelled (take i cells) ++ spelled cell ∷ []
one_more [] i cell is = let no : None ≡ Some cell = is in cc
one_more (x ∷ xs) zero cell is = ap (λ c. spelled (unwrap_or c []) ∷ []) is
one_more (x ∷ xs) (suc i) cell is = ap (λ (ts : List (List ℕ)). spelled x ∷ ts) (one_more xs i cell is)

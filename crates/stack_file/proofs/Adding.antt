-- Lines added at an end.
use Rattle.std.proofs.Common.{◌≡◌, ℕ, List, [], ◌∷◌, ◌++◌, refl, sym, ◌∙◌, append_assoc, append-nil}
use Rattle.ht_values.specs.Delimited.{ended_lines}
use Rattle.stack_file.specs.Lines.{with_lines}

pub with_lines-joined : (out : List ℕ) (lines : List (List ℕ)) → with_lines out lines ≡ out ++ ended_lines lines
with_lines-joined out [] = sym (append-nil out)
with_lines-joined out (l ∷ ls) =
    with_lines-joined (out ++ (l ++ 10 ∷ [])) ls ∙ append_assoc out (l ++ 10 ∷ []) (ended_lines ls)

-- lines, and then others
pub with_lines_append : (out : List ℕ) (a b : List (List ℕ)) → with_lines out (a ++ b) ≡ with_lines (with_lines out a) b
with_lines_append out [] b = refl
with_lines_append out (l ∷ a) b = with_lines_append (out ++ (l ++ 10 ∷ [])) a b

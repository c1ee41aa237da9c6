-- Lines at an end.
use Rattle.std.specs.Prelude.{ℕ, List, [], ◌∷◌, ◌++◌}

-- the bytes and then the lines, each ended by a line feed, as they are when one line is added after another
abbrev pub with_lines : List ℕ → List (List ℕ) → List ℕ
with_lines out [] = out
with_lines out (line ∷ lines) = with_lines (out ++ (line ++ 10 ∷ [])) lines

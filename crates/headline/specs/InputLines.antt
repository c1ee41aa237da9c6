-- The lines of an input.
use Rattle.std.specs.Prelude.{◌≡◌, ℕ, ◌-◌, ◌==◌, List, [], ◌∷◌, ◌++◌, length, map, take, if◌then◌else◌, slice_index}
use Rattle.session.specs.Splits.{Splits}

-- a line that was ended, without the carriage return before its end
abbrev pub without_return : List ℕ → List ℕ
without_return line = if slice_index line (length line - 1) == 13 then take (length line - 1) line else line

-- the last line counts if it is not empty, though nothing ends it
abbrev pub last_line : List ℕ → List (List ℕ)
last_line [] = []
last_line (b ∷ bs) = (b ∷ bs) ∷ []

-- the lines of an input
abbrev pub all_lines : List (List ℕ) → List ℕ → List (List ℕ)
all_lines lines rest = map without_return lines ++ last_line rest

-- these are the lines of the bytes
pub record AreLines (bytes : List ℕ) (lines : List (List ℕ)) : Type 0 where
  pub ended : List (List ℕ)
  pub rest : List ℕ
  pub splits : Splits bytes ended rest
  pub all : lines ≡ all_lines ended rest

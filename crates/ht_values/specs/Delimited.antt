-- Texts in pieces: what stands between delimiters, and pieces that each end with a byte.
use Rattle.std.specs.Prelude.{ℕ, List, [], ◌∷◌, ◌++◌, flat_map, ◌==◌}
use Rattle.std.specs.List.{slice_split}

-- what stands between the delimiters of a text; the empty text has none
abbrev pub delimited : ℕ → List ℕ → List (List ℕ)
delimited delimiter [] = []
delimited delimiter (b ∷ bs) = slice_split (λ c. c == delimiter) (b ∷ bs)

-- pieces, each with this byte behind it
abbrev pub ended : ℕ → List (List ℕ) → List ℕ
ended byte pieces = flat_map (λ piece. piece ++ byte ∷ []) pieces

-- lines, each ended by a line feed
abbrev pub ended_lines : List (List ℕ) → List ℕ
ended_lines lines = ended 10 lines

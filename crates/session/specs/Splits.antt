-- Bytes as lines.
use Rattle.std.specs.Prelude.{◌≡◌, ◌≢◌, ℕ, List, ◌++◌}
use Rattle.std.specs.List.{AllByRecursion}
pub use Rattle.ht_values.specs.Delimited.{ended_lines}

-- a line has no line feed in it
abbrev pub IsLine : List ℕ → Type 0
IsLine line = AllByRecursion (λ b. b ≢ 10) line

-- the bytes are these lines, each ended by a line feed, and a rest that is not ended
pub record Splits (bytes : List ℕ) (lines : List (List ℕ)) (rest : List ℕ) : Type 0 where
  pub whole : bytes ≡ ended_lines lines ++ rest
  pub each : AllByRecursion IsLine lines
  pub partial : IsLine rest

-- The text of a block, piece by piece.
use Rattle.std.specs.Prelude.{ℕ, ◌+◌, List, Option, option_map, take, drop, position, ◌==◌}
use Rattle.ht_values.specs.Delimited.{ended}
use Rattle.stack_text.specs.Reading.{Reader, ◌>>=◌, give, pieces_at}

-- so many pieces of a text, each with a return behind it
abbrev pub ended_at : ℕ → Reader (List ℕ)
ended_at count = do
  pieces ← pieces_at (count == 1) count 30001
  give (ended 13 pieces)

-- what stands before a byte where it comes first, and what stands after it
abbrev pub around : ℕ → List ℕ → Option (List ℕ × List ℕ)
around byte text = option_map (λ i. (take i text, drop (i + 1) text)) (position (λ b. b == byte) text)

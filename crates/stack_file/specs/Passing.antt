-- Lines that go to a writer through a buffer.
use Rattle.std.specs.Prelude.{ℕ, List, Option}
use Rattle.std.specs.Io.KnownBytes.{Appends, append_known}
use Rattle.ht_values.specs.Delimited.{ended_lines}

-- what was written, where that is known, and behind it what waits in the buffer, grew together by these lines
pub record Passes (lines : List (List ℕ)) (written : Option (List ℕ)) (buffer : List ℕ) (then_written : Option (List ℕ))
    (then_buffer : List ℕ) : Type 0 where
  pub grew : Appends (append_known written buffer) (append_known then_written then_buffer) (ended_lines lines)

-- Plans of new texts for cells.
use Rattle.std.specs.Prelude.{ℕ, List, length}
use Rattle.externals.specs.Cells.{Changes, DiffersFrom, IsProper}

-- each cell is named once, with a text that it doesn't have
pub record IsPlan (cells : List (List ℕ)) (plan : Changes) : Type 0 where
  pub proper : IsProper (length cells) plan
  pub differs : DiffersFrom cells plan

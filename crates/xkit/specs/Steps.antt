-- What one turn of an external does.
use Rattle.std.specs.Prelude.{◌≡◌, ℕ, List, [], slice_index_or}
use Rattle.externals.specs.Cells.{Changes, IsPatch}
use Rattle.externals.specs.Turns.{Turn}
use Rattle.externals.specs.declared.external.Ask.{Ask}
use Rattle.externals.specs.declared.external.Ask.TheVariants.{Fail}

abbrev pub cell : List (List ℕ) → ℕ → List ℕ
cell cells i = slice_index_or cells i []

-- it fails, and its cells stay
abbrev pub fails : List (List ℕ) → Turn
fails cells = (Fail, cells)

-- it asks what is due and leaves the cells that are due, and its patch names what changed
pub record Takes (due : Turn) (old new : List (List ℕ)) (ask : Ask) (patch : Changes) : Type 0 where
  pub asked : ask ≡ due.0
  pub became : new ≡ due.1
  pub patched : IsPatch old new patch

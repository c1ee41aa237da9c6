-- What a patch holds.
use Rattle.std.specs.Prelude.{[], ◌∷◌}
use Rattle.externals.specs.Cells.{Changes}
use Rattle.externals.specs.declared.patch.CellChanges.{CellChanges}
use Rattle.externals.specs.declared.patch.CellChanges.TheVariants.{Nothing, One, Several}

abbrev pub changes_of : CellChanges → Changes
changes_of Nothing = []
changes_of (One cell text) = (cell, text) ∷ []
changes_of (Several list) = list.items

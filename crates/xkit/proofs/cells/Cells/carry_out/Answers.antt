use Rattle.xkit.proofs.Planning.{patch_of_plan}
use Rattle.xkit.proofs.cells.Cells.carry_out.Goals as goal

pub returns-clause-patch : goal.returns-clause-patch
returns-clause-patch c = rw (c.flip.ensures.cells, c.flip.ensures.patch) (patch_of_plan _ _ c.requires)

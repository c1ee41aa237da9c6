use Rattle.std.proofs.Common.{length}
use Rattle.chunks.proofs.nested.+part_within.Given as goal

abbrev pub decreases-part_within : goal.decreases-part_within
decreases-part_within l = length l.chunks.now

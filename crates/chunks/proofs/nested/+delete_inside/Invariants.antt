use Rattle.std.proofs.Common.{length}
use Rattle.chunks.proofs.nested.+delete_inside.Given as goal

abbrev pub decreases-delete_inside : goal.decreases-delete_inside
decreases-delete_inside l = length l.inner.now

use Rattle.std.proofs.Common.{length}
use Rattle.chunks.proofs.nested.+put_inside.Given as goal

abbrev pub decreases-put_inside : goal.decreases-put_inside
decreases-put_inside l = length l.chunks.now

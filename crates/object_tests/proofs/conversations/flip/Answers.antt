use Rattle.externals.proofs.Flipping.{length-flipped, IsProper-taken_out}
use Rattle.object_tests.proofs.conversations.flip.Goals as goal

pub returns : goal.returns
returns g c =
    let cells = g.E.External.cells c.args.external.now in
    let patch = c.args.patch.now in
    rw (c.flip.ensures.cells, c.flip.ensures.patch, length-flipped cells patch)
    (IsProper-taken_out _ cells patch c.requires)

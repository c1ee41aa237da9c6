use Rattle.std.proofs.lemmas.List.{take-replicate}
use Rattle.chunks.proofs.change.appended.Goals as goal

pub returns-then-copies-le-IN_PLACE : goal.returns-then-copies-le-IN_PLACE
returns-then-copies-le-IN_PLACE c =
    rw (← take-replicate c.args.copies 22 c.args.byte c.if-copies-le-IN_PLACE.true) c.joined.ensures.value

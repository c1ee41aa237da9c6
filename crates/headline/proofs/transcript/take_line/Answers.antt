use Rattle.headline.proofs.Saving.{saves_stack}
use Rattle.headline.proofs.transcript.take_line.Goals as goal

pub settle-ending-requires : goal.settle-ending-requires
settle-ending-requires g c =
    saves_stack c.args.line.now _ c.line-shown.result c.line-shown.new.self c.line-shown.ensures.step

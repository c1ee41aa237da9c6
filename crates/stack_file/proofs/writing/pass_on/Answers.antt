use Rattle.stack_file.proofs.Passing.{nothing_passes, on_handed_over}
use Rattle.stack_file.proofs.writing.pass_on.Goals as goal

pub returns-then-len-lt-FULL : goal.returns-then-len-lt-FULL
returns-then-len-lt-FULL g c = nothing_passes _ _

pub returns : goal.returns
returns g c = on_handed_over c.hand_over.result _ _ _ _ c.hand_over.ensures.written c.hand_over.ensures.empty

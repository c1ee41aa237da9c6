use Rattle.std.proofs.Common.{◌∙◌, ap, is_some, ◌==◌}
use Rattle.stack_file.proofs.Places.{position-is_some}
use Rattle.stack_file.proofs.forms.has_return.Goals as goal

pub returns : goal.returns
returns c = c.is_some.ensures ∙ ap is_some c.place_of.ensures.value ∙ position-is_some (λ b. b == 13) c.args.bytes.now

use Rattle.std.proofs.Common.{◌∙◌, ap, ◌==◌, is_some}
use Rattle.stack_file.proofs.Places.{position-is_some}
use Rattle.stack_file.proofs.placed.PlacedIds.contains.Goals as goal

pub returns : goal.returns
returns c = c.is_some.ensures ∙ ap is_some c.place_of.ensures ∙ position-is_some (λ x. x == c.args.id) c.args.self.now

use Rattle.std.proofs.Common.{◌==◌, ap, ◌∙◌, position}
use Rattle.stack_file.proofs.placed.PlacedIds.place_of.Goals as goal

pub returns : goal.returns
returns c = c.copied.ensures ∙ c.get.ensures.value ∙ c.self.invariant c.args.id
    ∙ ap (position (λ x. x == c.args.id)) c.self.view_is

use Rattle.std.proofs.Common.{ap, ◌∙◌}
use Rattle.std.specs.Map.{lookup}
use Rattle.std.specs.Ordering.{is_eq, nat_cmp}
use Rattle.std.specs.Cmp.Lexicographic.{slice_cmp}
use Rattle.name_lists.proofs.places.PlaceMap.get.Goals as goal

pub returns : goal.returns
returns c name form =
    c.copied.ensures ∙ c.get.ensures.value
    ∙ ap (λ t. lookup (λ k. is_eq (slice_cmp nat_cmp t k.items)) c.args.self.now.entries.entries) form

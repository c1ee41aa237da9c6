use Rattle.std.proofs.Common.{cond, Some, ap, ◌∙◌}
use Rattle.std.specs.Str.{bytes_eq}
use Rattle.ht_values.specs.Text.{folded}
use Rattle.name_lists.specs.Places.{place_in}
use Rattle.name_lists.proofs.Indexed.{kept_after}
use Rattle.name_lists.proofs.places.PlaceMap.keep.Goals as goal

pub returns-clause-ok : goal.returns-clause-ok
returns-clause-ok c other =
    kept_after c.in_ok-key.key.items (folded other) c.args.self.now.entries.entries c.insert.new.self.entries
    (Some c.args.place) c.in_ok-insert.ensures.updates.1 c.in_ok-insert.ensures.updates.3
    ∙ ap (λ t. cond (bytes_eq t (folded other)) (Some c.args.place) (place_in c.args.self.now other))
    c.in_ok-key.ensures.items

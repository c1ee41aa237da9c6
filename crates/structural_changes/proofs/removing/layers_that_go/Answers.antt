use Rattle.std.proofs.Common.{eqb, ap, ◌∙◌}
use Rattle.std.proofs.lemmas.List.Filters.{dedup_is}
use Rattle.object_table.specs.Objects.{contains_id}
use Rattle.structural_changes.specs.Writes.{goes_as_layer}
use Rattle.structural_changes.proofs.Ascending.{sorted_ids}
use Rattle.structural_changes.proofs.Going.{found_layers}
use Rattle.structural_changes.proofs.removing.layers_that_go.Goals as goal

pub returns : goal.returns
returns c =
    let s = c.args.stack.now.content in
    dedup_is eqb c.sort_unstable.new.self.items c.dedup.new.self.items c.dedup.ensures.filtered
    ∙ sorted_ids s.parts (goes_as_layer s c.args.card) c.in_ok-layers.layers.items c.sort_unstable.new.self.items
    (λ z. ap (contains_id z) c.in_ok-layers.ensures
    ∙ found_layers s c.requires.well_formed c.args.card c.requires.card z) c.sort_unstable.ensures.permutation
    c.sort_unstable.ensures.sorted

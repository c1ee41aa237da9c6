use Rattle.std.proofs.Common.{eqb, ap, ◌∙◌, ◌++◌}
use Rattle.std.proofs.lemmas.List.Filters.{dedup_is}
use Rattle.object_table.specs.Objects.{contains_id}
use Rattle.structural_changes.proofs.Ascending.{sorted_ids}
use Rattle.structural_changes.proofs.Leaving.{gone}
use Rattle.structural_changes.proofs.Going.{found_objects}
use Rattle.structural_changes.proofs.removing.objects_that_go.Goals as goal

pub returns : goal.returns
returns c =
    let s = c.args.stack.now.content in
    let of_card = c.in_ok-extend_from_slice.ensures.items ∙ (λ i. c.in_ok-objects.ensures i ++ c.parts_on.ensures i) in
    let found = c.in_ok-extend_from_slice-2.ensures.items ∙ (λ i. of_card i ++ c.parts_with_background.ensures i) in
    dedup_is eqb c.sort_unstable.new.self.items c.dedup.new.self.items c.dedup.ensures.filtered
    ∙ sorted_ids s.objects (gone s c.args.card) c.extend_from_slice-2.new.self.items c.sort_unstable.new.self.items
    (λ z. ap (contains_id z) found ∙ found_objects s c.requires.well_formed c.args.card c.requires.card z)
    c.sort_unstable.ensures.permutation c.sort_unstable.ensures.sorted

use Rattle.std.proofs.Common.{eqb, filter, ap, ◌∙◌, arith}
use Rattle.std.proofs.lemmas.List.{take_all}
use Rattle.std.proofs.lemmas.List.Filters.{dedup_is}
use Rattle.object_table.specs.Objects.{contains_id}
use Rattle.structural_changes.specs.Writes.{is_card_of}
use Rattle.structural_changes.proofs.Ascending.{sorted_ids, cards_found}
use Rattle.structural_changes.proofs.preparing.cards_of.Goals as goal

pub returns : goal.returns
returns c =
    let s = c.args.stack.now.content in
    let past = c.loop-card-test.false in
    let found = c.loop-card.invariant.found
    ∙ ap (filter (is_card_of s c.args.background))
    (take_all c.loop-card.card-index c.as_slice-card-items.result.now (omega arith)
    ∙ c.loop-card.invariant.items) in
    dedup_is eqb c.sort_unstable.new.self.items c.dedup.new.self.items c.dedup.ensures.filtered
    ∙ sorted_ids s.objects (is_card_of s c.args.background) c.loop-card.cards.items c.sort_unstable.new.self.items
    (λ z. ap (contains_id z) found ∙ cards_found s c.requires c.args.background z)
    c.sort_unstable.ensures.permutation c.sort_unstable.ensures.sorted

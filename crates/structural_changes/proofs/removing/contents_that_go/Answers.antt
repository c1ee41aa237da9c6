use Rattle.std.proofs.Common.{◌≡◌, true, sym, subst, ap, ◌∙◌, ◌++◌}
use Rattle.std.specs.List.{AllByRecursion}
use Rattle.std.proofs.lemmas.List.Filters.{dedup_is}
use Rattle.object_table.specs.Objects.{parts_at}
use Rattle.object_table.specs.Pairs.{pair_cmp}
use Rattle.object_table.proofs.Pairs.{same_pair}
use Rattle.structural_changes.specs.Prepared.{has_content}
use Rattle.structural_changes.specs.Writes.{goes_as_content}
use Rattle.structural_changes.proofs.Ascending.{has}
use Rattle.structural_changes.proofs.Filled.{contents-kept}
use Rattle.structural_changes.proofs.Going.{kept, found_contents, sorted_contents}
use Rattle.structural_changes.proofs.removing.contents_that_go.Goals as goal

pub returns-clause-contents : goal.returns-clause-contents
returns-clause-contents c =
    let s = c.args.stack.now.content in
    let w = c.requires.well_formed in
    let card = c.args.card in
    let kind = c.args.kind in
    let kept_by = kept s kind in
    let of_card =
    c.in_ok-add_kept.ensures ∙ (λ i. c.new-found.ensures.items i ++ kept_by (c.parts_on.ensures i) card) in
    let of_background = c.in_ok-add_kept-2.ensures
    ∙ (λ i. of_card i ++ kept_by ((c.parts_on-2.ensures ∙ ap (parts_at s) c.home_of.ensures) i) card) in
    let found = c.in_ok-add_kept-3.ensures ∙ (λ i. of_background i ++ kept_by (c.parts_with_background.ensures i) 0) in
    dedup_is same_pair c.sort_unstable.new.self.items c.dedup.new.self.items c.dedup.ensures.filtered
    ∙ sorted_contents s w card c.requires.card kind c.add_kept-3.new.found.items c.sort_unstable.new.self.items
    (λ q. ap (has pair_cmp q) found ∙ found_contents s w card c.requires.card kind q)
    c.sort_unstable.ensures.permutation c.sort_unstable.ensures.sorted

pub returns-clause-kept : goal.returns-clause-kept
returns-clause-kept c =
    let s = c.args.stack.now.content in
    subst (AllByRecursion (λ p. has_content c.args.kind s p ≡ true)) (sym (returns-clause-contents c))
    (contents-kept c.args.kind s (goes_as_content s c.args.card))

use Rattle.std.proofs.Common.{eqb, filter, ap, ◌∙◌, arith}
use Rattle.std.proofs.lemmas.List.{take_all}
use Rattle.std.proofs.lemmas.List.Filters.{dedup_is}
use Rattle.object_table.specs.Objects.{contains_id, has_kind}
use Rattle.structural_changes.specs.Writes.{is_part_of, keeps}
use Rattle.structural_changes.proofs.Ascending.{sorted_ids, parts_found}
use Rattle.structural_changes.proofs.preparing.parts_of.Goals as goal

pub returns : goal.returns
returns c =
    let s = c.args.stack.now.content in
    let p = keeps c.args.kind in
    let past = c.loop-part-test.false in
    let found = c.loop-part.invariant.found
    ∙ ap (filter (has_kind p s)) (take_all c.loop-part.part-index c.parts_on-part-items.result.now (omega arith)
    ∙ c.loop-part.invariant.items) in
    dedup_is eqb c.sort_unstable.new.self.items c.dedup.new.self.items c.dedup.ensures.filtered
    ∙ sorted_ids s.objects (is_part_of p s c.args.background) c.loop-part.found.items c.sort_unstable.new.self.items
    (λ z. ap (contains_id z) found ∙ parts_found s p c.args.background z) c.sort_unstable.ensures.permutation
    c.sort_unstable.ensures.sorted

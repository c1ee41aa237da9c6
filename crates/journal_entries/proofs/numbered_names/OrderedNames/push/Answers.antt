use Rattle.std.proofs.Common.{◌≡◌, ℕ, [], ◌∷◌, ◌++◌, length, map, subst, sym, ap, ◌∙◌, arith, Some, cond, bytes_eq}
use Rattle.std.proofs.lemmas.List.{map-append}
use Rattle.std.specs.BTreeMap.{get_by}
use Rattle.std.specs.Cmp.Lexicographic.{slice_cmp}
use Rattle.std.specs.Ordering.{nat_cmp}
use Rattle.name_lists.proofs.Indexed.{kept_after}
use Rattle.journal_entries.specs.Named.{IsNumberOf}
use Rattle.journal_entries.proofs.Numbering.{count-map}
use Rattle.journal_entries.proofs.Ordered.{number-added}
use Rattle.journal_entries.proofs.numbered_names.OrderedNames.push.Goals as goal

pub invariant_of-self-2 : goal.invariant_of-self-2
invariant_of-self-2 c =
    let s = c.self.inside in
    let ns = map (λ k. k.items) s.names.items in
    let name = c.args.name.now in
    let names : map (λ k. k.items) c.push_reserved.new.self.items ≡ ns ++ name ∷ [] =
    ap (map (λ k. k.items)) (c.push_reserved.ensures.items
    ∙ ap (λ xs. xs ++ c.in_ok-kept.kept ∷ []) c.reserve.ensures.items)
    ∙ map-append (λ k. k.items) s.names.items (c.in_ok-kept.kept ∷ [])
    ∙ ap (λ n. ns ++ n ∷ []) c.in_ok-kept.ensures.items in
    let number : c.len-number.result ≡ length ns =
    omega (arith, c.len-number.ensures, s.names.ok.0, count-map (λ k. k.items) s.names.items) in
    λ q.
    let found = kept_after c.in_ok-key.key.items q s.numbers.entries c.insert.new.self.entries
    (Some c.len-number.result) c.in_ok-insert.ensures.updates.1 c.in_ok-insert.ensures.updates.3
    ∙ (λ k. cond (bytes_eq (c.in_ok-key.ensures.items k) q) (Some (number k))
    (get_by (λ x. slice_cmp nat_cmp q x.items) s.numbers)) in
    rw names (subst (λ o. IsNumberOf (ns ++ name ∷ []) q o) (sym found)
    (number-added ns name q _ (c.self.invariant q)))

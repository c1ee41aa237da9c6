use Rattle.std.proofs.Common.{◌≡◌, ℕ, ◌-◌, List, ◌∷◌, [], ◌++◌, length, min, unwrap_or, ap, ◌∙◌, append_assoc, take}
use Rattle.std.proofs.Common.{drop, arith, length-drop}
use Rattle.std.proofs.lemmas.List.{take_all}
use Rattle.object_table.specs.Numbers.{number_in}
use Rattle.structural_changes.proofs.Orders.{inserted}
use Rattle.structural_changes.proofs.making.order_with.Goals as goal

pub returns : goal.returns
returns c =
    let ids : List ℕ = c.as_slice-ids.result.now in
    let order : List ℕ = c.args.order.now in
    let at : ℕ = c.min-at.result in
    let size = length-drop at ids in
    let rest : take (length ids - at) (drop at ids) ≡ drop at ids =
    take_all (length ids - at) (drop at ids) (omega arith) in
    let first : c.push.new.self.items ≡ take at ids ++ c.args.id ∷ [] =
    c.in_ok-push.ensures.items ∙ ap (λ l. l ++ c.args.id ∷ []) c.in_ok-longer.ensures.items in
    let o : ids ≡ order = c.as_slice-ids.ensures in
    let u = c.unwrap_or.ensures in
    let n = c.number_of.ensures.value in
    let a : at ≡ min (unwrap_or (number_in c.args.place order) (length order)) (length order) =
    c.min-at.ensures ∙ (λ i. min ((u ∙ (λ j. unwrap_or (n j) (length (o j)))) i) (length (o i))) in
    c.from_vec.ensures
    ∙ c.in_ok-extend_from_slice.ensures.items
    ∙ (λ i. first i ++ rest i)
    ∙ append_assoc (take at ids) (c.args.id ∷ []) (drop at ids)
    ∙ (λ i. take (a i) (o i) ++ c.args.id ∷ drop (a i) (o i))
    ∙ inserted c.args.place c.args.id order

use Rattle.std.proofs.Common.{◌≡◌, ◌<◌, ◌≤◌, ℕ, List, get_or, length, unwrap_or, slice_get, subst, ap, ◌∙◌}
use Rattle.structural_changes.proofs.Orders.{followed_by, followed_by_first}
use Rattle.structural_changes.proofs.removing.following.Goals as goal

pub returns-then-behind-ids : goal.returns-then-behind-ids
returns-then-behind-ids c =
    let order : List ℕ = c.args.order.now in
    let ids : c.as_slice-ids.result.now ≡ order = c.as_slice-ids.ensures in
    let place = c.unwrap_or-behind.ensures ∙ ap (λ x. unwrap_or x 0) c.number_of.ensures.value in
    (λ i. get_or (ids i) (place i) 0)
    ∙ followed_by c.args.place 0 order
    (subst (λ n. n < length order) place
    (subst (λ l. c.unwrap_or-behind.result < length l) ids c.if-behind-ids.true))

pub returns-else-behind-ids : goal.returns-else-behind-ids
returns-else-behind-ids c =
    let order : List ℕ = c.args.order.now in
    let ids : c.as_slice-ids.result.now ≡ order = c.as_slice-ids.ensures in
    let place = c.unwrap_or-behind.ensures ∙ ap (λ x. unwrap_or x 0) c.number_of.ensures.value in
    c.unwrap_or.ensures
    ∙ ap (λ x. unwrap_or x c.args.place) (c.copied.ensures ∙ c.first.ensures.value ∙ ap (λ l. slice_get l 0) ids)
    ∙ followed_by_first c.args.place order
    (subst (λ n. length order ≤ n) place
    (subst (λ l. length l ≤ c.unwrap_or-behind.result) ids c.if-behind-ids.false))

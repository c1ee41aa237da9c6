use Rattle.std.proofs.Common.{◌≡◌, ◌<◌, [], get_or, length, ap, sym, ◌∙◌, rules, subst}
use Rattle.std.specs.Cmp.Lexicographic.{slice_cmp}
use Rattle.std.specs.Ordering.{is_lt, nat_cmp}
use Rattle.std.proofs.lemmas.Cmp.{nat_list_cmp_total}
use Rattle.std.proofs.lemmas.List.Sorted.{ranks_by}
use Rattle.name_lists.specs.Order.{comes_before, form_by}
use Rattle.name_lists.specs.Parameters.{bindings_of, names_bound}
use Rattle.std.proofs.lemmas.Fn.{always_returns_same}
use Rattle.name_lists.proofs.Ordered.{order_from_sorted}
use Rattle.name_lists.proofs.Right.{as_long, form_is}
use Rattle.name_lists.proofs.order.ordered.Goals as goal

pub returns : goal.returns
returns c =
    let written = c.args.written.now in
    let arguments = c.args.arguments.now in
    let names = names_bound (bindings_of written) in
    let long : length arguments ≡ length names = as_long written arguments c.requires in
    let numbers = c.in_ok-order.order.items in
    order_from_sorted names numbers c.sort_unstable_by.new.self.items (c.in_ok-order.ensures.0 ∙ long)
    (λ i within. c.in_ok-order.ensures.1 i (subst (λ n. i < n) (sym long) within)) c.sort_unstable_by.ensures.permutation
    (c.sort_unstable_by.ensures.sorted (comes_before names) (ranks_by nat_list_cmp_total (λ p. get_or names p []))
    (always_returns_same _ _ _ (λ a r next k.
    let at : r ≡ slice_cmp nat_cmp (form_by written arguments a.0.now) (form_by written arguments a.1.0.now) =
    search rules in (
      ap is_lt (at ∙ ap (λ t. slice_cmp nat_cmp t (form_by written arguments a.1.0.now))
          (form_is written arguments a.0.now c.requires)
          ∙ ap (slice_cmp nat_cmp (get_or names a.0.now [])) (form_is written arguments a.1.0.now c.requires)),
      search rules,
    ))))

use Rattle.std.proofs.Common.{◌≡◌, ℕ, [], get_or, ap, sym, ◌∙◌, rules}
use Rattle.std.specs.Cmp.Lexicographic.{slice_cmp}
use Rattle.std.specs.Ordering.{nat_cmp}
use Rattle.ht_values.specs.Text.{folded}
use Rattle.name_lists.specs.Order.{form_by}
use Rattle.name_lists.specs.Parameters.{bindings_of, names_bound}
use Rattle.std.proofs.lemmas.Fn.{always_returns_same}
use Rattle.name_lists.proofs.Ordered.{search_found, search_missing}
use Rattle.name_lists.proofs.Right.{form_is}
use Rattle.name_lists.proofs.order.searched.Goals as goal

pub returns-in-Ok : goal.returns-in-Ok
returns-in-Ok c =
    let written = c.args.written.now in
    let form = folded c.args.name.now in
    let same : (p : ℕ) → slice_cmp nat_cmp (form_by written c.args.arguments.now p) form
    ≡ slice_cmp nat_cmp (get_or (names_bound (bindings_of written)) p []) form =
    λ p. ap (λ t. slice_cmp nat_cmp t form) (form_is written c.args.arguments.now p c.requires.arguments) in
    sym (search_found written c.args.order.now c.requires.ordered c.args.name.now c.in-Ok.at c.in-Ok.ensures.bound
    (c.in-Ok.ensures.position _ (always_returns_same _ _ _ (λ a r next k.
    let at : r ≡ slice_cmp nat_cmp (form_by written c.args.arguments.now a.0.now) form = search rules in
    (at ∙ same a.0.now, search rules)))))

pub returns-in-Err : goal.returns-in-Err
returns-in-Err c =
    let written = c.args.written.now in
    let form = folded c.args.name.now in
    let same : (p : ℕ) → slice_cmp nat_cmp (form_by written c.args.arguments.now p) form
    ≡ slice_cmp nat_cmp (get_or (names_bound (bindings_of written)) p []) form =
    λ p. ap (λ t. slice_cmp nat_cmp t form) (form_is written c.args.arguments.now p c.requires.arguments) in
    sym (search_missing written c.args.order.now c.requires.ordered c.args.name.now c.in-Err.field-0
    (c.in-Err.ensures.position _ (always_returns_same _ _ _ (λ a r next k.
    let at : r ≡ slice_cmp nat_cmp (form_by written c.args.arguments.now a.0.now) form = search rules in
    (at ∙ same a.0.now, search rules)))))

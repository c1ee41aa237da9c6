use Rattle.std.proofs.Common.{◌≡◌, [], false, get_or, ap, sym, ◌∙◌, subst, arith, inl, inr}
use Rattle.std.specs.Str.{bytes_eq}
use Rattle.std.proofs.lemmas.Bool.{cases_lt}
use Rattle.std.proofs.lemmas.Bool.Decides.{same_from_decides}
use Rattle.std.proofs.lemmas.Slice.Eq.{bytes_eq-Decides}
use Rattle.ht_values.specs.Text.{folded, same}
use Rattle.name_lists.specs.Parameters.{bindings_of, names_bound}
use Rattle.name_lists.proofs.Found.{found, missing}
use Rattle.name_lists.proofs.Right.{as_long, form_is, names_apart, names_folded}
use Rattle.name_lists.proofs.order.scanned.Goals as goal

pub returns-then-eq_ignore_ascii_case : goal.returns-then-eq_ignore_ascii_case
returns-then-eq_ignore_ascii_case c =
    let written = c.args.written.now in
    let names = names_bound (bindings_of written) in
    let place = c.loop-place.place in
    let here : folded c.name_at.result.now ≡ get_or names place [] =
    c.name_at.ensures ∙ form_is written c.args.arguments.now place c.requires in
    let form : get_or names place [] ≡ folded c.args.name.now =
    sym here ∙ c.eq_ignore_ascii_case.ensures.test.0 c.if-eq_ignore_ascii_case.true in
    sym (found names (names_folded written) c.args.name.now (names_apart written) place
    (omega (arith, c.loop-place-test.true, as_long written c.args.arguments.now c.requires)) form)

pub loop-place-preserved : goal.loop-place-preserved
loop-place-preserved c k less =
    let written = c.args.written.now in
    let names = names_bound (bindings_of written) in
    let place = c.loop-place.place in
    let here : folded c.name_at.result.now ≡ get_or names place [] =
    c.name_at.ensures ∙ form_is written c.args.arguments.now place c.requires in
    let form : bytes_eq (get_or names place []) (folded c.args.name.now) ≡ false =
    ap (λ t. bytes_eq t (folded c.args.name.now)) (sym here)
    ∙ sym (same_from_decides c.eq_ignore_ascii_case.result (same c.name_at.result.now c.args.name.now)
    c.eq_ignore_ascii_case.ensures.test (bytes_eq-Decides (folded c.name_at.result.now) (folded c.args.name.now)))
    ∙ c.if-eq_ignore_ascii_case.false in
    elim (cases_lt k place) [
      | inl before ↦ c.loop-place.invariant k before
      | inr past ↦ subst (λ q. bytes_eq (get_or names q []) (folded c.args.name.now) ≡ false) {x = place} {y = k}
          (omega (arith, less, past)) form
    ]

pub returns : goal.returns
returns c =
    let written = c.args.written.now in
    let names = names_bound (bindings_of written) in
    sym (missing names (names_folded written) c.args.name.now (λ p within.
    c.loop-place.invariant p
    (omega (arith, within, c.loop-place-test.false, as_long written c.args.arguments.now c.requires))))

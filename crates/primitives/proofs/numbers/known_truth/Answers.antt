use Rattle.std.proofs.Common.{ap, sym, ◌∙◌, SFits, rules, w64}
use Rattle.std.proofs.lemmas.Int.{to_z-of_z}
use Rattle.std.proofs.lemmas.Option.{IfSome_then}
use Rattle.ht_tree.specs.View.{form_of}
use Rattle.primitives.proofs.Kept.{truth_is}
use Rattle.primitives.proofs.numbers.known_truth.Goals as goal

pub returns : goal.returns
returns g c =
    let x = c.in_ok-x.x in
    let y = c.in_ok-y.y in
    let left : SFits w64 x = search rules in
    let right : SFits w64 y = search rules in
    let meaning = rw (to_z-of_z w64 x left, to_z-of_z w64 y right) at c.truth_by.ensures.meaning in
    let kind = sym c.form.ensures ∙ ap form_of c.in-Binary.is in
    IfSome_then c.truth_by.result meaning (λ b h. truth_is x y c.in_ok-x.ensures c.in_ok-y.ensures b kind h)

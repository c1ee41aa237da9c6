use Rattle.std.proofs.Common.{◌∙◌, subst}
use Rattle.bstr.specs.Find.{FindsNeedle}
use Rattle.ht_values.specs.Text.{folded}
use Rattle.ht_values.proofs.search.place_in_copies.Goals as goal

pub returns : goal.returns
returns c =
    let run = c.deref-2.ensures.value ∙ c.in_ok-run.ensures in
    let text = c.deref.ensures.value ∙ c.in_ok-text.ensures in
    subst (λ t. FindsNeedle t (folded c.args.run.now) 0 c.find.result) text
    (subst (λ r. FindsNeedle c.deref.result.now r 0 c.find.result) run c.find.ensures)

use Rattle.std.proofs.Common.{◌≡◌, sym, ◌∙◌, ap, subst, SFits, w64, rules}
use Rattle.std.specs.Prelude.{IsTrue}
use Rattle.std.proofs.lemmas.Int.{to_z-of_z}
use Rattle.ht_values.specs.Number.{is_numeral, value_of}
use Rattle.ht_values.specs.Spelling.{spelled_form}
use Rattle.ht_values.specs.Text.{numeral}
use Rattle.ht_values.proofs.Spellings.{numeral_is_one}
use Rattle.ht_values.proofs.value.Value.numeral.Goals as goal

pub returns-in-Number : goal.returns-in-Number
returns-in-Number c =
    let z = c.in-Number.number in
    let fits : SFits w64 z = search rules in
    let is : numeral z ≡ c.args.self.now = sym (ap spelled_form c.in-Number.is) ∙ c.self.view_is in
    rw (to_z-of_z w64 z fits) (subst (λ t. IsTrue (is_numeral t) × (z ≡ value_of t)) is (numeral_is_one z fits))

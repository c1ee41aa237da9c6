use Rattle.std.proofs.Common.{ap, ◌∙◌, SFits, rules, w64}
use Rattle.std.proofs.lemmas.Int.{to_z-of_z}
use Rattle.ht_values.specs.Number.{number_of}
use Rattle.primitives.proofs.Kept.{known_is}
use Rattle.primitives.proofs.numbers.known_number.Goals as goal

pub returns : goal.returns
returns g c =
    let z = c.in_ok-number_at_once.field-0 in
    let fits : SFits w64 z = search rules in
    let value = rw (to_z-of_z w64 z fits) at c.of_number-number.ensures in
    rw c.ok.ensures.value
    (known_is z c.in_ok-number_at_once.ensures c.number.result (c.number.ensures ∙ ap number_of value))

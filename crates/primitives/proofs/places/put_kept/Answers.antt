use Rattle.std.proofs.Common.{refl, SFits, rules, w64}
use Rattle.std.proofs.lemmas.Int.{to_z-of_z}
use Rattle.meaning.specs.Places.{Edits}
use Rattle.primitives.proofs.places.put_kept.Goals as goal

pub returns-in-Some-clause-put : goal.returns-in-Some-clause-put
returns-in-Some-clause-put c e w d =
    let z = c.in-Some.number in
    let fits : SFits w64 z = search rules in
    let writes = rw (to_z-of_z w64 z fits) at (c.put_number.ensures.put e w d) in
    rw c.in-Some.ensures (Edits.edited writes refl)

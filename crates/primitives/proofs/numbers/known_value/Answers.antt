use Rattle.std.proofs.Common.{SFits, rules, w64}
use Rattle.std.proofs.lemmas.Int.{to_z-of_z}
use Rattle.std.proofs.lemmas.Option.{IfSome_then}
use Rattle.primitives.proofs.Kept.{binary_is}
use Rattle.primitives.proofs.numbers.known_value.Goals as goal

pub returns : goal.returns
returns g c =
    let x = c.in_ok-x.x in
    let y = c.in_ok-y.y in
    let left : SFits w64 x = search rules in
    let right : SFits w64 y = search rules in
    let meaning = rw (to_z-of_z w64 x left, to_z-of_z w64 y right) at c.by_numbers.ensures in
    IfSome_then c.by_numbers.result meaning (λ v h. binary_is x y c.in_ok-x.ensures c.in_ok-y.ensures h)

use Rattle.std.proofs.Common.{◌≡◌, ◌<◌, ◌≤◌, ◌∷◌, ◌++◌, [], ap, sym, ◌∙◌, map, take, length, arith}
use Rattle.std.proofs.Common.{append-nil, drop_of_length-le}
use Rattle.std.proofs.lemmas.List.{map-append, take-append-drop, take_more}
use Rattle.name_lists.specs.Parameters.{bindings_of}
use Rattle.containers.specs.Variables.{local_given}
use Rattle.containers.proofs.indexed_locals.all_given.Goals as goal

pub loop-place-preserved : goal.loop-place-preserved
loop-place-preserved c =
    let bs = bindings_of c.args.parameters.now in
    let f = local_given c.args.arguments.now in
    let place = c.loop-place.place in
    let b = c.in_ok-binding.field-0 in
    let within : place < length bs = omega (arith, c.loop-place-test.true, c.count-count.ensures) in
    c.in_ok-push.ensures.items ∙ ap (λ ls. ls ++ c.in_ok-given.field-0 ∷ []) c.loop-place.invariant
    ∙ ap (λ l. map f (take place bs) ++ l ∷ []) (c.in_ok-given.ensures ∙ ap f (sym (c.in_ok-binding.ensures b)))
    ∙ sym (ap (map f) (take_more bs place b within) ∙ map-append f (take place bs) _)

pub returns : goal.returns
returns c =
    let bs = bindings_of c.args.parameters.now in
    let all : length bs ≤ c.loop-place.place = omega (arith, c.loop-place-test.false, c.count-count.ensures) in
    let whole : take c.loop-place.place bs ≡ bs =
    sym (append-nil (take c.loop-place.place bs)) ∙ ap (λ rest. take c.loop-place.place bs ++ rest)
    (sym (drop_of_length-le bs all)) ∙ take-append-drop c.loop-place.place bs in
    c.loop-place.invariant ∙ ap (map (local_given c.args.arguments.now)) whole

use Rattle.std.proofs.Common.{◌≡◌, ◌++◌, ◌∷◌, ℕ, List, [], ap, sym, ◌∙◌, position}
use Rattle.std.specs.Str.{bytes_eq}
use Rattle.std.proofs.lemmas.Result.{on_ok_weaker}
use Rattle.ht_values.specs.Text.{folded, same}
use Rattle.name_lists.specs.declared.parameters.Binding.{Binding}
use Rattle.name_lists.proofs.Bindings.{argument_added, argument_set}
use Rattle.name_lists.proofs.Right.{twice}
use Rattle.name_lists.proofs.parameters.bind.Goals as goal

abbrev nobody : Binding
nobody = record { name = []; argument = 0 }

-- a name stands where its folded form does
stands : (written form : List ℕ) (bs : List Binding) → form ≡ folded written
    → position (λ b. same b.name written) bs ≡ position (λ b. same b.name form) bs
stands written form bs e =
    ap (λ t. position (λ b. bytes_eq (folded b.name) t) bs) (sym (ap folded e ∙ twice written))

pub returns-in-Some-clause-bindings : goal.returns-in-Some-clause-bindings
returns-in-Some-clause-bindings c =
    let bs = c.args.bound.now.bindings.items in
    let at = stands c.args.name.now c.in_ok-name.name bs c.in_ok-name.ensures in
    c.set_argument.ensures.value nobody
    ∙ sym (argument_set c.args.name.now c.args.argument bs _ nobody
    (at ∙ sym c.number_of.ensures.value ∙ c.in-Some.is))

pub returns-in-Some-clause-places : goal.returns-in-Some-clause-places
returns-in-Some-clause-places c = rw c.set_argument.ensures.names c.requires

pub returns-in-None-clause-bindings : goal.returns-in-None-clause-bindings
returns-in-None-clause-bindings c =
    let bs = c.args.bound.now.bindings.items in
    let absent = stands c.args.name.now c.in_ok-name.name bs c.in_ok-name.ensures
    ∙ sym c.number_of.ensures.value ∙ c.in-None.is in
    on_ok_weaker c.add.result
    (λ e. e ∙ ap (λ n. bs ++ record { name = n; argument = c.args.argument } ∷ []) c.in_ok-name.ensures
    ∙ sym (argument_added c.args.name.now c.args.argument bs absent))
    c.add.ensures.bindings

use Rattle.std.proofs.Common.{◌≡◌, ◌<◌, [], get_or, length, ap, sym, ◌∙◌, subst, arith}
use Rattle.std.proofs.lemmas.Option.{get_or_from_slice_get, slice_get-get_or}
use Rattle.ht_values.specs.Text.{folded}
use Rattle.name_lists.specs.Parameters.{bindings_of}
use Rattle.name_lists.specs.declared.parameters.Binding.{Binding}
use Rattle.name_lists.proofs.Right.{argument_of_binding, binding_right}
use Rattle.name_lists.proofs.bound_names.BoundNames.binding.Goals as goal

pub index-requires : goal.index-requires
index-requires c =
    let written = c.self.inside.written.items in
    let nobody : Binding = record { name = []; argument = 0 } in
    let within : c.args.place < length (bindings_of written) =
    subst (λ names. c.args.place < length (bindings_of names)) (sym c.self.view_is) c.requires in
    let at = argument_of_binding written c.self.inside.arguments.items c.args.place c.index-argument.result.now nobody
    c.self.invariant.0 within in
    omega (arith, c.index-argument.ensures, at, (binding_right written c.args.place nobody within).0, c.self.inside.written.ok.0)

pub returns : goal.returns
returns c d =
    let written = c.self.inside.written.items in
    let within : c.args.place < length (bindings_of written) =
    subst (λ names. c.args.place < length (bindings_of names)) (sym c.self.view_is) c.requires in
    let bound = get_or (bindings_of written) c.args.place d in
    let argument : bound.argument ≡ c.index-argument.result.now =
    sym (c.index-argument.ensures ∙ argument_of_binding written c.self.inside.arguments.items c.args.place
    c.index-argument.result.now d c.self.invariant.0 within) in
    let name : bound.name ≡ c.in_ok-name.name =
    (binding_right written c.args.place d within).1 ∙ ap (λ a. folded (get_or written a [])) argument
    ∙ ap folded (get_or_from_slice_get written c.index-argument.result.now
    (get_or written c.index-argument.result.now c.index.result.now) []
    (slice_get-get_or written c.index-argument.result.now c.index.result.now
    (subst (λ a. a < length written) argument (binding_right written c.args.place d within).0)) ∙ sym c.index.ensures)
    ∙ sym c.in_ok-name.ensures in
    ap (λ names. get_or (bindings_of names) c.args.place d) (sym c.self.view_is)
    ∙ (λ j. record { name = name j; argument = argument j })

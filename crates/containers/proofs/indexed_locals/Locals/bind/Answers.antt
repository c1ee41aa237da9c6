use Rattle.std.proofs.Common.{◌≡◌, ap, ◌∙◌, map}
use Rattle.name_lists.specs.Parameters.{bindings_of, names_bound}
use Rattle.containers.proofs.Given.{given_names}
use Rattle.containers.proofs.indexed_locals.Locals.bind.Goals as goal

pub invariant_of-self : goal.invariant_of-self
invariant_of-self c =
    let names : map (λ l. l.name) c.in_ok-items.items.items ≡ names_bound (bindings_of c.args.parameters.now) =
    ap (map (λ l. l.name)) c.in_ok-items.ensures
    ∙ given_names c.args.arguments.now (bindings_of c.args.parameters.now) in
    rw names c.in_ok-self-inside.ensures

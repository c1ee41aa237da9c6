use Rattle.std.proofs.Common.{◌≡◌, map, take}
use Rattle.name_lists.specs.Parameters.{bindings_of}
use Rattle.containers.specs.Variables.{local_given}
use Rattle.containers.proofs.indexed_locals.all_given.Given as goal

abbrev pub invariant-loop-place : goal.invariant-loop-place
invariant-loop-place l = l.locals.items ≡ map (local_given l.arguments) (take l.place (bindings_of l.parameters))

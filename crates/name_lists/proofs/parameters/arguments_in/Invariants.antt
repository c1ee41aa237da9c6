use Rattle.std.proofs.Common.{◌≡◌, map, take}
use Rattle.name_lists.proofs.parameters.arguments_in.Given as goal

abbrev pub invariant-loop-binding : goal.invariant-loop-binding
invariant-loop-binding l = l.arguments.items ≡ map (λ b. b.argument) (take l.binding-index l.binding-items)

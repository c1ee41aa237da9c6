use Rattle.std.proofs.Common.{◌≡◌, drop}
use Rattle.name_lists.specs.Places.{AreIndexed, place_in}
use Rattle.name_lists.specs.Parameters.{bindings_of, bound_from, names_bound}
use Rattle.name_lists.proofs.parameters.all_bound.Given as goal

abbrev pub invariant-loop-i : goal.invariant-loop-i
invariant-loop-i l = record {
  bindings : bound_from l.i (drop l.i l.names) l.bound.bindings.items ≡ bindings_of l.names;
  places : AreIndexed (place_in l.bound.places) (names_bound l.bound.bindings.items);
}

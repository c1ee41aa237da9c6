use Rattle.std.proofs.Common.{◌≡◌, map, take}
use Rattle.std.specs.FinMap.{entries, from_entries}
use Rattle.std.specs.Map.Iter.{deref_pair}
use Rattle.journal_entries.specs.Named.{listed}
use Rattle.journal_entries.specs.State.{Globals}
use Rattle.session.proofs.GlobalsInOrder.{place}
use Rattle.session.proofs.queries.globals_in_order.Given as goal

-- the globals so far are in order
abbrev pub invariant-loop-i : goal.invariant-loop-i
invariant-loop-i g l =
    let names = l.world.names in
    let m = l.world.history.now.globals in
    let so_far : Globals = from_entries (take (place names m l.i) (listed names m)) in
    map deref_pair l.ordered.entries ≡ entries so_far

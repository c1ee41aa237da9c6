use Rattle.std.proofs.Common.{take}
use Rattle.journal_entries.specs.Renumbered.{IsOf, HasValued}
use Rattle.change_journal.specs.Batches.{AllNeeded}
use Rattle.change_journal.proofs.world.needed_names.Given as goal

abbrev pub invariant-loop-i : goal.invariant-loop-i
invariant-loop-i g l = record {
  of : IsOf l.present.names l.renumbering;
  valued : HasValued l.present.names l.present.state.globals l.renumbering;
  needed : AllNeeded l.renumbering (take l.i l.batches.items);
}

use Rattle.std.proofs.Common.{◌≡◌, ◌++◌, length, take, drop}
use Rattle.change_journal.specs.Batches.{AllNeeded, batches_renumbered}
use Rattle.change_journal.proofs.world.renumber_each.Given as goal

abbrev pub invariant-loop-i : goal.invariant-loop-i
invariant-loop-i l = record {
  count : length l.batches.items ≡ length l.initial.batches.items;
  needed : AllNeeded l.renumbering (drop l.i l.batches.items);
  batches : take l.i l.batches.items ++ batches_renumbered l.renumbering (drop l.i l.batches.items)
      ≡ batches_renumbered l.renumbering l.initial.batches.items;
}

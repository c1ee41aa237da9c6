use Rattle.std.proofs.Common.{◌≡◌, ◌++◌, take, drop}
use Rattle.journal_entries.specs.Renumbered.{AreNeeded, all_renumbered}
use Rattle.journal_entries.proofs.renumbering.renumber_each.Given as goal

abbrev pub invariant-loop-i : goal.invariant-loop-i
invariant-loop-i l = record {
  needed : AreNeeded l.renumbering (drop l.i l.entries);
  entries : take l.i l.entries ++ all_renumbered l.renumbering (drop l.i l.entries)
      ≡ all_renumbered l.renumbering l.initial.entries;
}

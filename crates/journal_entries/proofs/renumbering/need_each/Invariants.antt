use Rattle.std.proofs.Common.{take, drop}
use Rattle.journal_entries.specs.Exchange.{AreReady, shape_of}
use Rattle.journal_entries.specs.Renumbered.{IsOf, IsMore, AreNeeded}
use Rattle.journal_entries.proofs.renumbering.need_each.Given as goal

abbrev pub invariant-loop-i : goal.invariant-loop-i
invariant-loop-i g l = record {
  of : IsOf l.present.names l.renumbering;
  ready : AreReady (shape_of l.present) (drop l.i l.entries);
  needed : AreNeeded l.renumbering (take l.i l.entries);
  more : IsMore l.initial.renumbering l.renumbering;
}

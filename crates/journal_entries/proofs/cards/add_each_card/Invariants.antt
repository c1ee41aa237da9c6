use Rattle.std.proofs.Common.{take}
use Rattle.journal_entries.specs.Cards.{AreAmong, HasAll}
use Rattle.journal_entries.proofs.cards.add_each_card.Given as goal

abbrev pub invariant-loop-i : goal.invariant-loop-i
invariant-loop-i l = record {
  among : AreAmong l.cards (take l.i l.entries);
  more : HasAll l.initial.cards l.cards;
}

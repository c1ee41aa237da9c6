use Rattle.std.proofs.Common.{take}
use Rattle.change_journal.specs.Batches.{AllAmong}
use Rattle.change_journal.proofs.world.exchanged_cards.Given as goal

abbrev pub invariant-loop-i : goal.invariant-loop-i
invariant-loop-i l = record { among : AllAmong l.cards (take l.i l.batches.items) }

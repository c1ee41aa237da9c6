use Rattle.std.proofs.Common.{ℕ, ◌<◌, IsSome}
use Rattle.std.specs.FinMap.{get}
use Rattle.journal_entries.specs.Exchange.{name_at}
use Rattle.journal_entries.specs.Renumbered.{IsOf, number_in}
use Rattle.journal_entries.proofs.globals.Globals.renumbering.Given as goal

abbrev pub invariant-loop-i : goal.invariant-loop-i
invariant-loop-i l = record {
  of : IsOf l.self.names l.renumbering;
  valued : (k : ℕ) → k < l.i → IsSome (get l.self.texts (name_at l.self.names k))
      → IsSome (number_in l.renumbering k);
}

-- That the meanings come to something, with enough fuel.
use Rattle.std.proofs.Common.{◌≡◌, ℕ, ◌<◌, List, length, slice_index_or}
use Rattle.ht_grammar.specs.Laws.{TextsAreReadExactly}
use Rattle.externals.specs.Log.{Log, Follows}
use Rattle.externals.specs.Turns.{TurnTable}
use Rattle.change_journal.specs.History.{History}
use Rattle.change_journal.specs.Logs.{log_at, turns_since}
use Rattle.preservation.specs.Kinds.{sorts}
use Rattle.preservation.specs.Laws.{IsPrefix}
pub use Rattle.preservation.proofs.Logs.{Kept}
pub use Rattle.preservation.proofs.Prefixes.{prefix_same}
use Rattle.definitional_interpreter.specs.Told.{Visible, seen_since}
use Rattle.definitional_interpreter.specs.Turns.{nondeterministic}
use Rattle.definitional_interpreter.specs.Families.{Meanings}
use Rattle.definitional_interpreter.specs.Laws.{Enough}

pub record HasExternal (w : History) (k : ℕ) : Type 0 where
  pub there : k < length (sorts w)

-- How a run is seen: the table and the turns that tell those of its externals, and the logs with which it began.
pub record Sight : Type 0 where
  pub table : TurnTable
  pub turns : ℕ → Log
  pub old : List Log

-- a history, seen so
abbrev pub sight : Sight → History → Visible
sight g w = seen_since g.table g.turns g.old w

-- What is asked of a part of a run: that each external has a log that goes on from the old one, and that the turns up
-- to its end are told.
pub record Asks (g : Sight) (w w2 : History) : Type 0 where
  pub logs : length w.logs ≡ length (sorts w)
  pub count : length g.old ≡ length w.logs
  pub grown : (i : ℕ) → IsPrefix (log_at g.old i) (log_at w.logs i)
  pub follow : (i : ℕ) → i < length (sorts w)
      → Follows g.table (slice_index_or (sorts w) i 0) (turns_since g.old w2.logs i)
  pub beside : (i : ℕ) → i < length (sorts w)
      → IsPrefix (nondeterministic g.table (slice_index_or (sorts w) i 0) (turns_since g.old w2.logs i)) (g.turns i)

-- From one history to another, with the same externals, the meanings come to this where that is so which is asked.
pub record Comes {X : Type 0} (g : Sight) (w : History) (F : Meanings → X) (x : X) (w2 : History) : Type 0 where
  pub kept : Kept w w2
  pub gives : TextsAreReadExactly → Asks g w w2 → Enough (λ parts. F parts ≡ x)

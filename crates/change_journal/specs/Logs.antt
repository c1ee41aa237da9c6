-- What the logs of externals have more after a run than before it.
use Rattle.std.specs.Prelude.{◌≡◌, ℕ, ◌<◌, List, [], length, drop, slice_index_or}
use Rattle.externals.specs.Turns.{TurnTable}
use Rattle.externals.specs.Log.{Log, Follows}
use Rattle.journal_entries.specs.State.{State, seen_at}

-- each external of a state has a log
abbrev pub HaveLogs : State → List Log → Type 0
HaveLogs s logs = length logs ≡ length s.externals

-- the log of the i-th external
abbrev pub log_at : List Log → ℕ → Log
log_at logs i = slice_index_or logs i []

-- the turns that the i-th external took from the old logs to the new ones
abbrev pub turns_since : (old new : List Log) → ℕ → Log
turns_since old new i = drop (length (log_at old i)) (log_at new i)

-- each turn that an external of the state took since is that of the table, where this has one
abbrev pub FollowSince : TurnTable → State → (old new : List Log) → Type 0
FollowSince table s old new =
    (i : ℕ) → i < length s.externals → Follows table (seen_at s i).sort (turns_since old new i)

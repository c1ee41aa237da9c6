-- Turns of externals that a table has, and those that it hasn't.
use Rattle.std.specs.Prelude.{◌≡◌, ℕ, ◌<◌, Bool, is_none, List, [], ◌∷◌, filter, length, drop, slice_index_or, Some}
use Rattle.externals.specs.Log.{Log, LoggedTurn}
use Rattle.externals.specs.Turns.{Turn, TurnTable}
use Rattle.externals.specs.declared.external.Input.{Input}
pub use Rattle.preservation.specs.Kinds.{sorts_of}

-- a deterministic kind: the table has each of its turns
abbrev pub IsDeterministic : TurnTable → ℕ → Type 0
IsDeterministic table sort =
    (cells : List (List ℕ)) (input : Input) → (turn : Turn) × (table sort cells input ≡ Some turn)

-- each external is deterministic
abbrev pub AreDeterministic : TurnTable → List ℕ → Type 0
AreDeterministic table kinds = (i : ℕ) → i < length kinds → IsDeterministic table (slice_index_or kinds i 0)

-- the table doesn't have the turn
abbrev pub is_nondeterministic : TurnTable → ℕ → LoggedTurn → Bool
is_nondeterministic table sort turn = is_none (table sort turn.before turn.input)

-- the turns of an external of this kind that the table doesn't have
abbrev pub nondeterministic : TurnTable → ℕ → Log → Log
nondeterministic table sort = filter (is_nondeterministic table sort)

-- what each log has behind what it had
abbrev pub logs_since : (old new : List Log) → List Log
logs_since [] new = []
logs_since (log ∷ old) [] = []
logs_since (log ∷ old) (grown ∷ new) = drop (length log) grown ∷ logs_since old new

-- Moves of the cursor to other places of a history.
use Rattle.std.specs.Prelude.{◌≡◌, ℕ, zero, suc, List, ◌∷◌, length, map, Option, Some, None, Result, IsOk, IsErrOf}
use Rattle.std.specs.Prelude.{nat_le, if◌then◌else◌}
use Rattle.std.specs.List.{position}
use Rattle.change_journal.specs.History.{History, flipped_back, flipped_forth}
use Rattle.session.specs.declared.reply.Refusal.{Refusal}

-- one place after the other
abbrev pub back_by : ℕ → History → History
back_by zero h = h
back_by (suc k) h = back_by k (flipped_back h)

abbrev pub forth_by : ℕ → History → History
forth_by zero h = h
forth_by (suc k) h = forth_by k (flipped_forth h)

-- the history after undo and redo, or none where there are fewer places
abbrev pub undone : ℕ → History → Option History
undone k h = if nat_le k (length h.past) then Some (back_by k h) else None

abbrev pub redone : ℕ → History → Option History
redone k h = if nat_le k (length h.future) then Some (forth_by k h) else None

-- the number of the present state, and those of the states before it
abbrev pub stamps : History → List ℕ
stamps h = h.stamp ∷ map (λ step. step.stamp) h.past

-- how far before the cursor the last state stands whose number is at most this
abbrev pub places_to : ℕ → History → Option ℕ
places_to n h = position (λ stamp. nat_le stamp n) (stamps h)

abbrev pub undone_by : History → Option ℕ → Option History
undone_by h None = None
undone_by h (Some zero) = None
undone_by h (Some (suc k)) = Some (back_by (suc k) h)

-- The history after undo to a line: the cursor stands on that state; none where it does already, or where there
-- is no such state.
abbrev pub undone_to : ℕ → History → Option History
undone_to n h = undone_by h (places_to n h)

-- the cursor moves there, or there is no such place
abbrev pub MovesTo : Option History → Refusal → History → Result (Unit {0}) Refusal → History → Type 0
MovesTo (Some there) refusal old result new = IsOk result × (new ≡ there)
MovesTo None refusal old result new = IsErrOf result refusal × (new ≡ old)

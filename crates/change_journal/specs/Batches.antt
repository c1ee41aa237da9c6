-- The batches that stand for a history.
use Rattle.std.specs.Prelude.{nat_lt, if◌then◌else◌, ℕ, ◌<◌, ◌≤◌, List, [], ◌∷◌, length, take, drop, reverse, Option}
use Rattle.std.specs.Prelude.{Some, None, map}
use Rattle.std.specs.BTreeSet.{BTreeSet}
use Rattle.journal_entries.specs.State.{State}
use Rattle.journal_entries.specs.Cards.{AreAmong}
use Rattle.journal_entries.specs.Exchange.{PresentView, BatchView, Shape, back, back_taken, forth, forth_taken, weight}
use Rattle.journal_entries.specs.Exchange.{trail_of, shape_of, AreReady}
use Rattle.journal_entries.specs.Renumbered.{RenumberingView, AreNeeded, batch_renumbered}
use Rattle.change_journal.specs.History.{Neighbour, Open, History, IsHistory}

-- What World holds but for the open batch: the present state, the number of the oldest state, the greatest
-- number of states before the cursor, the batches from the oldest on, and how many of them lead back.
pub record Journal : Type 0 where
  pub present : PresentView
  pub oldest : ℕ
  pub depth : ℕ
  pub batches : List BatchView
  pub cursor : ℕ

-- the number of the state from which these batches lead back, the nearest first
abbrev pub stamp_of : ℕ → List BatchView → ℕ
stamp_of oldest [] = oldest
stamp_of oldest (b ∷ bs) = b.number

-- the states that batches lead back to, the nearest first
abbrev pub past_steps : List (List ℕ) → ℕ → State → List BatchView → List Neighbour
past_steps names oldest s [] = []
past_steps names oldest s (b ∷ bs) = record {
  state = back names s b.entries;
  stamp = stamp_of oldest bs;
  undo = weight
      b.entries;
  redo = weight (back_taken names s b.entries);
  trail = trail_of names b.entries;
}
    ∷ past_steps names oldest (back names s b.entries) bs

-- the states that batches lead forth to
abbrev pub future_steps : List (List ℕ) → State → List BatchView → List Neighbour
future_steps names s [] = []
future_steps names s (b ∷ bs) = record {
  state = forth names s b.entries;
  stamp = b.number;
  undo = weight
      (forth_taken names s b.entries);
  redo =
      weight b.entries;
  trail = trail_of names b.entries;
} ∷ future_steps names (forth names s b.entries) bs

-- the batches that lead back, the nearest first, and those that lead forth
abbrev pub undoable : Journal → List BatchView
undoable b = reverse (take b.cursor b.batches)

abbrev pub redoable : Journal → List BatchView
redoable b = drop b.cursor b.batches

-- the history round this state
abbrev pub around : Journal → State → Option Open → History
around b s start = record {
  past = past_steps b.present.names b.oldest s (undoable b);
  now = b.present.state;
  stamp =
      stamp_of b.oldest (undoable b);
  future =
      future_steps b.present.names s (redoable b);
  start = start;
  depth = b.depth;
  logs = b.present.logs;
}

-- the open batch, which leads back from this state
abbrev pub open_of : List (List ℕ) → State → BatchView → Open
open_of names s b = record {
  state = back names s b.entries;
  number = b.number;
  undo = weight b.entries;
  redo = weight
      (back_taken names s b.entries);
  trail = trail_of names b.entries;
}

abbrev pub history_of : Journal → Option BatchView → History
history_of b None = around b b.present.state None
history_of b (Some batch) = around b (back b.present.names b.present.state batch.entries)
    (Some (open_of b.present.names b.present.state batch))

-- the batches that stay of these, the oldest first, where at most one is too many
abbrev pub newest : ℕ → List BatchView → List BatchView
newest depth bs = if nat_lt depth (length bs) then drop 1 bs else bs

-- and the number of the oldest state that they lead back to
abbrev pub first_number : ℕ → List BatchView → ℕ
first_number oldest [] = oldest
first_number oldest (b ∷ bs) = b.number

abbrev pub oldest_of : ℕ → ℕ → List BatchView → ℕ
oldest_of depth oldest bs = if nat_lt depth (length bs) then first_number oldest bs else oldest

abbrev pub AllReady : Shape → List BatchView → Type 0
AllReady h [] = Unit {0}
AllReady h (b ∷ bs) = AreReady h b.entries × AllReady h bs

-- where a batch is open, its entries are ready and the list of batches has room for it
abbrev pub IsOpenReady : Shape → Option BatchView → ℕ → ℕ → Type 0
IsOpenReady h None n room = Unit {0}
IsOpenReady h (Some b) n room = AreReady h b.entries × (n < room)

pub record IsSound (b : Journal) (room : ℕ) (batch : Option BatchView) : Type 0 where
  pub within : b.cursor ≤ length b.batches
  pub few : length b.batches ≤ b.depth
  pub some : 0 < b.depth
  pub ready : AllReady (shape_of b.present) b.batches
  pub opened : IsOpenReady (shape_of b.present) batch (length b.batches) room
  pub history : IsHistory (history_of b batch)

-- the names of all globals that these batches exchange are needed
abbrev pub AllNeeded : RenumberingView → List BatchView → Type 0
AllNeeded r [] = Unit {0}
AllNeeded r (b ∷ bs) = AreNeeded r b.entries × AllNeeded r bs

-- the batches with the new numbers of those names
abbrev pub batches_renumbered : RenumberingView → List BatchView → List BatchView
batches_renumbered r = map (batch_renumbered r)

-- the cards whose texts and hilites these batches exchange are among these
abbrev pub AllAmong : BTreeSet ℕ → List BatchView → Type 0
AllAmong cards [] = Unit {0}
AllAmong cards (b ∷ bs) = AreAmong cards b.entries × AllAmong cards bs

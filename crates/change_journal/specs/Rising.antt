-- What a change and a turn make of an open history.
use Rattle.std.specs.Prelude.{◌≡◌, ℕ, ◌+◌, ◌≤◌, List, [], ◌∷◌, Option, Some, All}
use Rattle.ht_values.specs.Text.{IsText}
use Rattle.externals.specs.Turns.{AskTexts}
use Rattle.externals.specs.declared.external.Input.{Input}
use Rattle.externals.specs.declared.external.Ask.{Ask}
use Rattle.journal_entries.specs.State.{seen_at}
use Rattle.journal_entries.specs.Changes.{changed}
use Rattle.journal_entries.specs.Replaced.{Replacement, replaced_by, replaced_by_turn, back_weight, forth_weight}
use Rattle.journal_entries.specs.Trails.{Mark, mark_at, marked, turned}
use Rattle.journal_entries.specs.Turning.{Turns, logs_after}
use Rattle.journal_entries.specs.declared.change.Change.{Change}
use Rattle.change_journal.specs.History.{Open, History}

-- the trail after these were replaced: a place that its last segment holds already adds nothing
abbrev pub trail_after : List Replacement → List Mark → List Mark
trail_after [] trail = trail
trail_after (r ∷ rs) trail = trail_after rs (marked (mark_at r.place) trail)

-- the trail after a turn that replaced these: one that changes no cell adds nothing
abbrev pub trail_after_turn : List Replacement → List Mark → List Mark
trail_after_turn [] trail = trail
trail_after_turn (r ∷ rs) trail = turned ∷ trail

-- The open batch after these were replaced: it goes back to the same state and belongs to the same line, each
-- weight rises by at most theirs, and its trail has these marks.
pub record Rises (replaced : List Replacement) (marks : List Mark) (old new : Open) : Type 0 where
  pub state : new.state ≡ old.state
  pub number : new.number ≡ old.number
  pub undo : new.undo ≤ old.undo + back_weight replaced
  pub redo : new.redo ≤ old.redo + forth_weight replaced
  pub trail : new.trail ≡ marks

-- what holds of the batch that is open before and after
abbrev pub BothOpen : Option Open → Option Open → (Open → Open → Type 0) → Type 0
BothOpen (Some old) (Some new) P = P old new
BothOpen _ _ P = ⊥

-- a change of the present state in an open batch
pub record Made (old new : History) (change : Change) : Type 0 where
  pub history : new ≡ record old { now = changed old.now change; start = new.start }
  pub start : BothOpen old.start new.start
      (λ o p. Rises (replaced_by old.now change) (trail_after (replaced_by old.now change) o.trail) o p)

-- A turn of the i-th external in an open batch: what it asks and its cells are texts. Its log has this turn more at its
-- end, and all other logs stay.
pub record TookTurn (old new : History) (i : ℕ) (input : Input) (ask : Ask) : Type 0 where
  pub turn : Turns old.now new.now i
  pub asks : AskTexts ask
  pub cells : All IsText (seen_at new.now i).cells
  pub history : new ≡ record old
      { now = new.now; start = new.start; logs = logs_after old.logs old.now new.now i input ask }
  pub start : BothOpen old.start new.start
      (λ o p. let replaced = replaced_by_turn i (seen_at old.now i).cells (seen_at new.now i).cells in Rises replaced
      (trail_after_turn replaced o.trail) o p)

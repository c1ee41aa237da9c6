-- What a change and a turn make of the present state and of the batch that goes back over them.
use Rattle.std.specs.Prelude.{◌≡◌, ℕ, Bool, false, not, ◌&&◌, ◌||◌, List, [], ◌∷◌, ◌++◌, if◌then◌else◌}
use Rattle.std.specs.List.{list_any}
use Rattle.externals.specs.Cells.{Changes}
use Rattle.journal_entries.specs.State.{State}
use Rattle.journal_entries.specs.Exchange.{PresentView, BatchView, exchanged, taken, forth, of_one_place, is_structural}
use Rattle.journal_entries.specs.Turning.{Grows, Prepares}
use Rattle.journal_entries.specs.declared.entry.Entry.{Entry}
use Rattle.journal_entries.specs.declared.entry.Entry.TheVariants.{External}
use Rattle.journal_entries.specs.declared.change.Change.{Change}

-- whether the segment since the last structural entry has an entry of this one's place
abbrev pub holds_one : Entry → List Entry → Bool
holds_one e [] = false
holds_one e (f ∷ es) = holds_one e es || (not (list_any is_structural es) && of_one_place e f)

-- the entries after a write: a place that has its entry already keeps the older value
abbrev pub kept : List Entry → Entry → Entry → List Entry
kept es e taken = if holds_one e es then es else es ++ taken ∷ []

-- the entries after exchanges, from the first to the last
abbrev pub kept_in_turn : List (List ℕ) → State → List Entry → List Entry → List Entry
kept_in_turn names s es [] = es
kept_in_turn names s es (e ∷ more) = kept_in_turn names (exchanged names s e) (kept es e (taken names s e)) more

-- the entries after a turn: a patch of no cell adds nothing
abbrev pub kept_turn : List Entry → ℕ → Changes → List Entry
kept_turn es i [] = es
kept_turn es i (c ∷ p) = es ++ External i (c ∷ p) ∷ []

-- a change after growth, and the batch that goes back over it
pub record Makes (old new : PresentView) (batch_old batch_new : BatchView) (change : Change) : Type 0 where
  pub mid : PresentView
  pub entries : List Entry
  pub grows : Grows old mid
  pub prepared : Prepares mid change entries
  pub present : new ≡ record mid { state = forth mid.names mid.state entries }
  pub batch : batch_new ≡ record batch_old { entries = kept_in_turn mid.names mid.state batch_old.entries entries }

-- What an open batch becomes by all that changes and turns of externals replace.
use Rattle.std.specs.Prelude.{◌≡◌, ℕ, List, [], ◌++◌, Option, Some, None}
use Rattle.journal_entries.specs.State.{State}
use Rattle.journal_entries.specs.Replaced.{Replacement, replaced_by, replaced_by_turn}
use Rattle.journal_entries.specs.Trails.{Mark}
use Rattle.journal_entries.specs.declared.change.Change.{Change}
use Rattle.change_journal.specs.History.{Open}
use Rattle.change_journal.specs.Rising.{Rises, trail_after, trail_after_turn}

-- The trail after changes and turns that replaced these, one after the other. A change adds the marks of its places,
-- but for those that the last segment holds already; a turn that changed cells adds one mark for them all.
pub data TrailAfter : List Replacement → List Mark → List Mark → Type 0 where
  nothing : {replaced : List Replacement} {old new : List Mark} →
      replaced ≡ [] → new ≡ old → TrailAfter replaced old new
  change : {replaced more : List Replacement} {old new : List Mark} (s : State) (c : Change) →
      replaced ≡ replaced_by s c ++ more → TrailAfter more (trail_after (replaced_by s c) old) new →
      TrailAfter replaced old new
  turn : {replaced more : List Replacement} {old new : List Mark} (i : ℕ) (cells cells2 : List (List ℕ)) →
      replaced ≡ replaced_by_turn i cells cells2 ++ more →
      TrailAfter more (trail_after_turn (replaced_by_turn i cells cells2) old) new → TrailAfter replaced old new

-- what is open goes on, and nothing is opened
abbrev pub RisesIn : List Replacement → Option Open → Option Open → Type 0
RisesIn replaced (Some old) (Some new) =
    (marks : List Mark) × TrailAfter replaced old.trail marks × Rises replaced marks old new
RisesIn replaced None None = Unit {0}
RisesIn replaced _ _ = ⊥

-- The batch that is open before is open after these were replaced: it goes back to the same state and belongs to the
-- same line, each weight rises by at most theirs, and its trail is the one after them.
pub record RisesBy (replaced : List Replacement) (old new : Option Open) : Type 0 where
  pub by : RisesIn replaced old new

-- What the entries of a batch replace, the latest first.
use Rattle.std.specs.Prelude.{◌≡◌, ℕ, ◌+◌, ◌*◌, ◌≤◌, Bool, true, false, ◌||◌, List, [], ◌∷◌, length, if◌then◌else◌}
use Rattle.std.specs.List.{list_any}
use Rattle.stack_places.specs.Places.{whole}
use Rattle.journal_entries.specs.Places.{Place, same_place, in_stack}

-- An entry replaces one place. One that makes or removes an object is structural; one of an external goes back over a
-- turn.
pub data Mark : Type 0 where
  at : Place → Mark
  structural : Mark
  turned : Mark

-- the mark of a write of a place
abbrev pub mark_at : Place → Mark
mark_at (in_stack (whole id)) = structural
mark_at p = at p

-- whether the segment since the latest structural entry holds the place
abbrev pub holds : Place → List Mark → Bool
holds p [] = false
holds p (structural ∷ trail) = false
holds p (turned ∷ trail) = holds p trail
holds p (at q ∷ trail) = same_place p q || holds p trail

-- the trail with one mark more: a place that the segment holds already adds nothing
abbrev pub marked : Mark → List Mark → List Mark
marked (at p) trail = if holds p trail then trail else at p ∷ trail
marked structural trail = structural ∷ trail
marked turned trail = turned ∷ trail

-- between two structural entries, before the first and after the last, each place stands once
abbrev pub IsOnce : List Mark → Type 0
IsOnce [] = Unit {0}
IsOnce (structural ∷ trail) = IsOnce trail
IsOnce (turned ∷ trail) = IsOnce trail
IsOnce (at p ∷ trail) = (holds p trail ≡ false) × IsOnce trail

-- how many entries are structural
abbrev pub structural_count : List Mark → ℕ
structural_count [] = 0
structural_count (structural ∷ trail) = structural_count trail + 1
structural_count (turned ∷ trail) = structural_count trail
structural_count (at p ∷ trail) = structural_count trail

-- how many are turns of externals
abbrev pub turn_count : List Mark → ℕ
turn_count [] = 0
turn_count (structural ∷ trail) = turn_count trail
turn_count (turned ∷ trail) = turn_count trail + 1
turn_count (at p ∷ trail) = turn_count trail

-- each place of the trail is one of these
abbrev pub AreAmong : List Place → List Mark → Type 0
AreAmong places [] = Unit {0}
AreAmong places (structural ∷ trail) = AreAmong places trail
AreAmong places (turned ∷ trail) = AreAmong places trail
AreAmong places (at p ∷ trail) = (list_any (same_place p) places ≡ true) × AreAmong places trail

-- the places of a trail
abbrev pub places_in : List Mark → List Place
places_in [] = []
places_in (structural ∷ trail) = places_in trail
places_in (turned ∷ trail) = places_in trail
places_in (at p ∷ trail) = p ∷ places_in trail

-- how many different places these are: one that is the same as a later one isn't counted
abbrev pub different : List Place → ℕ
different [] = 0
different (p ∷ ps) = if list_any (same_place p) ps then different ps else different ps + 1

-- where t of the entries are turns and s are structural, they are at most t + s + (s + 1) * p
abbrev pub IsShort : List Mark → ℕ → Type 0
IsShort trail p = length trail ≤ turn_count trail + structural_count trail + (structural_count trail + 1) * p

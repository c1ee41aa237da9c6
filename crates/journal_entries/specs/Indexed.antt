-- Which places a segment has.
use Rattle.std.specs.Prelude.{◌≡◌, Bool, false, List, Option, Some, None}
use Rattle.journal_entries.specs.Changing.{holds_one}
use Rattle.journal_entries.specs.Keys.{key_of}
use Rattle.journal_entries.specs.PlaceSets.{has_place, IsBounded}
use Rattle.journal_entries.specs.declared.entry.Entry.{Entry}
use Rattle.journal_entries.specs.declared.place_key.PlaceKey.{PlaceKey}
use Rattle.journal_entries.specs.declared.place_set.PlaceSet.{PlaceSet}

-- whether the place of an entry is there, if it has one
abbrev pub is_held : (PlaceKey → Bool) → Option PlaceKey → Bool
is_held has None = false
is_held has (Some key) = has key

-- The set has the places of the segment since the last structural entry.
pub record IsIndexed (es : List Entry) (places : PlaceSet) : Type 0 where
  pub held : (e : Entry) → holds_one e es ≡ is_held (has_place places) (key_of e)
  pub bounded : IsBounded places

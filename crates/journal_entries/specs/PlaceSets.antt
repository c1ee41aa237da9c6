-- The places that a set of them has.
use Rattle.std.specs.Prelude.{◌≡◌, Bool, true, false, ◌||◌, Option, Some, None}
use Rattle.std.specs.BTreeSet.{contains}
use Rattle.std.specs.List.{list_any}
use Rattle.std.specs.Ordering.{is_le}
use Rattle.journal_entries.specs.SameKey.{same_key, key_cmp}
use Rattle.journal_entries.specs.declared.place_key.PlaceKey.{PlaceKey}
use Rattle.journal_entries.specs.declared.place_set.PlaceSet.{PlaceSet}

-- whether a place is among those that are sorted or among those that wait
abbrev pub has_place : PlaceSet → PlaceKey → Bool
has_place s q = contains key_cmp s.sorted q || list_any (λ k. same_key k q) s.waiting.items

-- whether a place doesn't come above the greatest one
abbrev pub is_within : Option PlaceKey → PlaceKey → Bool
is_within None q = false
is_within (Some greatest) q = is_le (key_cmp q greatest)

-- no place comes above the greatest one
abbrev pub IsBounded : PlaceSet → Type 0
IsBounded s = (q : PlaceKey) → has_place s q ≡ true → is_within s.greatest q ≡ true

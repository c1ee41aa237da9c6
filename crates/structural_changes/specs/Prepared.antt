-- Entries that are prepared for a change, with the room that they need.
use Rattle.std.specs.Prelude.{◌≡◌, Bool, List, ◌++◌, map, is_some}
use Rattle.std.specs.FinMap.{keys}
use Rattle.std.specs.List.{AllByRecursion}
use Rattle.object_table.specs.Content.{Content}
use Rattle.object_table.specs.Pairs.{Pair}
use Rattle.object_table.specs.PartContents.{text_at, hilite_at}
use Rattle.object_table.specs.Table.{Table}
use Rattle.ht_values.specs.declared.word.PartKind.{PartKind}
use Rattle.ht_values.specs.declared.word.PartKind.TheVariants.{Button, Field}
use Rattle.stack_places.specs.Exchange.{place_of, value_of, IsReady, IsWider}
use Rattle.stack_places.specs.declared.entry.StackEntry.{StackEntry}
use Rattle.structural_changes.specs.Writes.{StackWrite}

-- what an exchange with an entry writes
abbrev pub write_of : StackEntry → StackWrite
write_of e = record { place = place_of e; value = value_of e }

-- Only the room grows.
pub record Opens (old new : Table) : Type 0 where
  pub content : new.content ≡ old.content
  pub wider : IsWider old.room new.room

-- Entries that write this were added. The stack has more room, and else is as it was; each entry finds its room.
pub record Adds (old new : Table) (before after : List StackEntry) (writes : List StackWrite) : Type 0 where
  pub content : new.content ≡ old.content
  pub wider : IsWider old.room new.room
  pub written : map write_of after ≡ map write_of before ++ writes
  pub ready : AllByRecursion (IsReady old.room) before → AllByRecursion (IsReady new.room) after

-- ---- what parts keep

-- whether a field keeps a text, or a button a hilite, for a card or for 0
abbrev pub has_content : PartKind → Content → Pair → Bool
has_content Field s pair = is_some (text_at s pair.0 pair.1)
has_content Button s pair = is_some (hilite_at s pair.0 pair.1)

-- the parts and cards, or 0, for which there is one, ascending
abbrev pub pairs_kept : PartKind → Content → List Pair
pairs_kept Field s = keys s.texts
pairs_kept Button s = keys s.hilites

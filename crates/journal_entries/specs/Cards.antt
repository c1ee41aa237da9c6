-- The cards whose texts and hilites entries exchange.
use Rattle.std.specs.Prelude.{◌≡◌, ℕ, true, List, [], ◌∷◌, IfSome}
use Rattle.std.specs.BTreeSet.{BTreeSet, contains}
use Rattle.std.specs.Ordering.{nat_cmp}
use Rattle.object_table.specs.Table.{Room}
use Rattle.stack_places.specs.Exchange.{card_of}
use Rattle.journal_entries.specs.Exchange.{PresentView}
use Rattle.journal_entries.specs.declared.entry.Entry.{Entry}
use Rattle.journal_entries.specs.declared.entry.Entry.TheVariants.{Global, Current, Stack, External}

-- the card of the entry, if it has one, is one of these
unfoldable pub IsAmong : BTreeSet ℕ → Entry → Type 0
IsAmong cards (Global i v) = Unit {0}
IsAmong cards (Current c) = Unit {0}
IsAmong cards (Stack e) = IfSome (card_of e) (λ card. contains nat_cmp cards card ≡ true)
IsAmong cards (External i p) = Unit {0}

abbrev pub AreAmong : BTreeSet ℕ → List Entry → Type 0
AreAmong cards [] = Unit {0}
AreAmong cards (e ∷ es) = IsAmong cards e × AreAmong cards es

-- these are all of those cards
abbrev pub HasAll : (old new : BTreeSet ℕ) → Type 0
HasAll old new = (card : ℕ) → contains nat_cmp old card ≡ true → contains nat_cmp new card ≡ true

-- a present state with other room
abbrev pub with_room : PresentView → Room → PresentView
with_room h room = record h { room = room }

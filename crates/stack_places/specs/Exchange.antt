-- Entries: exchanges of values in a stack.
use Rattle.std.specs.Prelude.{◌≡◌, ℕ, ◌+◌, Bool, true, false, ◌&&◌, nat_eq, Option, None, Some, option_map, unwrap_or}
use Rattle.std.specs.FinMap.{get}
use Rattle.std.specs.FinSet.{contains}
use Rattle.object_table.specs.Content.{Content}
use Rattle.object_table.specs.PartContents.{text_at, hilite_at}
use Rattle.object_table.specs.Maps.{put_option}
use Rattle.object_table.specs.Objects.{object_at}
use Rattle.object_table.specs.Pairs.{Pair}
use Rattle.object_table.specs.Setting.{value_at as setting_at, with_value_at}
use Rattle.object_table.specs.Table.{Room}
use Rattle.object_table.specs.declared.property.PropValue.{PropValue}
use Rattle.object_table.specs.declared.property.PropValue.TheVariants as settings
use Rattle.stack_places.specs.Places.{StackPlace, Value, prop_of, size_of, property, field_text, button_hilite, whole}
use Rattle.stack_places.specs.Places.{card_order, background_order, layer_parts, next_id, text, logical, setting}
use Rattle.stack_places.specs.Places.{object, ids, number}
use Rattle.stack_places.specs.declared.entry.StackEntry.{StackEntry}
use Rattle.stack_places.specs.declared.entry.StackEntry.TheVariants.{Prop, FieldText, Hilite, Object, CardOrder}
use Rattle.stack_places.specs.declared.entry.StackEntry.TheVariants.{BackgroundOrder, Parts, NextId}

-- the entry's place, and the value that it has
abbrev pub place_of : StackEntry → StackPlace
place_of (Prop id v) = property id (prop_of v)
place_of (FieldText field card v) = field_text field card
place_of (Hilite button card v) = button_hilite button card
place_of (Object id v) = whole id
place_of (CardOrder l) = card_order
place_of (BackgroundOrder l) = background_order
place_of (Parts layer v) = layer_parts layer
place_of (NextId n) = next_id

abbrev pub value_of : StackEntry → Option Value
value_of (Prop id v) = Some (setting v)
value_of (FieldText field card v) = option_map (λ t. text t) v
value_of (Hilite button card v) = option_map (λ b. logical b) v
value_of (Object id v) = option_map (λ o. object o) v
value_of (CardOrder l) = Some (ids l)
value_of (BackgroundOrder l) = Some (ids l)
value_of (Parts layer v) = option_map (λ l. ids l) v
value_of (NextId n) = Some (number n)

-- the stack after the exchange of the place's value with the entry's
unfoldable pub exchanged : Content → StackEntry → Content
exchanged s (Prop id v) = with_value_at s id v
exchanged s (FieldText field card v) = record s { texts = put_option s.texts (field, card) v }
exchanged s (Hilite button card v) = record s { hilites = put_option s.hilites (button, card) v }
exchanged s (Object id v) = record s { objects = put_option s.objects id v }
exchanged s (CardOrder l) = record s { cards = l }
exchanged s (BackgroundOrder l) = record s { backgrounds = l }
exchanged s (Parts layer v) = record s { parts = put_option s.parts layer v }
exchanged s (NextId n) = record s { next = n }

-- the entry after it; one of a property that isn't there keeps its value
unfoldable pub taken : Content → StackEntry → StackEntry
taken s (Prop id v) = Prop id (unwrap_or (setting_at s id v) v)
taken s (FieldText field card v) = FieldText field card (text_at s field card)
taken s (Hilite button card v) = Hilite button card (hilite_at s button card)
taken s (Object id v) = Object id (object_at s id)
taken s (CardOrder l) = CardOrder s.cards
taken s (BackgroundOrder l) = BackgroundOrder s.backgrounds
taken s (Parts layer v) = Parts layer (get s.parts layer)
taken s (NextId n) = NextId s.next

-- there is room for the value at the entry's place
unfoldable pub IsReady : Room → StackEntry → Type 0
IsReady room (FieldText field card v) = contains room.texts (field, card) ≡ true
IsReady room (Hilite button card v) = contains room.hilites (button, card) ≡ true
IsReady room (Object id v) = contains room.slots id ≡ true
IsReady room (Parts layer v) = contains room.slots layer ≡ true
IsReady room _ = Unit {0}

-- room that has all of another
pub record IsWider (old new : Room) : Type 0 where
  pub slots : (id : ℕ) → contains old.slots id ≡ true → contains new.slots id ≡ true
  pub texts : (p : Pair) → contains old.texts p ≡ true → contains new.texts p ≡ true
  pub hilites : (p : Pair) → contains old.hilites p ≡ true → contains new.hilites p ≡ true

-- the card, or 0, whose text or hilite the entry exchanges
unfoldable pub card_of : StackEntry → Option ℕ
card_of (FieldText field card v) = Some card
card_of (Hilite button card v) = Some card
card_of _ = None

-- whether the entry makes or removes an object
unfoldable pub is_structural : StackEntry → Bool
is_structural (Object id v) = true
is_structural _ = false

abbrev pub of_one_property : PropValue → PropValue → Bool
of_one_property (settings.NameIs t) (settings.NameIs u) = true
of_one_property (settings.ScriptIs t) (settings.ScriptIs u) = true
of_one_property (settings.VisibleIs a) (settings.VisibleIs b) = true
of_one_property (settings.HiliteIs a) (settings.HiliteIs b) = true
of_one_property (settings.SharedHiliteIs a) (settings.SharedHiliteIs b) = true
of_one_property (settings.LockTextIs a) (settings.LockTextIs b) = true
of_one_property (settings.SharedTextIs a) (settings.SharedTextIs b) = true
of_one_property (settings.CantDeleteIs a) (settings.CantDeleteIs b) = true
of_one_property _ _ = false

-- whether two entries are of one place, which no structural entry has
unfoldable pub of_one_place : StackEntry → StackEntry → Bool
of_one_place (Prop i v) (Prop j w) = nat_eq i j && of_one_property v w
of_one_place (FieldText f c v) (FieldText g d w) = nat_eq f g && nat_eq c d
of_one_place (Hilite b c v) (Hilite h d w) = nat_eq b h && nat_eq c d
of_one_place (CardOrder l) (CardOrder m) = true
of_one_place (BackgroundOrder l) (BackgroundOrder m) = true
of_one_place (Parts i v) (Parts j w) = nat_eq i j
of_one_place (NextId m) (NextId n) = true
of_one_place _ _ = false

-- an entry weighs 32 and the size of its value
unfoldable pub entry_weight : StackEntry → ℕ
entry_weight e = 32 + size_of (value_of e)

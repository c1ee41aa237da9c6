-- The places of a stack, and values put there.
use Rattle.std.specs.Prelude.{ℕ, ◌+◌, ◌*◌, Bool, true, false, ◌&&◌, nat_eq, List, length, Option, Some, None}
use Rattle.std.specs.Prelude.{option_map, option_and_then, unwrap_or, if◌then◌else◌}
use Rattle.std.specs.FinMap.{get}
use Rattle.ht_values.specs.declared.word.Prop.{Prop}
use Rattle.ht_values.specs.declared.word.Prop.TheVariants as props
use Rattle.object_table.specs.Content.{Content}
use Rattle.object_table.specs.Flags.{visible_of, hilite_of, shared_hilite_of, lock_text_of, shared_text_of}
use Rattle.object_table.specs.Flags.{cant_delete_of}
use Rattle.object_table.specs.PartContents.{text_at, hilite_at}
use Rattle.object_table.specs.Maps.{put_option}
use Rattle.object_table.specs.Objects.{object_at}
use Rattle.object_table.specs.Setting.{with_value}
use Rattle.object_table.specs.declared.object.Object.{Object}
use Rattle.object_table.specs.declared.object.Kind.{Kind}
use Rattle.object_table.specs.declared.object.Kind.TheVariants.{Stack, Background, Card, CardButton, BackgroundButton}
use Rattle.object_table.specs.declared.object.Kind.TheVariants.{CardField, BackgroundField}
use Rattle.object_table.specs.declared.property.PropValue.{PropValue}
use Rattle.object_table.specs.declared.property.PropValue.TheVariants.{NameIs, ScriptIs, VisibleIs, HiliteIs}
use Rattle.object_table.specs.declared.property.PropValue.TheVariants.{SharedHiliteIs, LockTextIs, SharedTextIs}
use Rattle.object_table.specs.declared.property.PropValue.TheVariants.{CantDeleteIs}

-- A property that may be set, of an object; the text of a field and the hilite of a background's button, for a
-- card or for 0, which stands for all cards; an object as a whole; the two orders; the parts of a layer; the next
-- id.
pub data StackPlace : Type 0 where
  property : ℕ → Prop → StackPlace
  field_text : ℕ → ℕ → StackPlace
  button_hilite : ℕ → ℕ → StackPlace
  whole : ℕ → StackPlace
  card_order : StackPlace
  background_order : StackPlace
  layer_parts : ℕ → StackPlace
  next_id : StackPlace

pub data Value : Type 0 where
  text : List ℕ → Value
  logical : Bool → Value
  setting : PropValue → Value
  object : Object → Value
  ids : List ℕ → Value
  number : ℕ → Value

-- ---- places

-- the properties in an order of their own
abbrev pub prop_number : Prop → ℕ
prop_number props.Name = 0
prop_number props.ShortName = 1
prop_number props.Id = 2
prop_number props.ShortId = 3
prop_number props.Number = 4
prop_number props.Script = 5
prop_number props.Visible = 6
prop_number props.Hilite = 7
prop_number props.SharedHilite = 8
prop_number props.LockText = 9
prop_number props.SharedText = 10
prop_number props.CantDelete = 11

abbrev pub same_prop : Prop → Prop → Bool
same_prop p q = nat_eq (prop_number p) (prop_number q)

-- whether two places are one
abbrev pub same_place : StackPlace → StackPlace → Bool
same_place (property i p) (property j q) = nat_eq i j && same_prop p q
same_place (field_text f c) (field_text g d) = nat_eq f g && nat_eq c d
same_place (button_hilite b c) (button_hilite h d) = nat_eq b h && nat_eq c d
same_place (whole i) (whole j) = nat_eq i j
same_place card_order card_order = true
same_place background_order background_order = true
same_place (layer_parts i) (layer_parts j) = nat_eq i j
same_place next_id next_id = true
same_place _ _ = false

-- ---- values

-- the property that this is a value of
abbrev pub prop_of : PropValue → Prop
prop_of (NameIs t) = props.Name
prop_of (ScriptIs t) = props.Script
prop_of (VisibleIs b) = props.Visible
prop_of (HiliteIs b) = props.Hilite
prop_of (SharedHiliteIs b) = props.SharedHilite
prop_of (LockTextIs b) = props.LockText
prop_of (SharedTextIs b) = props.SharedText
prop_of (CantDeleteIs b) = props.CantDelete

-- an object's own value of a property that may be set, where it has that property
abbrev pub setting_of : Prop → Object → Option PropValue
setting_of props.Name o = Some (NameIs o.name)
setting_of props.Script o = Some (ScriptIs o.script)
setting_of props.Visible o = option_map (λ b. VisibleIs b) (visible_of o.kind)
setting_of props.Hilite o = option_map (λ b. HiliteIs b) (hilite_of o.kind)
setting_of props.SharedHilite o = option_map (λ b. SharedHiliteIs b) (shared_hilite_of o.kind)
setting_of props.LockText o = option_map (λ b. LockTextIs b) (lock_text_of o.kind)
setting_of props.SharedText o = option_map (λ b. SharedTextIs b) (shared_text_of o.kind)
setting_of props.CantDelete o = option_map (λ b. CantDeleteIs b) (cant_delete_of o.kind)
setting_of _ o = None

-- the value at a place, if there is one
abbrev pub value_at : Content → StackPlace → Option Value
value_at s (property id p) = option_map (λ v. setting v) (option_and_then (setting_of p) (object_at s id))
value_at s (field_text field card) = option_map (λ t. text t) (text_at s field card)
value_at s (button_hilite button card) = option_map (λ b. logical b) (hilite_at s button card)
value_at s (whole id) = option_map (λ o. object o) (object_at s id)
value_at s card_order = Some (ids s.cards)
value_at s background_order = Some (ids s.backgrounds)
value_at s (layer_parts layer) = option_map (λ l. ids l) (get s.parts layer)
value_at s next_id = Some (number s.next)

-- what a value is to a place of its type; one of another type is none
abbrev pub as_text : Option Value → Option (List ℕ)
as_text (Some (text t)) = Some t
as_text _ = None

abbrev pub as_logical : Option Value → Option Bool
as_logical (Some (logical b)) = Some b
as_logical _ = None

abbrev pub as_setting : Prop → Option Value → Option PropValue
as_setting p (Some (setting v)) = if same_prop p (prop_of v) then Some v else None
as_setting p _ = None

abbrev pub as_object : Option Value → Option Object
as_object (Some (object o)) = Some o
as_object _ = None

abbrev pub as_ids : Option Value → Option (List ℕ)
as_ids (Some (ids l)) = Some l
as_ids _ = None

abbrev pub as_number : Option Value → Option ℕ
as_number (Some (number n)) = Some n
as_number _ = None

-- the object with a value of a property, or as it is
abbrev pub with_setting : Option PropValue → Object → Object
with_setting None o = o
with_setting (Some v) o = with_value v o

-- The stack with this value at the place, or with none. A property that is there, the orders and the next id
-- always have one: none leaves them.
unfoldable pub put : Content → StackPlace → Option Value → Content
put s (property id p) v =
    record s { objects = put_option s.objects id (option_map (with_setting (as_setting p v)) (object_at s id)) }
put s (field_text field card) v = record s { texts = put_option s.texts (field, card) (as_text v) }
put s (button_hilite button card) v = record s { hilites = put_option s.hilites (button, card) (as_logical v) }
put s (whole id) v = record s { objects = put_option s.objects id (as_object v) }
put s card_order v = record s { cards = unwrap_or (as_ids v) s.cards }
put s background_order v = record s { backgrounds = unwrap_or (as_ids v) s.backgrounds }
put s (layer_parts layer) v = record s { parts = put_option s.parts layer (as_ids v) }
put s next_id v = record s { next = unwrap_or (as_number v) s.next }

-- ---- sizes

-- 8 for each flag, and for the background of a card
abbrev pub kind_size : Kind → ℕ
kind_size Stack = 0
kind_size (Background c) = 8
kind_size (Card b c) = 16
kind_size (CardButton v h) = 16
kind_size (BackgroundButton v h) = 16
kind_size (CardField v l) = 16
kind_size (BackgroundField v l t) = 24

abbrev pub setting_size : PropValue → ℕ
setting_size (NameIs t) = length t
setting_size (ScriptIs t) = length t
setting_size _ = 8

-- the bytes of the texts, and 8 for each number, id, flag and member of a list
abbrev pub size : Value → ℕ
size (text t) = length t
size (logical b) = 8
size (setting v) = setting_size v
size (object o) = length o.name + length o.script + kind_size o.kind
size (ids l) = 8 * length l
size (number n) = 8

abbrev pub size_of : Option Value → ℕ
size_of None = 0
size_of (Some v) = size v

-- What the changes that make and remove objects write in a stack.
use Rattle.std.specs.Prelude.{ℕ, ◌+◌, Bool, true, false, ◌&&◌, ◌||◌, not, nat_eq, leb, List, [], ◌∷◌, ◌++◌, map}
use Rattle.std.specs.Prelude.{filter, length, codes, Option, Some, None, option_map, unwrap_or, is_some, if◌then◌else◌}
use Rattle.std.specs.FinMap.{keys}
use Rattle.std.specs.List.{list_all}
use Rattle.object_table.specs.Content.{Content}
use Rattle.object_table.specs.Empty.{empty_object}
use Rattle.object_table.specs.Layers.{layer_id, layer_parts}
use Rattle.object_table.specs.Objects.{is_background_button, is_background_field, has_kind, parts_at, contains_id}
use Rattle.object_table.specs.Objects.{background_at, object_count}
use Rattle.object_table.specs.Pairs.{Pair}
use Rattle.object_table.specs.declared.object.Object.{Object}
use Rattle.object_table.specs.declared.object.Kind.{Kind}
use Rattle.object_table.specs.declared.object.Kind.TheVariants.{Background, Card, CardButton, BackgroundButton}
use Rattle.object_table.specs.declared.object.Kind.TheVariants.{CardField, BackgroundField}
use Rattle.object_table.specs.declared.object.LayerId.{LayerId}
use Rattle.object_table.specs.declared.object.LayerId.TheVariants.{OfCard, OfBackground}
use Rattle.ht_values.specs.declared.word.PartKind.{PartKind}
use Rattle.ht_values.specs.declared.word.PartKind.TheVariants.{Button, Field}
use Rattle.stack_places.specs.Places.{StackPlace, Value, same_place, put, field_text, button_hilite, whole, card_order}
use Rattle.stack_places.specs.Places.{background_order, layer_parts as parts_of, next_id, text, logical, object, ids}
use Rattle.stack_places.specs.Places.{number}

-- a place, and the value that it gets, or none
pub record WriteAt (P : Type 0) : Type 0 where
  pub place : P
  pub value : Option Value

-- what a state is after writes, from the first to the last, where one puts a value at a place so
abbrev pub put_in_turn : {S P : Type 0} → (S → P → Option Value → S) → S → List (WriteAt P) → S
put_in_turn puts s [] = s
put_in_turn puts s (w ∷ ws) = put_in_turn puts (puts s w.place w.value) ws

-- a write of the stack
abbrev pub StackWrite : Type 0
StackWrite = WriteAt StackPlace

-- whether two writes are at one place
abbrev pub at_one_place : StackWrite → StackWrite → Bool
at_one_place w v = same_place w.place v.place

-- the stack after writes, from the first to the last
abbrev pub put_each : Content → List StackWrite → Content
put_each s ws = put_in_turn put s ws

-- ---- lists of ids

-- the list with an id right after another, or last where that isn't there
abbrev pub insert_after : ℕ → ℕ → List ℕ → List ℕ
insert_after place id [] = id ∷ []
insert_after place id (x ∷ xs) = if nat_eq x place then x ∷ id ∷ xs else x ∷ insert_after place id xs

abbrev pub without : ℕ → List ℕ → List ℕ
without id = filter (λ x. not (nat_eq x id))

-- what stands behind an id
abbrev pub behind : ℕ → List ℕ → List ℕ
behind place [] = []
behind place (x ∷ xs) = if nat_eq x place then xs else behind place xs

-- the first of a list, or another id where it is empty
abbrev pub first_or : ℕ → List ℕ → ℕ
first_or other [] = other
first_or other (x ∷ xs) = x

-- the id right behind another, or the first where that is the last
abbrev pub following : ℕ → List ℕ → ℕ
following place order = first_or place (behind place order ++ order)

-- the ids of the objects that pass, ascending
abbrev pub ids_where : Content → (ℕ → Bool) → List ℕ
ids_where s p = filter p (keys s.objects)

-- the background of a card
abbrev pub home : Content → ℕ → ℕ
home s card = unwrap_or (background_at s card) 0

abbrev pub is_card_of : Content → ℕ → ℕ → Bool
is_card_of s background card = unwrap_or (option_map (λ b. nat_eq b background) (background_at s card)) false

-- whether an id is one of a background's parts that pass
abbrev pub is_part_of : (Kind → Bool) → Content → ℕ → ℕ → Bool
is_part_of p s background id = has_kind p s id && contains_id id (parts_at s background)

-- ---- what is written

abbrev pub write : StackPlace → Value → StackWrite
write place value = record { place = place; value = Some value }

abbrev pub clear : StackPlace → StackWrite
clear place = record { place = place; value = None }

-- an empty text of a field for each of these, and a false hilite of a button
abbrev pub empty_texts : ℕ → List ℕ → List StackWrite
empty_texts field = map (λ card. write (field_text field card) (text []))

abbrev pub false_hilites : ℕ → List ℕ → List StackWrite
false_hilites button = map (λ card. write (button_hilite button card) (logical false))

-- an empty text of each of these fields for a card, and a false hilite of each of these buttons
abbrev pub texts_of : List ℕ → ℕ → List StackWrite
texts_of fields card = map (λ field. write (field_text field card) (text [])) fields

abbrev pub hilites_of : List ℕ → ℕ → List StackWrite
hilites_of buttons card = map (λ button. write (button_hilite button card) (logical false)) buttons

-- which parts of a background keep texts, and which hilites
abbrev pub keeps : PartKind → Kind → Bool
keeps Field = is_background_field
keeps Button = is_background_button

-- ---- a new part

-- It is visible, and nothing else, but that a background's button has one hilite for all cards.
abbrev pub kind_of_new : LayerId → PartKind → Kind
kind_of_new (OfCard card) Button = CardButton true false
kind_of_new (OfCard card) Field = CardField true false
kind_of_new (OfBackground background) Button = BackgroundButton true true
kind_of_new (OfBackground background) Field = BackgroundField true false false

abbrev pub name_of_new : PartKind → List ℕ
name_of_new Button = codes "New Button"
name_of_new Field = []

abbrev pub new_part : LayerId → PartKind → Object
new_part layer kind = record (empty_object (kind_of_new layer kind)) { name = name_of_new kind }

-- what a part of a layer keeps something for: its card; or each card of its background, ascending, and before them 0
abbrev pub kept_for : Content → LayerId → List ℕ
kept_for s (OfCard card) = card ∷ []
kept_for s (OfBackground background) = 0 ∷ ids_where s (is_card_of s background)

abbrev pub first_contents : Content → LayerId → PartKind → ℕ → List StackWrite
first_contents s layer Field part = empty_texts part (kept_for s layer)
first_contents s (OfBackground background) Button part = false_hilites part (kept_for s (OfBackground background))
first_contents s (OfCard card) Button part = []

-- a new part is the last one of its layer
abbrev pub writes_of_new_part : Content → LayerId → PartKind → List StackWrite
writes_of_new_part s layer kind =
    write next_id (number (s.next + 1))
    ∷ write (whole s.next) (object (new_part layer kind))
    ∷ write (parts_of (layer_id layer)) (ids (parts_at s (layer_id layer) ++ s.next ∷ []))
    ∷ first_contents s layer kind s.next

-- ---- a new card and a new background

-- what a new card keeps of its background's parts
abbrev pub contents_of_new_card : Content → ℕ → ℕ → List StackWrite
contents_of_new_card s background card =
    texts_of (ids_where s (is_part_of (keeps Field) s background)) card
    ++ hilites_of (ids_where s (is_part_of (keeps Button) s background)) card

-- a new card is on the background of another card, and stands after it
abbrev pub writes_of_new_card : Content → ℕ → List StackWrite
writes_of_new_card s card =
    write next_id (number (s.next + 1))
    ∷ write (whole s.next) (object (empty_object (Card (home s card) false)))
    ∷ write card_order (ids (insert_after card s.next s.cards))
    ∷ write (parts_of s.next) (ids [])
    ∷ contents_of_new_card s (home s card) s.next

-- a new background is the last one; its card stands after another card
abbrev pub writes_of_new_background : Content → ℕ → List StackWrite
writes_of_new_background s card =
    write next_id (number (s.next + 2))
    ∷ write (whole s.next) (object (empty_object (Background false)))
    ∷ write (whole (s.next + 1)) (object (empty_object (Card s.next false)))
    ∷ write card_order (ids (insert_after card (s.next + 1) s.cards))
    ∷ write background_order (ids (s.backgrounds ++ s.next ∷ []))
    ∷ write (parts_of s.next) (ids [])
    ∷ write (parts_of (s.next + 1)) (ids [])
    ∷ []

-- ---- a card that goes

-- whether no other card is on a card's background, which goes with it then
abbrev pub is_last_card : Content → ℕ → Bool
is_last_card s card = list_all (λ other. nat_eq other card || not (is_card_of s (home s card) other)) s.cards

-- whether a layer goes with a card
abbrev pub goes_as_layer : Content → ℕ → ℕ → Bool
goes_as_layer s card id = nat_eq id card || (is_last_card s card && nat_eq id (home s card))

-- whether a part stands on a layer that goes
abbrev pub goes_as_part : Content → ℕ → ℕ → Bool
goes_as_part s card id =
    contains_id id (parts_at s card) || (is_last_card s card && contains_id id (parts_at s (home s card)))

-- whether what a part keeps for a card, or for 0, goes
abbrev pub goes_as_content : Content → ℕ → Pair → Bool
goes_as_content s card pair = nat_eq pair.1 card || goes_as_part s card pair.0

-- the objects, the lists of parts, the texts and the hilites that go, each ascending
abbrev pub clears_of_deletion : Content → ℕ → List StackWrite
clears_of_deletion s card =
    map (λ id. clear (whole id)) (ids_where s (λ id. goes_as_layer s card id || goes_as_part s card id))
    ++ map (λ id. clear (parts_of id)) (filter (goes_as_layer s card) (keys s.parts))
    ++ map (λ p. clear (field_text p.0 p.1)) (filter (goes_as_content s card) (keys s.texts))
    ++ map (λ p. clear (button_hilite p.0 p.1)) (filter (goes_as_content s card) (keys s.hilites))

-- The card that follows becomes current first, which is a place of the state, not of the stack.
abbrev pub writes_of_deletion : Content → ℕ → List StackWrite
writes_of_deletion s card =
    write card_order (ids (without card s.cards))
    ∷ (if is_last_card s card then write background_order (ids (without (home s card) s.backgrounds)) ∷ [] else [])
    ++ clears_of_deletion s card

-- ---- where they fit

-- whether as many objects more can be made: their ids are at most 1,000,000, and at most 10,000 objects live
abbrev pub has_room_for : ℕ → Content → Bool
has_room_for count s = leb (s.next + count) 1000001 && leb (object_count s + count) 10000

abbrev pub fits_new_part : Content → LayerId → Bool
fits_new_part s layer = has_room_for 1 s && is_some (layer_parts s layer)

-- a card goes where there is a second one
abbrev pub fits_deletion : Content → Bool
fits_deletion s = leb 2 (length s.cards)

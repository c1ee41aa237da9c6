-- The items of the menu, and the messages of the system.
use Rattle.std.specs.Prelude.{ℕ, List, [], ◌∷◌, codes, Bool, true, false, not, nat_eq, if◌then◌else◌, Option, None}
use Rattle.ht_values.specs.Text.{entry}
use Rattle.ht_values.specs.declared.word.PartKind.TheVariants.{Button, Field}
use Rattle.object_table.specs.Content.{Content}
use Rattle.object_table.specs.declared.object.LayerId.{LayerId}
use Rattle.object_table.specs.declared.object.LayerId.TheVariants.{OfCard, OfBackground}
use Rattle.structural_changes.specs.Writes.{home}
use Rattle.journal_entries.specs.State.{State}
use Rattle.meaning.specs.declared.item.Item.{Item}
use Rattle.meaning.specs.declared.item.Item.TheVariants.{NewCard, NewBackground, NewPart, DeleteCard}
use Rattle.meaning.specs.declared.system.SystemMessage.{SystemMessage}
use Rattle.meaning.specs.declared.system.SystemMessage.TheVariants as system
use Rattle.meaning.specs.State.{RunState}

-- ---- items

abbrev pub items : List (List ℕ × Item)
items =
    (codes "New Card", NewCard) ∷
    (codes "New Background", NewBackground) ∷
    (codes "New Button", NewPart Button) ∷
    (codes "New Field", NewPart Field) ∷
    (codes "Delete Card", DeleteCard) ∷
    []

-- the item that the arguments of doMenu name: there is one argument, and it is the same as an item
abbrev pub item_named : List (List ℕ) → Option Item
item_named (name ∷ []) = entry items name
item_named _ = None

-- where new parts stand
abbrev pub new_layer : State → RunState → LayerId
new_layer s r = if r.edit_background then OfBackground (home s.stack s.current) else OfCard s.current

-- ---- messages of the system

abbrev pub message_name : SystemMessage → List ℕ
message_name system.CloseCard = codes "closeCard"
message_name system.CloseBackground = codes "closeBackground"
message_name system.OpenBackground = codes "openBackground"
message_name system.OpenCard = codes "openCard"
message_name system.NewCard = codes "newCard"
message_name system.OpenStack = codes "openStack"
message_name system.MouseDown = codes "mouseDown"
message_name system.MouseUp = codes "mouseUp"
message_name system.OpenField = codes "openField"
message_name system.CloseField = codes "closeField"
message_name system.ExitField = codes "exitField"

-- before another card becomes current, of another background or not
abbrev pub closing : Bool → List SystemMessage
closing true = system.CloseCard ∷ system.CloseBackground ∷ []
closing false = system.CloseCard ∷ []

-- after another card became current
abbrev pub opening : Bool → List SystemMessage
opening true = system.OpenBackground ∷ system.OpenCard ∷ []
opening false = system.OpenCard ∷ []

-- after a card was made, alone or with its background
abbrev pub new_card_messages : List SystemMessage
new_card_messages = system.NewCard ∷ opening false

abbrev pub new_background_messages : List SystemMessage
new_background_messages = system.NewCard ∷ opening true

-- whether two cards, each in its stack, are of different backgrounds
abbrev pub differ : Content → ℕ → Content → ℕ → Bool
differ s card s2 card2 = not (nat_eq (home s card) (home s2 card2))

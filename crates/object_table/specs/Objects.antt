-- What stands where in a stack.
use Rattle.std.specs.Prelude.{ℕ, Bool, true, false, ◌||◌, List, [], Option, Some, None, unwrap_or, option_map}
use Rattle.std.specs.Prelude.{option_and_then, ◌==◌}
use Rattle.std.specs.List.{list_any}
use Rattle.std.specs.FinMap.{get, remove, len}
use Rattle.object_table.specs.Content.{Content}
use Rattle.object_table.specs.declared.object.Object.{Object}
use Rattle.object_table.specs.declared.object.Kind.{Kind}
use Rattle.object_table.specs.declared.object.Kind.TheVariants.{Stack, Background, Card, CardButton, BackgroundButton}
use Rattle.object_table.specs.declared.object.Kind.TheVariants.{CardField, BackgroundField}
use Rattle.ht_values.specs.declared.word.PartKind.{PartKind}
use Rattle.ht_values.specs.declared.word.PartKind.TheVariants.{Button, Field}

abbrev pub is_stack : Kind → Bool
is_stack Stack = true
is_stack _ = false

abbrev pub is_background : Kind → Bool
is_background (Background c) = true
is_background _ = false

abbrev pub is_card : Kind → Bool
is_card (Card b c) = true
is_card _ = false

abbrev pub is_button : Kind → Bool
is_button (CardButton v h) = true
is_button (BackgroundButton v h) = true
is_button _ = false

abbrev pub is_field : Kind → Bool
is_field (CardField v l) = true
is_field (BackgroundField v l s) = true
is_field _ = false

abbrev pub is_card_field : Kind → Bool
is_card_field (CardField v l) = true
is_card_field _ = false

abbrev pub is_background_button : Kind → Bool
is_background_button (BackgroundButton v h) = true
is_background_button _ = false

abbrev pub is_background_field : Kind → Bool
is_background_field (BackgroundField v l s) = true
is_background_field _ = false

abbrev pub is_card_part : Kind → Bool
is_card_part (CardButton v h) = true
is_card_part (CardField v l) = true
is_card_part _ = false

abbrev pub is_background_part : Kind → Bool
is_background_part (BackgroundButton v h) = true
is_background_part (BackgroundField v l s) = true
is_background_part _ = false

-- a button or a field, on a card or on a background
abbrev pub is_part : Kind → Bool
is_part k = is_card_part k || is_background_part k

-- what has parts
abbrev pub is_layer : Kind → Bool
is_layer k = is_background k || is_card k

-- the background that a card is on
abbrev pub background_of : Kind → Option ℕ
background_of (Card b c) = Some b
background_of _ = None

abbrev pub object_at : Content → ℕ → Option Object
object_at s id = get s.objects id

-- whether there is such an object, and its kind passes
abbrev pub has_kind : (Kind → Bool) → Content → ℕ → Bool
has_kind p s id = unwrap_or (option_map (λ o. p o.kind) (object_at s id)) false

-- the parts of a layer, in their order
abbrev pub parts_at : Content → ℕ → List ℕ
parts_at s layer = unwrap_or (get s.parts layer) []

abbrev pub contains_id : ℕ → List ℕ → Bool
contains_id id ids = list_any (λ x. x == id) ids

-- the background of a card that is there
abbrev pub background_at : Content → ℕ → Option ℕ
background_at s card = option_and_then (λ o. background_of o.kind) (object_at s card)

-- how many objects live besides the stack
abbrev pub object_count : Content → ℕ
object_count s = len (remove s.objects 0)

-- whether a kind is a button, or a field
abbrev pub is_of : PartKind → Kind → Bool
is_of Button kind = is_button kind
is_of Field kind = is_field kind

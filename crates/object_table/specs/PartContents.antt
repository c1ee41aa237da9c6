-- What fields and buttons keep for each card, and what they keep for all of them, where 0 stands for a card.
use Rattle.std.specs.Prelude.{ℕ, Bool, false, ◌&&◌, ◌||◌, ◌==◌, List, Option, option_map, unwrap_or}
use Rattle.std.specs.FinMap.{get}
use Rattle.object_table.specs.Content.{Content}
use Rattle.object_table.specs.Objects.{is_card_field, is_background_field, is_background_button, has_kind, parts_at}
use Rattle.object_table.specs.Objects.{contains_id, background_at}

-- the text of a field for a card, or for 0 its shared text
abbrev pub text_at : Content → ℕ → ℕ → Option (List ℕ)
text_at s field card = get s.texts (field, card)

-- the hilite of a background's button for a card, or for 0 its shared hilite
abbrev pub hilite_at : Content → ℕ → ℕ → Option Bool
hilite_at s button card = get s.hilites (button, card)

-- whether a part stands on the background of a card
abbrev pub is_on_background_of : Content → ℕ → ℕ → Bool
is_on_background_of s part card =
    unwrap_or (option_map (λ background. contains_id part (parts_at s background)) (background_at s card)) false

-- a part of a background keeps what is shared, and something for each card of its background
abbrev pub is_kept_for : Content → ℕ → ℕ → Bool
is_kept_for s part card = (card == 0) || is_on_background_of s part card

-- a field of a card keeps one text, for that card; a field of a background keeps its shared text and one for
-- each card of its background
abbrev pub keeps_text : Content → ℕ → ℕ → Bool
keeps_text s field card = (has_kind is_card_field s field && contains_id field (parts_at s card)) ||
    (has_kind is_background_field s field && is_kept_for s field card)

-- a button of a background keeps its shared hilite and one for each card of its background
abbrev pub keeps_hilite : Content → ℕ → ℕ → Bool
keeps_hilite s button card = has_kind is_background_button s button && is_kept_for s button card

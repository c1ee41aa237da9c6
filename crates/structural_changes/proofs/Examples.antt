-- What the changes write in a stack of a background 1 with a field 3 and a button 5, and two cards 2 and 4 on it.
use Rattle.std.proofs.Common.{◌≡◌, ℕ, Bool, true, false, List, [], ◌∷◌, refl, codes}
use Rattle.std.specs.Ordering.{nat_cmp}
use Rattle.std.specs.FinMap.{from_sorted, get, entries, find, entries-from_sorted, get-from_sorted}
use Rattle.ht_values.specs.declared.word.PartKind.TheVariants.{Button, Field}
use Rattle.object_table.specs.Content.{Content}
use Rattle.object_table.specs.Empty.{empty_object}
use Rattle.object_table.specs.Pairs.{pair_cmp, Pair}
use Rattle.object_table.specs.declared.object.Kind.TheVariants.{Stack, Background, Card, BackgroundButton}
use Rattle.object_table.specs.declared.object.Kind.TheVariants.{BackgroundField}
use Rattle.object_table.specs.declared.object.LayerId.TheVariants.{OfCard, OfBackground}
use Rattle.object_table.specs.declared.object.Object.{Object}
use Rattle.stack_places.specs.Places.{field_text, button_hilite, whole, card_order, background_order, layer_parts}
use Rattle.stack_places.specs.Places.{next_id, text, logical, object, ids, number}
use Rattle.structural_changes.specs.Writes.{write, clear, writes_of_new_part, writes_of_new_card}
use Rattle.structural_changes.specs.Writes.{writes_of_new_background, writes_of_deletion, new_part, following}

abbrev objects : List (ℕ × Object)
objects = (0, empty_object Stack) ∷ (1, empty_object (Background false)) ∷ (2, empty_object (Card 1 false))
    ∷ (3, empty_object (BackgroundField true false false)) ∷ (4, empty_object (Card 1 false))
    ∷ (5, empty_object (BackgroundButton true true)) ∷ []

abbrev parts : List (ℕ × List ℕ)
parts = (1, 3 ∷ 5 ∷ []) ∷ (2, []) ∷ (4, []) ∷ []

abbrev texts : List (Pair × List ℕ)
texts = ((3, 0), codes "all") ∷ ((3, 2), []) ∷ ((3, 4), codes "b") ∷ []

abbrev hilites : List (Pair × Bool)
hilites = ((5, 0), true) ∷ ((5, 2), false) ∷ ((5, 4), true) ∷ []

abbrev two_cards : Content
two_cards = record {
  objects = from_sorted objects;
  backgrounds = 1 ∷ [];
  cards = 4 ∷ 2 ∷ [];
  parts = from_sorted parts;
  texts = from_sorted texts;
  hilites = from_sorted hilites;
  next = 6;
}

object_ids : entries (from_sorted {R = nat_cmp} objects) ≡ objects
object_ids = entries-from_sorted nat_cmp objects tt

layers : entries (from_sorted {R = nat_cmp} parts) ≡ parts
layers = entries-from_sorted nat_cmp parts tt

text_pairs : entries (from_sorted {R = pair_cmp} texts) ≡ texts
text_pairs = entries-from_sorted pair_cmp texts tt

hilite_pairs : entries (from_sorted {R = pair_cmp} hilites) ≡ hilites
hilite_pairs = entries-from_sorted pair_cmp hilites tt

found : (id : ℕ) → get (from_sorted {R = nat_cmp} objects) id ≡ find nat_cmp id objects
found id = get-from_sorted nat_cmp objects id tt

listed : (id : ℕ) → get (from_sorted {R = nat_cmp} parts) id ≡ find nat_cmp id parts
listed id = get-from_sorted nat_cmp parts id tt

-- a field of the background has a shared text and one for each card, in the order of their ids
field_of_background : writes_of_new_part two_cards (OfBackground 1) Field ≡ write next_id (number 7)
    ∷ write (whole 6) (object (new_part (OfBackground 1) Field)) ∷ write (layer_parts 1) (ids (3 ∷ 5 ∷ 6 ∷ []))
    ∷ write (field_text 6 0) (text []) ∷ write (field_text 6 2) (text []) ∷ write (field_text 6 4) (text []) ∷ []
field_of_background = simp (object_ids, found, listed) refl

-- a button of a card keeps nothing for cards
button_of_card : writes_of_new_part two_cards (OfCard 2) Button ≡ write next_id (number 7)
    ∷ write (whole 6) (object (new_part (OfCard 2) Button)) ∷ write (layer_parts 2) (ids (6 ∷ [])) ∷ []
button_of_card = simp (object_ids, found, listed) refl

-- a new card stands after the other, with a text and a hilite
card : writes_of_new_card two_cards 4 ≡ write next_id (number 7)
    ∷ write (whole 6) (object (empty_object (Card 1 false))) ∷ write card_order (ids (4 ∷ 6 ∷ 2 ∷ []))
    ∷ write (layer_parts 6) (ids []) ∷ write (field_text 3 6) (text []) ∷ write (button_hilite 5 6) (logical false) ∷ []
card = simp (object_ids, found, listed) refl

-- a new background comes last, with its card
background : writes_of_new_background two_cards 2 ≡ write next_id (number 8)
    ∷ write (whole 6) (object (empty_object (Background false)))
    ∷ write (whole 7) (object (empty_object (Card 6 false))) ∷ write card_order (ids (4 ∷ 2 ∷ 7 ∷ []))
    ∷ write background_order (ids (1 ∷ 6 ∷ [])) ∷ write (layer_parts 6) (ids []) ∷ write (layer_parts 7) (ids []) ∷ []
background = refl

-- a card goes, and its background stays with the other
one_goes : writes_of_deletion two_cards 2 ≡ write card_order (ids (4 ∷ [])) ∷ clear (whole 2) ∷ clear (layer_parts 2)
    ∷ clear (field_text 3 2) ∷ clear (button_hilite 5 2) ∷ []
one_goes = simp (object_ids, found, listed, layers, text_pairs, hilite_pairs) refl

-- the card behind it follows, and behind the last one the first
behind_the_first : following 4 two_cards.cards ≡ 2
behind_the_first = refl

behind_the_last : following 2 two_cards.cards ≡ 4
behind_the_last = refl

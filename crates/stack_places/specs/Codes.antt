-- Places as numbers.
use Rattle.std.specs.Prelude.{◌≡◌, ℕ, [], ◌∷◌, slice_index_or, refl}
use Rattle.ht_values.specs.declared.word.Prop.{Prop}
use Rattle.ht_values.specs.declared.word.Prop.TheVariants as props
use Rattle.stack_places.specs.Places.{StackPlace, prop_number, property, field_text, button_hilite, whole, card_order}
use Rattle.stack_places.specs.Places.{background_order, layer_parts, next_id}

-- the property with a number
abbrev pub prop_numbered : ℕ → Prop
prop_numbered n = slice_index_or
    (props.Name ∷ props.ShortName ∷ props.Id ∷ props.ShortId ∷ props.Number ∷ props.Script ∷ props.Visible
    ∷ props.Hilite ∷ props.SharedHilite ∷ props.LockText ∷ props.SharedText ∷ props.CantDelete ∷ []) n props.Name

-- a place as a number of its form and two more
abbrev pub place_code : StackPlace → ℕ × (ℕ × ℕ)
place_code (property id p) = (0, (id, prop_number p))
place_code (field_text field card) = (1, (field, card))
place_code (button_hilite button card) = (2, (button, card))
place_code (whole id) = (3, (id, 0))
place_code card_order = (4, (0, 0))
place_code background_order = (5, (0, 0))
place_code (layer_parts layer) = (6, (layer, 0))
place_code next_id = (7, (0, 0))

abbrev pub place_coded : ℕ → ℕ → ℕ → StackPlace
place_coded n i j = slice_index_or
    (property i (prop_numbered j) ∷ field_text i j ∷ button_hilite i j ∷ whole i ∷ card_order ∷ background_order
    ∷ layer_parts i ∷ next_id ∷ []) n next_id

pub prop_back : (p : Prop) → prop_numbered (prop_number p) ≡ p
prop_back props.Name = refl
prop_back _ = refl

pub place_back : (p : StackPlace) → (let c = place_code p in place_coded c.0 c.1.0 c.1.1) ≡ p
place_back (property id p) = λ i. property id (prop_back p i)
place_back _ = refl

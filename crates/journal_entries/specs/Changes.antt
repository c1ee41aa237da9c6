-- The changes: where each fits, what it writes, and the state after it.
use Rattle.std.specs.Prelude.{ℕ, ◌+◌, Bool, List, [], ◌∷◌, ◌++◌, map, Some, IfSome, option_map, is_some}
use Rattle.ht_values.specs.Text.{IsText, is_folded}
use Rattle.object_table.specs.PartContents.{text_at, hilite_at}
use Rattle.object_table.specs.Objects.{has_kind, is_card}
use Rattle.object_table.specs.Setting as settings
use Rattle.stack_places.specs.Places.{prop_of, property, field_text, button_hilite, text, logical, setting, number}
use Rattle.journal_entries.specs.State.{State}
use Rattle.structural_changes.specs.Writes.{following, writes_of_new_part, writes_of_new_card}
use Rattle.structural_changes.specs.Writes.{writes_of_new_background, writes_of_deletion, has_room_for, fits_new_part}
use Rattle.structural_changes.specs.Writes.{fits_deletion}
use Rattle.journal_entries.specs.Places.{Write, put_all, global, in_stack, current_card, in_the_stack}
use Rattle.journal_entries.specs.declared.change.Change.{Change}
use Rattle.journal_entries.specs.declared.change.Change.TheVariants.{Global, FieldText, Hilite, Prop, Current, NewCard}
use Rattle.journal_entries.specs.declared.change.Change.TheVariants.{NewBackground, NewPart, DeleteCard}

-- a card becomes the current one
abbrev pub makes_current : ℕ → Write
makes_current card = record { place = current_card; value = Some (number card) }

-- what a change writes, in order
abbrev pub writes_of : State → Change → List Write
writes_of s (Global name v) = record { place = global name; value = option_map (λ t. text t) v } ∷ []
writes_of s (FieldText field card t) = record { place = in_stack (field_text field card); value = Some (text t) } ∷ []
writes_of s (Hilite button card b) =
    record { place = in_stack (button_hilite button card); value = Some (logical b) } ∷ []
writes_of s (Prop id v) = record { place = in_stack (property id (prop_of v)); value = Some (setting v) } ∷ []
writes_of s (Current card) = makes_current card ∷ []
writes_of s NewCard = map in_the_stack (writes_of_new_card s.stack s.current) ++ makes_current s.stack.next ∷ []
writes_of s NewBackground =
    map in_the_stack (writes_of_new_background s.stack s.current) ++ makes_current (s.stack.next + 1) ∷ []
writes_of s (NewPart layer kind) = map in_the_stack (writes_of_new_part s.stack layer kind)
writes_of s DeleteCard =
    makes_current (following s.current s.stack.cards) ∷ map in_the_stack (writes_of_deletion s.stack s.current)

-- the state after a change
abbrev pub changed : State → Change → State
changed s change = put_all s (writes_of s change)

-- whether a change fits: a global goes by its folded name, a text, a hilite and a property are there already, what
-- becomes current is a card, there is room for the objects that are made, and a card goes where there is a second one
abbrev pub fits : State → Change → Bool
fits s (Global name v) = is_folded name
fits s (FieldText field card t) = is_some (text_at s.stack field card)
fits s (Hilite button card b) = is_some (hilite_at s.stack button card)
fits s (Prop id v) = settings.may_set s.stack id v
fits s (Current card) = has_kind is_card s.stack card
fits s NewCard = has_room_for 1 s.stack
fits s NewBackground = has_room_for 2 s.stack
fits s (NewPart layer kind) = fits_new_part s.stack layer
fits s DeleteCard = fits_deletion s.stack

-- the name and the value of a global, what is written to a field, and a name and a script, are texts
abbrev pub HasTexts : Change → Type 0
HasTexts (Global name v) = IsText name × IfSome v IsText
HasTexts (FieldText field card t) = IsText t
HasTexts (Prop id v) = settings.HasTexts v
HasTexts _ = Unit {0}

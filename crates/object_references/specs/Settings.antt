-- Properties of objects that a reference found, as they are read and set.
use Rattle.std.specs.Prelude.{◌≡◌, ℕ, Bool, true, false, List, Option, is_some, unwrap_or, Result, Ok, Err}
use Rattle.std.specs.Prelude.{if◌then◌else◌}
use Rattle.ht_values.specs.declared.fault.Fault.{Fault}
use Rattle.ht_values.specs.declared.fault.Fault.TheVariants.{NoSuchObject}
use Rattle.ht_values.specs.declared.word.PartKind.{PartKind}
use Rattle.ht_values.specs.declared.word.Prop.{Prop}
use Rattle.ht_values.specs.declared.word.Prop.TheVariants.{Name}
use Rattle.ht_values.specs.Outcome.{and_then}
use Rattle.ht_grammar.specs.declared.vocabulary.Layer.{Layer}
use Rattle.object_table.specs.Content.{Content}
use Rattle.object_table.specs.Flags.{shared_hilite_of}
use Rattle.object_table.specs.Objects.{has_kind, is_background_button}
use Rattle.object_table.specs.PartContents.{hilite_at}
use Rattle.object_table.specs.declared.property.PropValue.{PropValue}
use Rattle.object_table.specs.declared.property.PropValue.TheVariants.{HiliteIs}
use Rattle.properties.specs.PropertyText.{property_of, own_hilite}
use Rattle.properties.specs.Setting.{value_for}
use Rattle.object_references.specs.References.{met_if_there, layer_meant, scope_by, parts_on}
use Rattle.object_references.specs.declared.referent.Referent.{Referent}
use Rattle.journal_entries.specs.State.{State}
use Rattle.journal_entries.specs.Changes.{fits}
use Rattle.journal_entries.specs.declared.change.Change.{Change}
use Rattle.journal_entries.specs.declared.change.Change.TheVariants as change

-- the name property of an object that may have been deleted
abbrev pub name_of : Content → ℕ → ℕ → Result (List ℕ) Fault
name_of s current id = and_then (met_if_there s current id) (λ m. property_of s m.card m.object Name)

-- the parts of a kind on the current card or on its background
abbrev pub parts_here : Content → ℕ → Option Layer → PartKind → List ℕ
parts_here s current l kind = parts_on s (scope_by s (layer_meant l kind) current).layer kind

-- ---- what `set` changes

-- the hilite that is kept for a card, or with 0 the shared one
abbrev pub hilite_change : Bool → ℕ → ℕ → Bool → Result Change Fault
hilite_change kept button card lit = if kept then Ok (change.Hilite button card lit) else Err NoSuchObject

-- whether the cards share a button's hilite
abbrev pub shares_hilite : Content → ℕ → Bool
shares_hilite s button = has_kind (λ kind. unwrap_or (shared_hilite_of kind) false) s button

-- a background's button has a hilite that its cards share, or one for each card
abbrev pub background_hilite : Content → Referent → Bool → Result Change Fault
background_hilite s m lit =
    if shares_hilite s m.object then hilite_change (is_some (hilite_at s m.object 0)) m.object 0 lit
    else hilite_change (is_some (own_hilite s m.card m.object)) m.object m.card lit

-- the change that gives an object a value
abbrev pub change_of : Content → Referent → PropValue → Result Change Fault
change_of s m (HiliteIs lit) = if has_kind is_background_button s m.object then background_hilite s m lit else Ok
    (change.Prop m.object (HiliteIs lit))
change_of s m value = Ok (change.Prop m.object value)

-- first whether there is such a property that may be set, then whether the text is of its type, then whether a hilite
-- is there
abbrev pub setting : Content → Referent → Prop → List ℕ → Result Change Fault
setting s m prop t = and_then (value_for s m.object prop t) (change_of s m)

-- a change fits each state with this stack
abbrev pub FitsIn : Content → Change → Type 0
FitsIn s c = (state : State) → state.stack ≡ s → fits state c ≡ true

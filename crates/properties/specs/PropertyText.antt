-- The properties of objects, as texts.
use Rattle.std.specs.Prelude.{ℕ, zero, suc, Bool, true, false, List, decimal, Option, Some, None, Result, Ok, Err}
use Rattle.ht_values.specs.Operators.{in_words}
use Rattle.ht_values.specs.Outcome.{and_then, within_limit}
use Rattle.ht_values.specs.declared.fault.Fault.{Fault}
use Rattle.ht_values.specs.declared.fault.Fault.TheVariants.{NoSuchObject, NoSuchProperty}
use Rattle.ht_values.specs.declared.word.Prop.{Prop}
use Rattle.ht_values.specs.declared.word.Prop.TheVariants.{Name, ShortName, Id, ShortId, Number, Script, Visible}
use Rattle.ht_values.specs.declared.word.Prop.TheVariants.{Hilite, SharedHilite, LockText, SharedText, CantDelete}
use Rattle.object_table.specs.Content.{Content}
use Rattle.object_table.specs.Flags.{visible_of, shared_hilite_of, lock_text_of, shared_text_of, cant_delete_of}
use Rattle.object_table.specs.PartContents.{hilite_at}
use Rattle.object_table.specs.Numbers.{number_of}
use Rattle.object_table.specs.Objects.{object_at}
use Rattle.object_table.specs.declared.object.Object.{Object}
use Rattle.object_table.specs.declared.object.Kind.{Kind}
use Rattle.object_table.specs.declared.object.Kind.TheVariants.{CardButton, BackgroundButton}
use Rattle.properties.specs.Names.{full_name, short_name, own_id, short_id}

-- what an object has, or that it has no such property
abbrev pub had : {A : Type 0} → Option A → Result A Fault
had None = Err NoSuchProperty
had (Some x) = Ok x

-- what is kept for a card, or that this card has no such object
abbrev pub kept : {A : Type 0} → Option A → Result A Fault
kept None = Err NoSuchObject
kept (Some x) = Ok x

-- a card's own hilite of a button; 0 is no card, under it stands the shared one
abbrev pub own_hilite : Content → ℕ → ℕ → Option Bool
own_hilite s zero id = None
own_hilite s (suc card) id = hilite_at s id (suc card)

-- the hilite of a button: of a background's button the shared one, or else the one of this card
abbrev pub hilite_for : Content → ℕ → ℕ → Kind → Result Bool Fault
hilite_for s card id (CardButton v lit) = Ok lit
hilite_for s card id (BackgroundButton v true) = kept (hilite_at s id 0)
hilite_for s card id (BackgroundButton v false) = kept (own_hilite s card id)
hilite_for s card id _ = Err NoSuchProperty

-- a number, or that there is none
abbrev pub in_digits : Option ℕ → Result (List ℕ) Fault
in_digits n = and_then (had n) (λ x. Ok (decimal x))

-- a truth value, or that there is none
abbrev pub flag : Option Bool → Result (List ℕ) Fault
flag b = in_words (had b)

-- the text of a property of an object that is there
abbrev pub property_by : Content → ℕ → ℕ → Object → Prop → Result (List ℕ) Fault
property_by s card id o Name = within_limit (full_name o.kind id o.name)
property_by s card id o ShortName = Ok (short_name o.kind id o.name)
property_by s card id o Id = in_digits (own_id o.kind id)
property_by s card id o ShortId = in_digits (short_id o.kind id)
property_by s card id o Number = in_digits (number_of s id)
property_by s card id o Script = Ok o.script
property_by s card id o Visible = flag (visible_of o.kind)
property_by s card id o Hilite = in_words (hilite_for s card id o.kind)
property_by s card id o SharedHilite = flag (shared_hilite_of o.kind)
property_by s card id o LockText = flag (lock_text_of o.kind)
property_by s card id o SharedText = flag (shared_text_of o.kind)
property_by s card id o CantDelete = flag (cant_delete_of o.kind)

-- the text of a property, with the card whose hilite is meant; an id without an object has no property
abbrev pub property_of : Content → ℕ → ℕ → Prop → Result (List ℕ) Fault
property_of s card id prop = and_then (had (object_at s id)) (λ o. property_by s card id o prop)

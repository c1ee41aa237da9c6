-- Keys are the same where entries are of one place.
use Rattle.std.proofs.Common.{◌≡◌, ℕ, Bool, true, false, ◌&&◌, nat_eq, Option, Some, None, refl, arith}
use Rattle.std.proofs.lemmas.Bool.Decides.{nat_tests}
use Rattle.stack_places.specs.Exchange.{of_one_property, of_one_place as stack_of_one_place}
use Rattle.stack_places.specs.declared.entry.StackEntry.{StackEntry}
use Rattle.stack_places.specs.declared.entry.StackEntry.TheVariants as stack_entries
use Rattle.object_table.specs.declared.property.PropValue.{PropValue}
use Rattle.object_table.specs.declared.property.PropValue.TheVariants as settings
use Rattle.journal_entries.specs.Exchange.{of_one_place}
use Rattle.journal_entries.specs.Keys.{key_of, stack_key, property_of}
use Rattle.journal_entries.specs.SameKey.{same_key}
use Rattle.journal_entries.specs.declared.entry.Entry.{Entry}
use Rattle.journal_entries.specs.declared.entry.Entry.TheVariants.{Global, Current, Stack, External}
use Rattle.journal_entries.specs.declared.place_key.PlaceKey.{PlaceKey}
use Rattle.journal_entries.specs.declared.place_key.PlaceKey.TheVariants as keys

abbrev pub same_keys : Option PlaceKey → Option PlaceKey → Bool
same_keys (Some a) (Some b) = same_key a b
same_keys _ _ = false

turned : (i j : ℕ) → nat_eq i j ≡ nat_eq j i
turned i j = grind (arith, nat_tests)

both_turned : (f c g d : ℕ) → nat_eq f g && nat_eq c d ≡ nat_eq g f && nat_eq d c
both_turned f c g d = λ i. turned f g i && turned c d i

kept : (i j : ℕ) → nat_eq i j && true ≡ nat_eq j i && true
kept i j = λ n. turned i j n && true

kept_apart : (i j : ℕ) → nat_eq i j && false ≡ nat_eq j i && false
kept_apart i j = λ n. turned i j n && false

property_place : (i j : ℕ) (v w : PropValue)
    → nat_eq i j && of_one_property v w ≡ same_key (keys.Property j (property_of w)) (keys.Property i (property_of v))
property_place i j (settings.NameIs t) (settings.NameIs u) = kept i j
property_place i j (settings.ScriptIs t) (settings.ScriptIs u) = kept i j
property_place i j (settings.VisibleIs a) (settings.VisibleIs b) = kept i j
property_place i j (settings.HiliteIs a) (settings.HiliteIs b) = kept i j
property_place i j (settings.SharedHiliteIs a) (settings.SharedHiliteIs b) = kept i j
property_place i j (settings.LockTextIs a) (settings.LockTextIs b) = kept i j
property_place i j (settings.SharedTextIs a) (settings.SharedTextIs b) = kept i j
property_place i j (settings.CantDeleteIs a) (settings.CantDeleteIs b) = kept i j
property_place i j v w = kept_apart i j

stack_place : (e f : StackEntry) → stack_of_one_place e f ≡ same_keys (stack_key f) (stack_key e)
unfolding stack_of_one_place
stack_place (stack_entries.Prop i v) (stack_entries.Prop j w) = property_place i j v w
stack_place (stack_entries.FieldText f c v) (stack_entries.FieldText g d w) = both_turned f c g d
stack_place (stack_entries.Hilite b c v) (stack_entries.Hilite h d w) = both_turned b c h d
stack_place (stack_entries.Parts i v) (stack_entries.Parts j w) = turned i j
stack_place (stack_entries.Prop i v) f = refl
stack_place e (stack_entries.Prop j w) = refl
stack_place e f = refl

-- a place of a stack is no global and not the current card
no_global : (i : ℕ) (f : StackEntry) → false ≡ same_keys (stack_key f) (Some (keys.Global i))
no_global i (stack_entries.Prop j v) = refl
no_global i f = refl

no_stack : (i : ℕ) (f : StackEntry) → false ≡ same_keys (Some (keys.Global i)) (stack_key f)
no_stack i (stack_entries.Prop j v) = refl
no_stack i f = refl

no_card : (f : StackEntry) → false ≡ same_keys (stack_key f) (Some keys.CurrentCard)
no_card (stack_entries.Prop j v) = refl
no_card f = refl

no_current : (f : StackEntry) → false ≡ same_keys (Some keys.CurrentCard) (stack_key f)
no_current (stack_entries.Prop j v) = refl
no_current f = refl

none_right : (f : StackEntry) → false ≡ same_keys (stack_key f) None
none_right (stack_entries.Prop j v) = refl
none_right f = refl

-- of one place are those whose keys are the same
pub one_place : (e f : Entry) → of_one_place e f ≡ same_keys (key_of f) (key_of e)
unfolding of_one_place
one_place (Global i v) (Global j w) = turned i j
one_place (Stack e) (Stack f) = stack_place e f
one_place (Global i v) (Stack f) = no_global i f
one_place (Stack e) (Global j w) = no_stack j e
one_place (Current c) (Stack f) = no_card f
one_place (Stack e) (Current d) = no_current e
one_place (External i p) (Stack f) = none_right f
one_place e f = refl

-- Places as keys.
use Rattle.std.specs.Prelude.{Option, Some, None}
use Rattle.object_table.specs.declared.property.PropValue.{PropValue}
use Rattle.object_table.specs.declared.property.PropValue.TheVariants as settings
use Rattle.stack_places.specs.declared.entry.StackEntry.{StackEntry}
use Rattle.stack_places.specs.declared.entry.StackEntry.TheVariants as stack_entries
use Rattle.journal_entries.specs.declared.entry.Entry.{Entry}
use Rattle.journal_entries.specs.declared.entry.Entry.TheVariants as entries
use Rattle.journal_entries.specs.declared.place_key.PropertyKey.{PropertyKey}
use Rattle.journal_entries.specs.declared.place_key.PropertyKey.TheVariants as props
use Rattle.journal_entries.specs.declared.place_key.PlaceKey.{PlaceKey}
use Rattle.journal_entries.specs.declared.place_key.PlaceKey.TheVariants as keys

-- the property that a value is for
abbrev pub property_of : PropValue → PropertyKey
property_of (settings.NameIs t) = props.Name
property_of (settings.ScriptIs t) = props.Script
property_of (settings.VisibleIs b) = props.Visible
property_of (settings.HiliteIs b) = props.Hilite
property_of (settings.SharedHiliteIs b) = props.SharedHilite
property_of (settings.LockTextIs b) = props.LockText
property_of (settings.SharedTextIs b) = props.SharedText
property_of (settings.CantDeleteIs b) = props.CantDelete

abbrev pub stack_key : StackEntry → Option PlaceKey
stack_key (stack_entries.Prop id v) = Some (keys.Property id (property_of v))
stack_key (stack_entries.FieldText field card v) = Some (keys.FieldText field card)
stack_key (stack_entries.Hilite button card v) = Some (keys.CardHilite button card)
stack_key (stack_entries.Object id v) = None
stack_key (stack_entries.CardOrder l) = Some keys.CardOrder
stack_key (stack_entries.BackgroundOrder l) = Some keys.BackgroundOrder
stack_key (stack_entries.Parts layer v) = Some (keys.Parts layer)
stack_key (stack_entries.NextId n) = Some keys.NextId

-- the place of an entry, which neither a structural entry nor one of an external has
abbrev pub key_of : Entry → Option PlaceKey
key_of (entries.Global i v) = Some (keys.Global i)
key_of (entries.Current c) = Some keys.CurrentCard
key_of (entries.Stack e) = stack_key e
key_of (entries.External i p) = None

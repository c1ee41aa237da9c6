-- What may be set in an object, and the object with it.
use Rattle.std.specs.Prelude.{ℕ, Bool, Option, Some, option_map, option_and_then, is_some}
use Rattle.ht_values.specs.Text.{IsText}
use Rattle.object_table.specs.Content.{Content}
use Rattle.object_table.specs.Flags.{visible_of, hilite_of, shared_hilite_of, lock_text_of, shared_text_of}
use Rattle.object_table.specs.Flags.{cant_delete_of, with_visible, with_hilite, with_shared_hilite, with_lock_text}
use Rattle.object_table.specs.Flags.{with_shared_text, with_cant_delete}
use Rattle.object_table.specs.Maps.{put_option}
use Rattle.object_table.specs.Objects.{object_at}
use Rattle.object_table.specs.declared.object.Object.{Object}
use Rattle.object_table.specs.declared.property.PropValue.{PropValue}
use Rattle.object_table.specs.declared.property.PropValue.TheVariants.{NameIs, ScriptIs, VisibleIs, HiliteIs}
use Rattle.object_table.specs.declared.property.PropValue.TheVariants.{SharedHiliteIs, LockTextIs, SharedTextIs}
use Rattle.object_table.specs.declared.property.PropValue.TheVariants.{CantDeleteIs}

-- a name and a script are texts
abbrev pub HasTexts : PropValue → Type 0
HasTexts (NameIs t) = IsText t
HasTexts (ScriptIs t) = IsText t
HasTexts _ = Unit {0}

-- the object with this value of a property
abbrev pub with_value : PropValue → Object → Object
with_value (NameIs t) o = record o { name = t }
with_value (ScriptIs t) o = record o { script = t }
with_value (VisibleIs b) o = record o { kind = with_visible b o.kind }
with_value (HiliteIs b) o = record o { kind = with_hilite b o.kind }
with_value (SharedHiliteIs b) o = record o { kind = with_shared_hilite b o.kind }
with_value (LockTextIs b) o = record o { kind = with_lock_text b o.kind }
with_value (SharedTextIs b) o = record o { kind = with_shared_text b o.kind }
with_value (CantDeleteIs b) o = record o { kind = with_cant_delete b o.kind }

-- the object's own value of the property that this is a value of, where it has that property and it may be set
abbrev pub value_in : PropValue → Object → Option PropValue
value_in (NameIs t) o = Some (NameIs o.name)
value_in (ScriptIs t) o = Some (ScriptIs o.script)
value_in (VisibleIs b) o = option_map (λ x. VisibleIs x) (visible_of o.kind)
value_in (HiliteIs b) o = option_map (λ x. HiliteIs x) (hilite_of o.kind)
value_in (SharedHiliteIs b) o = option_map (λ x. SharedHiliteIs x) (shared_hilite_of o.kind)
value_in (LockTextIs b) o = option_map (λ x. LockTextIs x) (lock_text_of o.kind)
value_in (SharedTextIs b) o = option_map (λ x. SharedTextIs x) (shared_text_of o.kind)
value_in (CantDeleteIs b) o = option_map (λ x. CantDeleteIs x) (cant_delete_of o.kind)

-- the value of that property that is there now
abbrev pub value_at : Content → ℕ → PropValue → Option PropValue
value_at s id v = option_and_then (value_in v) (object_at s id)

-- whether the object is there, has that property, and it may be set
abbrev pub may_set : Content → ℕ → PropValue → Bool
may_set s id v = is_some (value_at s id v)

-- the stack with this value of an object's property
abbrev pub with_value_at : Content → ℕ → PropValue → Content
with_value_at s id v = record s { objects = put_option s.objects id (option_map (with_value v) (object_at s id)) }

-- What may be set, and to what.
use Rattle.std.specs.Prelude.{ℕ, Bool, true, false, ◌||◌, List, Result, Ok, Err, if◌then◌else◌}
use Rattle.ht_values.specs.Operators.{truth_of}
use Rattle.ht_values.specs.Outcome.{and_then}
use Rattle.ht_values.specs.declared.fault.Fault.{Fault}
use Rattle.ht_values.specs.declared.fault.Fault.TheVariants.{NoSuchProperty}
use Rattle.ht_values.specs.declared.word.Prop.{Prop}
use Rattle.ht_values.specs.declared.word.Prop.TheVariants.{Name, ShortName, Id, ShortId, Number, Script, Visible}
use Rattle.ht_values.specs.declared.word.Prop.TheVariants.{Hilite, SharedHilite, LockText, SharedText, CantDelete}
use Rattle.object_table.specs.Content.{Content}
use Rattle.object_table.specs.Objects.{has_kind, is_background, is_card, is_button, is_field, is_background_button}
use Rattle.object_table.specs.Objects.{is_background_field}
use Rattle.object_table.specs.declared.object.Kind.{Kind}
use Rattle.object_table.specs.declared.property.PropValue.{PropValue}
use Rattle.object_table.specs.declared.property.PropValue.TheVariants.{NameIs, ScriptIs, VisibleIs, HiliteIs}
use Rattle.object_table.specs.declared.property.PropValue.TheVariants.{SharedHiliteIs, LockTextIs, SharedTextIs}
use Rattle.object_table.specs.declared.property.PropValue.TheVariants.{CantDeleteIs}

-- whether objects of the kind have the property, and it may be set
abbrev pub may_be_set : Prop → Kind → Bool
may_be_set Name kind = true
may_be_set ShortName kind = false
may_be_set Id kind = false
may_be_set ShortId kind = false
may_be_set Number kind = false
may_be_set Script kind = true
may_be_set Visible kind = is_button kind || is_field kind
may_be_set Hilite kind = is_button kind
may_be_set SharedHilite kind = is_background_button kind
may_be_set LockText kind = is_field kind
may_be_set SharedText kind = is_background_field kind
may_be_set CantDelete kind = is_background kind || is_card kind

-- the value that a text is for a property: any text, or one that is a truth value
abbrev pub value_by : Prop → List ℕ → Result PropValue Fault
value_by Name t = Ok (NameIs t)
value_by Script t = Ok (ScriptIs t)
value_by Visible t = and_then (truth_of t) (λ b. Ok (VisibleIs b))
value_by Hilite t = and_then (truth_of t) (λ b. Ok (HiliteIs b))
value_by SharedHilite t = and_then (truth_of t) (λ b. Ok (SharedHiliteIs b))
value_by LockText t = and_then (truth_of t) (λ b. Ok (LockTextIs b))
value_by SharedText t = and_then (truth_of t) (λ b. Ok (SharedTextIs b))
value_by CantDelete t = and_then (truth_of t) (λ b. Ok (CantDeleteIs b))
value_by _ t = Err NoSuchProperty

-- first whether the object is there and the property may be set, then whether the text is of its type
abbrev pub value_for : Content → ℕ → Prop → List ℕ → Result PropValue Fault
value_for s id prop t = if has_kind (may_be_set prop) s id then value_by prop t else Err NoSuchProperty

-- with the text handed back beside a fault
abbrev pub handed_back : {A : Type 0} → List ℕ → Result A Fault → Result A (List ℕ × Fault)
handed_back t (Ok v) = Ok v
handed_back t (Err fault) = Err (t, fault)

-- What is set fits each state with the stack.
use Rattle.std.proofs.Common.{◌≡◌, ℕ, zero, suc, Bool, true, false, ◌||◌, List, Option, Some, None, option_map}
use Rattle.std.proofs.Common.{option_and_then, unwrap_or, is_some, Result, Ok, Err, IfOk, refl, sym, ap, ◌∙◌}
use Rattle.std.proofs.Common.{if◌then◌else◌}
use Rattle.ht_values.specs.Operators.{truth_of}
use Rattle.ht_values.specs.Outcome.{and_then}
use Rattle.ht_values.specs.declared.fault.Fault.{Fault}
use Rattle.ht_values.specs.declared.fault.Fault.TheVariants.{NoSuchProperty}
use Rattle.ht_values.specs.declared.word.Prop.{Prop}
use Rattle.ht_values.specs.declared.word.Prop.TheVariants as prop
use Rattle.object_table.specs.Content.{Content}
use Rattle.object_table.specs.Flags.{visible_of, hilite_of, shared_hilite_of, lock_text_of, shared_text_of}
use Rattle.object_table.specs.Flags.{cant_delete_of}
use Rattle.object_table.specs.Objects.{object_at, has_kind, is_background, is_card, is_button, is_field}
use Rattle.object_table.specs.Objects.{is_background_button, is_background_field}
use Rattle.object_table.specs.PartContents.{hilite_at}
use Rattle.object_table.specs.Setting.{may_set, value_in}
use Rattle.object_table.specs.declared.object.Object.{Object}
use Rattle.object_table.specs.declared.object.Kind.{Kind}
use Rattle.object_table.specs.declared.object.Kind.TheVariants.{Stack, Background, Card, CardButton, BackgroundButton}
use Rattle.object_table.specs.declared.object.Kind.TheVariants.{CardField, BackgroundField}
use Rattle.object_table.specs.declared.property.PropValue.{PropValue}
use Rattle.object_table.specs.declared.property.PropValue.TheVariants.{NameIs, ScriptIs, VisibleIs, HiliteIs}
use Rattle.object_table.specs.declared.property.PropValue.TheVariants.{SharedHiliteIs, LockTextIs, SharedTextIs}
use Rattle.object_table.specs.declared.property.PropValue.TheVariants.{CantDeleteIs}
use Rattle.object_table.proofs.Slots.{mapped_some}
use Rattle.properties.specs.PropertyText.{own_hilite}
use Rattle.properties.specs.Setting.{may_be_set, value_by}
use Rattle.stack_places.specs.Places.{prop_of}
use Rattle.journal_entries.specs.declared.change.Change.TheVariants as change
use Rattle.object_references.specs.Settings.{hilite_change, shares_hilite, background_hilite, change_of, setting}
use Rattle.object_references.specs.Settings.{FitsIn}
use Rattle.object_references.specs.declared.referent.Referent.{Referent}

-- ---- hilites

hilite_fits : (s : Content) (kept : Bool) (button card : ℕ) (lit : Bool)
    → (kept ≡ true → is_some (hilite_at s button card) ≡ true) → IfOk (hilite_change kept button card lit) (FitsIn s)
hilite_fits s true button card lit there = λ state e. ap (λ c. is_some (hilite_at c button card)) e ∙ there refl
hilite_fits s false button card lit there = tt

own_is_kept : (s : Content) (button card : ℕ) → is_some (own_hilite s card button) ≡ true
    → is_some (hilite_at s button card) ≡ true
own_is_kept s button zero h = absurd (cc)
own_is_kept s button (suc card) h = h

background_fits : (s : Content) (m : Referent) (lit : Bool) → IfOk (background_hilite s m lit) (FitsIn s)
background_fits s m lit = by (shares_hilite s m.object)
  where
    by : (shared : Bool) → IfOk (if shared then hilite_change (is_some (hilite_at s m.object 0)) m.object 0 lit else
        hilite_change (is_some (own_hilite s m.card m.object)) m.object m.card lit) (FitsIn s)
    by true = hilite_fits s (is_some (hilite_at s m.object 0)) m.object 0 lit (λ h. h)
    by false =
        hilite_fits s (is_some (own_hilite s m.card m.object)) m.object m.card lit (own_is_kept s m.object m.card)

-- ---- properties

-- an object has a flag where its kind passes
record Flags (k : Kind) : Type 0 where
  visible : is_some (visible_of k) ≡ (is_button k || is_field k)
  shared_hilite : is_some (shared_hilite_of k) ≡ is_background_button k
  lock_text : is_some (lock_text_of k) ≡ is_field k
  shared_text : is_some (shared_text_of k) ≡ is_background_field k
  cant_delete : is_some (cant_delete_of k) ≡ (is_background k || is_card k)

flags : (k : Kind) → Flags k
flags Stack = record { visible = refl; shared_hilite = refl; lock_text = refl; shared_text = refl; cant_delete = refl }
flags (Background c) =
    record { visible = refl; shared_hilite = refl; lock_text = refl; shared_text = refl; cant_delete = refl }
flags (Card b c) =
    record { visible = refl; shared_hilite = refl; lock_text = refl; shared_text = refl; cant_delete = refl }
flags (CardButton v h) =
    record { visible = refl; shared_hilite = refl; lock_text = refl; shared_text = refl; cant_delete = refl }
flags (BackgroundButton v h) =
    record { visible = refl; shared_hilite = refl; lock_text = refl; shared_text = refl; cant_delete = refl }
flags (CardField v l) =
    record { visible = refl; shared_hilite = refl; lock_text = refl; shared_text = refl; cant_delete = refl }
flags (BackgroundField v l t) =
    record { visible = refl; shared_hilite = refl; lock_text = refl; shared_text = refl; cant_delete = refl }

prop_fits : (s : Content) (id : ℕ) (v : PropValue) (o : Object) → object_at s id ≡ Some o
    → is_some (value_in v o) ≡ true → FitsIn s (change.Prop id v)
prop_fits s id v o there has state e =
    ap (λ c. may_set c id v) e ∙ ap (λ x. is_some (option_and_then (value_in v) x)) there ∙ has

-- a value of a property that may be set in an object
value_fits : (s : Content) (m : Referent) (v : PropValue) (o : Object) → object_at s m.object ≡ Some o
    → may_be_set (prop_of v) o.kind ≡ true → IfOk (change_of s m v) (FitsIn s)
value_fits s m (NameIs t) o there may = prop_fits s m.object (NameIs t) o there refl
value_fits s m (ScriptIs t) o there may = prop_fits s m.object (ScriptIs t) o there refl
value_fits s m (VisibleIs b) o there may = prop_fits s m.object (VisibleIs b) o there
    (mapped_some (λ x. VisibleIs x) (visible_of o.kind) ∙ (flags o.kind).visible ∙ may)
value_fits s m (HiliteIs lit) o there may = by (has_kind is_background_button s m.object) refl
  where
    lone : (k : Kind) → is_background_button k ≡ false → is_button k ≡ true → is_some (hilite_of k) ≡ true
    lone Stack other button = button
    lone (Background c) other button = button
    lone (Card b c) other button = button
    lone (CardButton v h) other button = refl
    lone (BackgroundButton v h) other button = sym other
    lone (CardField v l) other button = button
    lone (BackgroundField v l t) other button = button

    by : (b : Bool) → has_kind is_background_button s m.object ≡ b
        → IfOk (if b then background_hilite s m lit else Ok (change.Prop m.object (HiliteIs lit))) (FitsIn s)
    by true q = background_fits s m lit
    by false q =
        let other : is_background_button o.kind ≡ false =
        sym (ap (λ x. unwrap_or (option_map (λ y. is_background_button y.kind) x) false) there) ∙ q in
        prop_fits s m.object (HiliteIs lit) o there
        (mapped_some (λ x. HiliteIs x) (hilite_of o.kind) ∙ lone o.kind other may)
value_fits s m (SharedHiliteIs b) o there may = prop_fits s m.object (SharedHiliteIs b) o there
    (mapped_some (λ x. SharedHiliteIs x) (shared_hilite_of o.kind) ∙ (flags o.kind).shared_hilite ∙ may)
value_fits s m (LockTextIs b) o there may = prop_fits s m.object (LockTextIs b) o there
    (mapped_some (λ x. LockTextIs x) (lock_text_of o.kind) ∙ (flags o.kind).lock_text ∙ may)
value_fits s m (SharedTextIs b) o there may = prop_fits s m.object (SharedTextIs b) o there
    (mapped_some (λ x. SharedTextIs x) (shared_text_of o.kind) ∙ (flags o.kind).shared_text ∙ may)
value_fits s m (CantDeleteIs b) o there may = prop_fits s m.object (CantDeleteIs b) o there
    (mapped_some (λ x. CantDeleteIs x) (cant_delete_of o.kind) ∙ (flags o.kind).cant_delete ∙ may)

-- ---- texts

logical_fits : (s : Content) (m : Referent) (make : Bool → PropValue)
    → ((b : Bool) → IfOk (change_of s m (make b)) (FitsIn s)) → (r : Result Bool Fault)
    → IfOk (and_then (and_then r (λ b. Ok (make b))) (change_of s m)) (FitsIn s)
logical_fits s m make each (Ok b) = each b
logical_fits s m make each (Err fault) = tt

text_fits : (s : Content) (m : Referent) (p : Prop) (t : List ℕ) (o : Object) → object_at s m.object ≡ Some o
    → may_be_set p o.kind ≡ true → IfOk (and_then (value_by p t) (change_of s m)) (FitsIn s)
text_fits s m prop.Name t o there may = value_fits s m (NameIs t) o there may
text_fits s m prop.ShortName t o there may = tt
text_fits s m prop.Id t o there may = tt
text_fits s m prop.ShortId t o there may = tt
text_fits s m prop.Number t o there may = tt
text_fits s m prop.Script t o there may = value_fits s m (ScriptIs t) o there may
text_fits s m prop.Visible t o there may =
    logical_fits s m (λ b. VisibleIs b) (λ b. value_fits s m (VisibleIs b) o there may) (truth_of t)
text_fits s m prop.Hilite t o there may =
    logical_fits s m (λ b. HiliteIs b) (λ b. value_fits s m (HiliteIs b) o there may) (truth_of t)
text_fits s m prop.SharedHilite t o there may =
    logical_fits s m (λ b. SharedHiliteIs b) (λ b. value_fits s m (SharedHiliteIs b) o there may) (truth_of t)
text_fits s m prop.LockText t o there may =
    logical_fits s m (λ b. LockTextIs b) (λ b. value_fits s m (LockTextIs b) o there may) (truth_of t)
text_fits s m prop.SharedText t o there may =
    logical_fits s m (λ b. SharedTextIs b) (λ b. value_fits s m (SharedTextIs b) o there may) (truth_of t)
text_fits s m prop.CantDelete t o there may =
    logical_fits s m (λ b. CantDeleteIs b) (λ b. value_fits s m (CantDeleteIs b) o there may) (truth_of t)

pub setting_fits : (s : Content) (m : Referent) (p : Prop) (t : List ℕ) → IfOk (setting s m p t) (FitsIn s)
setting_fits s m p t = by (object_at s m.object) refl
  where
    if_settable : (o : Object) → object_at s m.object ≡ Some o → (b : Bool) → may_be_set p o.kind ≡ b
        → IfOk (and_then (if b then value_by p t else Err NoSuchProperty) (change_of s m)) (FitsIn s)
    if_settable o there true may = text_fits s m p t o there may
    if_settable o there false may = tt

    by : (x : Option Object) → object_at s m.object ≡ x
        → IfOk (and_then (if unwrap_or (option_map (λ o. may_be_set p o.kind) x) false then value_by p t else Err
        NoSuchProperty) (change_of s m)) (FitsIn s)
    by None there = tt
    by (Some o) there = if_settable o there (may_be_set p o.kind) refl

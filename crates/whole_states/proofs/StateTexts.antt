-- What is read of a whole state is texts.
use Rattle.std.specs.Prelude.{IfSome, option_and_then, find, unwrap_or}
use Rattle.std.specs.List.{All}
use Rattle.std.specs.Option.{ok_or}
use Rattle.std.specs.Fmt.{decimal}
use Rattle.std.proofs.Common.{◌≡◌, ◌<◌, ◌≤◌, ℕ, List, [], ◌∷◌, ◌++◌, length, codes, Bool, true, false, cond, Option}
use Rattle.std.proofs.Common.{Some, None, is_some, Result, Ok, Err, IfOk, refl, arith, length-append, leb-true}
use Rattle.std.proofs.lemmas.Bool.Decides.{nat_tests}
use Rattle.std.proofs.lemmas.List.{length-map}
use Rattle.std.proofs.lemmas.List.Elements.{All-append, All-map}
use Rattle.std.specs.Char.{to_ascii_lowercase}
use Rattle.ht_values.specs.declared.fault.Fault.{Fault}
use Rattle.ht_values.specs.declared.fault.Fault.TheVariants.{NoSuchObject, NoSuchProperty}
use Rattle.ht_values.specs.declared.word.Prop.{Prop}
use Rattle.ht_values.specs.declared.word.Prop.TheVariants as prop
use Rattle.ht_values.specs.Operators.{truth_of}
use Rattle.ht_values.specs.Outcome.{and_then, within_limit}
use Rattle.ht_values.specs.Text.{IsText, folded, same}
use Rattle.ht_values.proofs.Folding.{folded_is_folded}
use Rattle.chunks.specs.Laws.{PartsCut}
use Rattle.chunks.specs.Nested.{read_within}
use Rattle.object_table.proofs.Empty.{no_bytes}
use Rattle.object_table.specs.Content.{Content}
use Rattle.object_table.specs.Objects.{object_at, has_kind, is_background_button}
use Rattle.object_table.specs.PartContents.{hilite_at}
use Rattle.object_table.specs.Flags.{visible_of, shared_hilite_of, lock_text_of, shared_text_of, cant_delete_of}
use Rattle.object_table.specs.Numbers as numbers
use Rattle.object_table.specs.Setting as settings
use Rattle.object_table.specs.WellFormed.{IsWellFormed}
use Rattle.object_table.specs.declared.object.Kind.{Kind}
use Rattle.object_table.specs.declared.object.Kind.TheVariants.{Stack, Background, Card, CardButton, BackgroundButton}
use Rattle.object_table.specs.declared.object.Kind.TheVariants.{CardField, BackgroundField}
use Rattle.object_table.specs.declared.object.Object.{Object}
use Rattle.object_table.specs.declared.property.PropValue.{PropValue}
use Rattle.object_table.specs.declared.property.PropValue.TheVariants.{NameIs, ScriptIs, VisibleIs, HiliteIs}
use Rattle.object_table.specs.declared.property.PropValue.TheVariants.{SharedHiliteIs, LockTextIs, SharedTextIs}
use Rattle.object_table.specs.declared.property.PropValue.TheVariants.{CantDeleteIs}
use Rattle.properties.specs.Names.{words_of, is_nameless, by_id, by_name, full_name, short_name, own_id, short_id}
use Rattle.properties.specs.PropertyText.{had, in_digits, hilite_for, property_by, property_of, own_hilite}
use Rattle.properties.specs.Setting.{may_be_set, value_by}
use Rattle.journal_entries.specs.State.{State, IsState, IsGlobal}
use Rattle.journal_entries.specs.Changes.{HasTexts}
use Rattle.journal_entries.specs.declared.change.Change.{Change}
use Rattle.journal_entries.specs.declared.change.Change.TheVariants as change
use Rattle.object_references.specs.declared.referent.Referent.{Referent}
use Rattle.object_references.specs.References.{met_if_there}
use Rattle.object_references.specs.Settings.{name_of, hilite_change, shares_hilite, background_hilite, change_of}
use Rattle.object_references.specs.Settings.{setting}
use Rattle.containers.specs.declared.edit.Edit.{Edit}
use Rattle.containers.specs.declared.variables.Local.{Local}
use Rattle.containers.specs.Edits.{edited, due, read_at}
use Rattle.containers.specs.Places.{StorageView, PlaceView, global, own, field_text, named, text_in, whole, read_name}
use Rattle.containers.specs.Variables.{VariablesView, is_global, with_value}
use Rattle.meaning.specs.Places as places
use Rattle.whole_states.specs.Texts.{LocalsTexts, StorageTexts}
use Rattle.whole_states.proofs.ValueTexts.{IfText, IfDue, AreBytes, given_text, short_text, decimal_are}
use Rattle.whole_states.proofs.ValueTexts.{decimal_text, words_text, within_text, within_read, EditTexts, edited_text}

-- ---- variables and containers

pub folded_text : (t : List ℕ) → IsText t → IsText (folded t)
folded_text t h =
    let short = h.short in
    record {
      short = omega (arith, short, length-map t to_ascii_lowercase);
      bytes = All-map (λ b. b < 256)
          to_ascii_lowercase t (lowered t h.bytes);
    }
  where
    lower : (b : ℕ) → b < 256 → to_ascii_lowercase b < 256
    lower b h = grind (arith, nat_tests)

    lowered : (bs : List ℕ) → AreBytes bs → All (λ b. to_ascii_lowercase b < 256) bs
    lowered bs h k d l = lower _ (h k d l)

pub named_texts : (v : VariablesView) (name : List ℕ) → IsText name → StorageTexts (named v name)
named_texts v name h = by (is_global v name)
  where
    by : (b : Bool) → StorageTexts (cond b (global (folded name)) (own name))
    by true = (folded_is_folded name, folded_text name h)
    by false = tt

own_text : (name : List ℕ) (ls : List Local) → LocalsTexts ls
    → IfSome (option_and_then (λ l. l.value) (find (λ l. same l.name name) ls)) IsText
own_text name [] h = tt
own_text name (l ∷ ls) h = by (own_text name ls h.1) (same l.name name)
  where
    by : IfSome (option_and_then (λ x. x.value) (find (λ x. same x.name name) ls)) IsText → (b : Bool)
        → IfSome (option_and_then (λ x. x.value) (cond b (Some l) (find (λ x. same x.name name) ls))) IsText
    by rest true = h.0
    by rest false = rest

of_global : (name : List ℕ) (o : Option (List ℕ)) → IfSome o (λ value. IsGlobal name value) → IfSome o IsText
of_global name None h = tt
of_global name (Some t) h = h.value

in_text : (s : State) (v : VariablesView) (h : StorageView) → IsState s → LocalsTexts v.locals
    → IfSome (text_in s v h) IsText
in_text s v (global name) q k = of_global name _ (q.globals name)
in_text s v (own name) q k = own_text name v.locals k
in_text s v (field_text field card) q k = q.stack.field_texts field card

unwrapped : (o : Option (List ℕ)) (t : List ℕ) → IfSome o IsText → IsText t → IsText (unwrap_or o t)
unwrapped None t h k = k
unwrapped (Some u) t h k = h

found_text : (o : Option (List ℕ)) → IfSome o IsText → IfText (ok_or o NoSuchObject)
found_text None h = tt
found_text (Some t) h = h

pub read_name_text : (s : State) (v : VariablesView) (name : List ℕ) → IsState s → LocalsTexts v.locals → IsText name
    → IsText (read_name s v name)
read_name_text s v name q k h = unwrapped (text_in s v (named v name)) name (in_text s v (named v name) q k) h

whole_text : (s : State) (v : VariablesView) (h : StorageView) → IsState s → LocalsTexts v.locals → IfText (whole s v h)
whole_text s v (global name) q k = unwrapped (text_in s v (global name)) [] (in_text s v (global name) q k) no_bytes
whole_text s v (own name) q k = unwrapped (text_in s v (own name)) [] (in_text s v (own name) q k) no_bytes
whole_text s v (field_text field card) q k =
    found_text (text_in s v (field_text field card)) (in_text s v (field_text field card) q k)

pub field_is_text : (s : State) (v : VariablesView) (delimiter : ℕ) (m : Referent) → IsState s → LocalsTexts v.locals
    → IfText (places.field_text s v delimiter m)
field_is_text s v delimiter m q k = by (places.field_place s m)
  where
    reads : (p : PlaceView) (r : Result (List ℕ) Fault) → IfText r
        → IfText (and_then r (λ t. Ok (read_within delimiter p.chunks t)))
    reads p (Ok t) h = within_read delimiter p.chunks t h
    reads p (Err fault) h = tt

    by : (r : Result PlaceView Fault) → IfText (and_then r (λ p. read_at s v delimiter p))
    by (Ok p) = reads p (whole s v p.storage) (whole_text s v p.storage q k)
    by (Err fault) = tt

due_is : (r : Result (List ℕ) Fault) (f : List ℕ → Result (Option (List ℕ)) Fault) → IfText r
    → ((t : List ℕ) → IsText t → IfDue (f t)) → IfDue (and_then r f)
due_is (Ok t) f h k = k t h
due_is (Err fault) f h k = tt

pub due_is_text : PartsCut → (s : State) (v : VariablesView) (delimiter : ℕ) (p : PlaceView) (e : Edit) → IsState s
    → LocalsTexts v.locals → delimiter < 256 → EditTexts e → IfDue (due s v delimiter p e)
due_is_text cut s v delimiter p e q k d h = due_is (whole s v p.storage) (λ t. edited delimiter p.chunks e t)
    (whole_text s v p.storage q k) (λ t is. edited_text cut delimiter p.chunks e t d h is)

-- a variable of a handler gets a text, or means a global
pub with_value_texts : (name : List ℕ) (value : Option (List ℕ)) (ls : List Local) → LocalsTexts ls
    → IfSome value IsText → LocalsTexts (with_value name value ls)
with_value_texts name value [] h k = (k, tt)
with_value_texts name value (l ∷ ls) h k = by (with_value_texts name value ls h.1 k) (same l.name name)
  where
    by : LocalsTexts (with_value name value ls) → (b : Bool)
        → LocalsTexts (cond b (record l { value = value } ∷ ls) (l ∷ with_value name value ls))
    by rest true = (k, h.1)
    by rest false = (h.0, rest)

-- ---- properties

words_small : (k : Kind) → (length (words_of k) ≤ 20) × AreBytes (words_of k)
words_small Stack = (leb-true 5 20 refl, (given_text (codes "stack") refl).bytes)
words_small (Background c) = (leb-true 5 20 refl, (given_text (codes "bkgnd") refl).bytes)
words_small (Card b c) = (leb-true 4 20 refl, (given_text (codes "card") refl).bytes)
words_small (CardButton v h) = (leb-true 11 20 refl, (given_text (codes "card button") refl).bytes)
words_small (BackgroundButton v s) = (leb-true 12 20 refl, (given_text (codes "bkgnd button") refl).bytes)
words_small (CardField v l) = (leb-true 10 20 refl, (given_text (codes "card field") refl).bytes)
words_small (BackgroundField v l s) = (leb-true 11 20 refl, (given_text (codes "bkgnd field") refl).bytes)

by_id_text : (k : Kind) (id : ℕ) → IsText (by_id k id)
by_id_text k id =
    let w = words_small k in
    let few = w.0 in
    let n = decimal_are id in
    let digits = n.1 in
    let mid : List ℕ = codes " id " in
    let size : length mid ≡ 4 = refl in
    let front : AreBytes (words_of k ++ mid) =
    All-append (λ b. b < 256) (words_of k) mid w.1 (given_text mid refl).bytes in
    short_text (by_id k id)
    (omega (
      arith,
      few,
      digits,
      size,
      length-append (words_of k ++ mid) (decimal id),
      length-append (words_of k)
          mid,
    ))
    (All-append (λ b. b < 256) (words_of k ++ mid) (decimal id) front n.0)

by_name_bytes : (k : Kind) (name : List ℕ) → IsText name → AreBytes (by_name k name)
by_name_bytes k name h =
    let quote : List ℕ = codes "\"" in
    let mid : List ℕ = codes " \"" in
    let one : AreBytes (words_of k ++ mid) =
    All-append (λ b. b < 256) (words_of k) mid (words_small k).1 (given_text mid refl).bytes in
    let two : AreBytes (words_of k ++ mid ++ name) = All-append (λ b. b < 256) (words_of k ++ mid) name one h.bytes in
    All-append (λ b. b < 256) (words_of k ++ mid ++ name) quote two (given_text quote refl).bytes

full_name_text : (k : Kind) (id : ℕ) (name : List ℕ) → IsText name → IfText (within_limit (full_name k id name))
full_name_text k id name h = by (is_nameless k name)
  where
    by : (b : Bool) → IfText (within_limit (cond b (by_id k id) (by_name k name)))
    by true = within_text (by_id k id) (by_id_text k id).bytes
    by false = within_text (by_name k name) (by_name_bytes k name h)

short_name_text : (k : Kind) (id : ℕ) (name : List ℕ) → IsText name → IsText (short_name k id name)
short_name_text k id name h = by (is_nameless k name)
  where
    by : (b : Bool) → IsText (cond b (by_id k id) name)
    by true = by_id_text k id
    by false = h

digits_text : (n : Option ℕ) → IfText (in_digits n)
digits_text None = tt
digits_text (Some n) = decimal_text n

property_by_text : (s : Content) (card id : ℕ) (o : Object) (p : Prop) → IsText o.name × IsText o.script
    → IfText (property_by s card id o p)
property_by_text s card id o prop.Name h = full_name_text o.kind id o.name h.0
property_by_text s card id o prop.ShortName h = short_name_text o.kind id o.name h.0
property_by_text s card id o prop.Id h = digits_text (own_id o.kind id)
property_by_text s card id o prop.ShortId h = digits_text (short_id o.kind id)
property_by_text s card id o prop.Number h = digits_text (numbers.number_of s id)
property_by_text s card id o prop.Script h = h.1
property_by_text s card id o prop.Visible h = words_text (had (visible_of o.kind))
property_by_text s card id o prop.Hilite h = words_text (hilite_for s card id o.kind)
property_by_text s card id o prop.SharedHilite h = words_text (had (shared_hilite_of o.kind))
property_by_text s card id o prop.LockText h = words_text (had (lock_text_of o.kind))
property_by_text s card id o prop.SharedText h = words_text (had (shared_text_of o.kind))
property_by_text s card id o prop.CantDelete h = words_text (had (cant_delete_of o.kind))

pub property_text : (s : Content) (card id : ℕ) (p : Prop) → IsWellFormed s → IfText (property_of s card id p)
property_text s card id p w = by (object_at s id) (w.names id)
  where
    by : (o : Option Object) → IfSome o (λ x. IsText x.name × IsText x.script)
        → IfText (and_then (had o) (λ x. property_by s card id x p))
    by None h = tt
    by (Some o) h = property_by_text s card id o p h

pub name_text : (s : Content) (current id : ℕ) → IsWellFormed s → IfText (name_of s current id)
name_text s current id w = by (met_if_there s current id)
  where
    by : (r : Result Referent Fault) → IfText (and_then r (λ m. property_of s m.card m.object prop.Name))
    by (Ok m) = property_text s m.card m.object prop.Name w
    by (Err fault) = tt

-- ---- what is set

abbrev IfTexts : Result Change Fault → Type 0
IfTexts r = IfOk r HasTexts

hilite_texts : (kept : Bool) (button card : ℕ) (lit : Bool) → IfTexts (hilite_change kept button card lit)
hilite_texts true button card lit = tt
hilite_texts false button card lit = tt

background_texts : (s : Content) (m : Referent) (lit : Bool) → IfTexts (background_hilite s m lit)
background_texts s m lit = by (shares_hilite s m.object)
  where
    by : (b : Bool) → IfTexts (cond b (hilite_change (is_some (hilite_at s m.object 0)) m.object 0 lit)
        (hilite_change (is_some (own_hilite s m.card m.object)) m.object m.card lit))
    by true = hilite_texts (is_some (hilite_at s m.object 0)) m.object 0 lit
    by false = hilite_texts (is_some (own_hilite s m.card m.object)) m.object m.card lit

change_texts : (s : Content) (m : Referent) (v : PropValue) → settings.HasTexts v → IfTexts (change_of s m v)
change_texts s m (NameIs t) h = h
change_texts s m (ScriptIs t) h = h
change_texts s m (VisibleIs b) h = tt
change_texts s m (HiliteIs lit) h = by (has_kind is_background_button s m.object)
  where
    by : (b : Bool) → IfTexts (cond b (background_hilite s m lit) (Ok (change.Prop m.object (HiliteIs lit))))
    by true = background_texts s m lit
    by false = tt
change_texts s m (SharedHiliteIs b) h = tt
change_texts s m (LockTextIs b) h = tt
change_texts s m (SharedTextIs b) h = tt
change_texts s m (CantDeleteIs b) h = tt

flag_texts : (s : Content) (m : Referent) (make : Bool → PropValue) → ((b : Bool) → settings.HasTexts (make b))
    → (r : Result Bool Fault) → IfTexts (and_then (and_then r (λ b. Ok (make b))) (change_of s m))
flag_texts s m make each (Ok b) = change_texts s m (make b) (each b)
flag_texts s m make each (Err fault) = tt

value_texts : (s : Content) (m : Referent) (p : Prop) (t : List ℕ) → IsText t
    → IfTexts (and_then (value_by p t) (change_of s m))
value_texts s m prop.Name t h = h
value_texts s m prop.ShortName t h = tt
value_texts s m prop.Id t h = tt
value_texts s m prop.ShortId t h = tt
value_texts s m prop.Number t h = tt
value_texts s m prop.Script t h = h
value_texts s m prop.Visible t h = flag_texts s m (λ b. VisibleIs b) (λ b. tt) (truth_of t)
value_texts s m prop.Hilite t h = flag_texts s m (λ b. HiliteIs b) (λ b. tt) (truth_of t)
value_texts s m prop.SharedHilite t h = flag_texts s m (λ b. SharedHiliteIs b) (λ b. tt) (truth_of t)
value_texts s m prop.LockText t h = flag_texts s m (λ b. LockTextIs b) (λ b. tt) (truth_of t)
value_texts s m prop.SharedText t h = flag_texts s m (λ b. SharedTextIs b) (λ b. tt) (truth_of t)
value_texts s m prop.CantDelete t h = flag_texts s m (λ b. CantDeleteIs b) (λ b. tt) (truth_of t)

pub setting_texts : (s : Content) (m : Referent) (p : Prop) (t : List ℕ) → IsText t → IfOk (setting s m p t) HasTexts
setting_texts s m p t h = by (has_kind (may_be_set p) s m.object)
  where
    by : (b : Bool) → IfTexts (and_then (cond b (value_by p t) (Err NoSuchProperty)) (change_of s m))
    by true = value_texts s m p t h
    by false = tt

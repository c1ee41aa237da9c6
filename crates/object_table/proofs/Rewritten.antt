-- A well formed stack stays one when a text, a hilite or a property that is there gets another value.
use Rattle.std.proofs.Common.{◌≡◌, ℕ, Bool, true, false, cond, List, refl, sym, subst, ap, ◌∙◌, Option, Some, None}
use Rattle.std.proofs.Common.{IsSome, IsTrue, IfSome, is_some, option_map, option_and_then, unwrap_or, flat_map, ◌&&◌}
use Rattle.std.proofs.Common.{◌||◌, ◌==◌, ◌+◌, ◌↔◌}
use Rattle.std.proofs.lemmas.Bool.{false≢true}
use Rattle.std.specs.Ordering.{nat_cmp, eq_by_cmp}
use Rattle.std.specs.Cmp.{nat_cmp_total, Equal-is}
use Rattle.std.specs.FinMap.{FinMap, get, remove, len, len-insert, nat_cmp-IsAntisymmetric}
use Rattle.ht_values.specs.Text.{IsText}
use Rattle.object_table.specs.Content.{Content}
use Rattle.object_table.specs.Maps.{put_option}
use Rattle.object_table.specs.PartContents.{text_at, hilite_at, keeps_text, keeps_hilite}
use Rattle.object_table.specs.Objects.{is_stack, is_background, is_card, is_card_part, is_background_part}
use Rattle.object_table.specs.Objects.{is_card_field, is_background_field, is_background_button, is_layer}
use Rattle.object_table.specs.Objects.{background_of, has_kind, object_at, parts_at, contains_id, background_at}
use Rattle.object_table.specs.Objects.{object_count}
use Rattle.object_table.specs.Setting.{HasTexts, with_value, with_value_at}
use Rattle.object_table.specs.WellFormed.{NamesEach, IsWellFormed}
use Rattle.object_table.specs.declared.object.Object.{Object}
use Rattle.object_table.specs.declared.object.Kind.{Kind}
use Rattle.object_table.specs.declared.object.Kind.TheVariants.{Stack, Background, Card, CardButton, BackgroundButton}
use Rattle.object_table.specs.declared.object.Kind.TheVariants.{CardField, BackgroundField}
use Rattle.object_table.specs.declared.property.PropValue.{PropValue}
use Rattle.object_table.specs.declared.property.PropValue.TheVariants.{NameIs, ScriptIs, VisibleIs, HiliteIs}
use Rattle.object_table.specs.declared.property.PropValue.TheVariants.{SharedHiliteIs, LockTextIs, SharedTextIs}
use Rattle.object_table.specs.declared.property.PropValue.TheVariants.{CantDeleteIs}
use Rattle.object_table.proofs.Maps.{get-put_option, put_option_again, put_option_apart, put_option_same}
use Rattle.object_table.proofs.Maps.{get-put_option_apart, is_some-put_option, IfSome-put_option}
use Rattle.object_table.proofs.Pairs.{pair_cmp_total, pair_cmp-IsAntisymmetric}
use Rattle.object_table.proofs.Slots.{mapped_some}

-- ---- a text and a hilite

pub text-rewritten : (s : Content) (field card : ℕ) (t : List ℕ) → is_some (text_at s field card) ≡ true → IsText t
    → IsWellFormed s → IsWellFormed (record s { texts = put_option s.texts (field, card) (Some t) })
text-rewritten s field card t there h w = record {
  backgrounds = w.backgrounds;
  cards = w.cards;
  layers = w.layers;
  card_parts = w.card_parts;
  background_parts = w.background_parts;
  on_background = w.on_background;
  some_background = w.some_background;
  some_card = w.some_card;
  stack = w.stack;
  ids = w.ids;
  next_low = w.next_low;
  next_high = w.next_high;
  few = w.few;
  names = w.names;
  texts = λ g d. rw (is_some-put_option pair_cmp_total pair_cmp-IsAntisymmetric s.texts (field, card) t (g, d) there)
      (w.texts g d);
  field_texts = λ g d. IfSome-put_option pair_cmp_total pair_cmp-IsAntisymmetric IsText s.texts (field, card) t (g, d) h
      (w.field_texts g d);
  hilites = w.hilites;
}

pub hilite-rewritten : (s : Content) (button card : ℕ) (b : Bool) → is_some (hilite_at s button card) ≡ true
    → IsWellFormed s → IsWellFormed (record s { hilites = put_option s.hilites (button, card) (Some b) })
hilite-rewritten s button card b there w = record {
  backgrounds = w.backgrounds;
  cards = w.cards;
  layers = w.layers;
  card_parts = w.card_parts;
  background_parts = w.background_parts;
  on_background = w.on_background;
  some_background = w.some_background;
  some_card = w.some_card;
  stack = w.stack;
  ids = w.ids;
  next_low = w.next_low;
  next_high = w.next_high;
  few = w.few;
  names = w.names;
  texts = w.texts;
  field_texts = w.field_texts;
  hilites = λ g d. rw (is_some-put_option pair_cmp_total pair_cmp-IsAntisymmetric s.hilites (button, card) b (g, d)
      there) (w.hilites g d);
}

-- ---- a property

-- a kind without its flags
form : Kind → Kind
form Stack = Stack
form (Background c) = Background false
form (Card b c) = Card b false
form (CardButton v h) = CardButton false false
form (BackgroundButton v h) = BackgroundButton false false
form (CardField v l) = CardField false false
form (BackgroundField v l t) = BackgroundField false false false

-- no property changes more of a kind than a flag
form-kept : (k : Kind) (v : PropValue) (n s : List ℕ)
    → form (with_value v (record { name = n; script = s; kind = k })).kind ≡ form k
unfolding form
form-kept Stack (NameIs t) n s = refl
form-kept (Background c) (NameIs t) n s = refl
form-kept (Card b c) (NameIs t) n s = refl
form-kept (CardButton x h) (NameIs t) n s = refl
form-kept (BackgroundButton x h) (NameIs t) n s = refl
form-kept (CardField x l) (NameIs t) n s = refl
form-kept (BackgroundField x l u) (NameIs t) n s = refl
form-kept _ _ n s = refl

-- what no flag decides
abbrev IsOfForm : {X : Type 0} → (Kind → X) → Type 0
IsOfForm p = (k : Kind) → p (form k) ≡ p k

stack-form : IsOfForm is_stack
unfolding form
stack-form Stack = refl
stack-form _ = refl

background-form : IsOfForm is_background
unfolding form
background-form Stack = refl
background-form _ = refl

card-form : IsOfForm is_card
unfolding form
card-form Stack = refl
card-form _ = refl

layer-form : IsOfForm is_layer
unfolding form
layer-form Stack = refl
layer-form _ = refl

card_part-form : IsOfForm is_card_part
unfolding form
card_part-form Stack = refl
card_part-form _ = refl

background_part-form : IsOfForm is_background_part
unfolding form
background_part-form Stack = refl
background_part-form _ = refl

card_field-form : IsOfForm is_card_field
unfolding form
card_field-form Stack = refl
card_field-form _ = refl

background_field-form : IsOfForm is_background_field
unfolding form
background_field-form Stack = refl
background_field-form _ = refl

background_button-form : IsOfForm is_background_button
unfolding form
background_button-form Stack = refl
background_button-form _ = refl

form-form : IsOfForm form
unfolding form
form-form Stack = refl
form-form _ = refl

background_of-form : IsOfForm background_of
unfolding form
background_of-form Stack = refl
background_of-form _ = refl

-- what the kind of an object decides, for each object that is there, in a stack with another value
decided : {X : Type 0} (p : Kind → X) (s : Content) (id : ℕ) (v : PropValue) (x : ℕ) → IsOfForm p
    → option_map (λ o. p o.kind) (object_at (with_value_at s id v) x) ≡ option_map (λ o. p o.kind) (object_at s x)
decided p s id v x h = ap (option_map (λ o. p o.kind))
    (get-put_option nat_cmp_total nat_cmp-IsAntisymmetric s.objects id (option_map (with_value v) (object_at s id)) x)
    ∙ by (eq_by_cmp nat_cmp x id) refl
  where
    each : (found : Option Object) → option_map (λ o. p o.kind) (option_map (with_value v) found)
        ≡ option_map (λ o. p o.kind) found
    each None = refl
    each (Some o) =
        ap (λ y. Some y) (sym (h (with_value v o).kind) ∙ ap p (form-kept o.kind v o.name o.script) ∙ h o.kind)

    by : (b : Bool) → eq_by_cmp nat_cmp x id ≡ b
        → option_map (λ o. p o.kind) (cond b (option_map (with_value v) (object_at s id)) (object_at s x))
        ≡ option_map (λ o. p o.kind) (object_at s x)
    by true e = each (object_at s id)
        ∙ ap (λ y. option_map (λ o. p o.kind) (object_at s y))
        (sym (nat_cmp-IsAntisymmetric x id ((Equal-is (nat_cmp x id)).0 e)))
    by false e = refl

kinds : (p : Kind → Bool) (s : Content) (id : ℕ) (v : PropValue) → IsOfForm p
    → has_kind p (with_value_at s id v) ≡ has_kind p s
kinds p s id v h i x = unwrap_or (decided p s id v x h i) false

flatten : {X : Type 0} → Option (Option X) → Option X
flatten None = None
flatten (Some o) = o

and_then-flatten : (found : Option Object)
    → option_and_then (λ o. background_of o.kind) found ≡ flatten (option_map (λ o. background_of o.kind) found)
unfolding flatten
and_then-flatten None = refl
and_then-flatten (Some o) = refl

backgrounds_at : (s : Content) (id : ℕ) (v : PropValue) → background_at (with_value_at s id v) ≡ background_at s
backgrounds_at s id v i x = (and_then-flatten (object_at (with_value_at s id v) x)
    ∙ ap flatten (decided background_of s id v x background_of-form) ∙ sym (and_then-flatten (object_at s x))) i

there_at : (s : Content) (id : ℕ) (v : PropValue) (x : ℕ)
    → is_some (object_at (with_value_at s id v) x) ≡ is_some (object_at s x)
there_at s id v x = sym (mapped_some (λ o. form o.kind) (object_at (with_value_at s id v) x))
    ∙ ap is_some (decided form s id v x form-form) ∙ mapped_some (λ o. form o.kind) (object_at s x)

-- the number of values stays
len-put : (m : FinMap nat_cmp Object) (k : ℕ) (v : Object) → is_some (get m k) ≡ true
    → len (put_option m k (Some v)) ≡ len m
len-put m k v h = len-insert nat_cmp_total m k v ∙ ap (λ b. cond b (len m) (len m + 1)) h

count_at : (s : Content) (id : ℕ) (v : PropValue) → object_count (with_value_at s id v) ≡ object_count s
count_at s id v = by (object_at s id) refl (eq_by_cmp nat_cmp 0 id) refl
  where
    m : FinMap nat_cmp Object
    m = s.objects

    -- the stack itself isn't counted
    of_zero : (o : Object) → id ≡ 0 → len (remove (put_option m id (Some o)) 0) ≡ len (remove m 0)
    of_zero o z = ap (λ k. len (remove (put_option m k (Some o)) 0)) z
        ∙ ap len (put_option_again nat_cmp_total nat_cmp-IsAntisymmetric m 0 (Some o) None)

    other : (o : Object) → is_some (get m id) ≡ true → (0 ≡ id → ⊥)
        → len (remove (put_option m id (Some o)) 0) ≡ len (remove m 0)
    other o there apart =
        ap len (put_option_apart nat_cmp_total nat_cmp-IsAntisymmetric m id 0 (Some o) None (λ e. apart (sym e)))
        ∙ len-put (put_option m 0 None) id o
        (ap is_some (get-put_option_apart nat_cmp_total nat_cmp-IsAntisymmetric m 0 id None apart) ∙ there)

    zero_tied : 0 ≡ id → eq_by_cmp nat_cmp 0 id ≡ true
    zero_tied z = subst (λ k. eq_by_cmp nat_cmp 0 k ≡ true) z refl

    by : (found : Option Object) → object_at s id ≡ found → (b : Bool) → eq_by_cmp nat_cmp 0 id ≡ b
        → len (remove (put_option m id (option_map (with_value v) found)) 0) ≡ len (remove m 0)
    by None e b q = ap (λ x. len (remove x 0))
        (ap (put_option m id) (sym e) ∙ put_option_same nat_cmp_total nat_cmp-IsAntisymmetric m id)
    by (Some o) e true q = of_zero (with_value v o) (sym (nat_cmp-IsAntisymmetric 0 id ((Equal-is (nat_cmp 0 id)).0 q)))
    by (Some o) e false q = other (with_value v o) (ap is_some e) (λ z. false≢true (sym q ∙ zero_tied z))

abbrev IsNamed : Object → Type 0
IsNamed o = IsText o.name × IsText o.script

named-with : (v : PropValue) (o : Object) → HasTexts v → IsNamed o → IsNamed (with_value v o)
named-with (NameIs t) o h n = (h, n.1)
named-with (ScriptIs t) o h n = (n.0, h)
named-with (VisibleIs b) o h n = n
named-with (HiliteIs b) o h n = n
named-with (SharedHiliteIs b) o h n = n
named-with (LockTextIs b) o h n = n
named-with (SharedTextIs b) o h n = n
named-with (CantDeleteIs b) o h n = n

named_at : (s : Content) (id : ℕ) (v : PropValue) → HasTexts v → ((x : ℕ) → IfSome (object_at s x) IsNamed) → (x : ℕ)
    → IfSome (object_at (with_value_at s id v) x) IsNamed
named_at s id v h all x = subst (λ o. IfSome o IsNamed)
    (sym (get-put_option nat_cmp_total nat_cmp-IsAntisymmetric s.objects id (option_map (with_value v) (object_at s id))
    x)) (by (eq_by_cmp nat_cmp x id))
  where
    each : (found : Option Object) → IfSome found IsNamed → IfSome (option_map (with_value v) found) IsNamed
    each None n = tt
    each (Some o) n = named-with v o h n

    by : (b : Bool) → IfSome (cond b (option_map (with_value v) (object_at s id)) (object_at s x)) IsNamed
    by true = each (object_at s id) (all id)
    by false = all x

-- the same of each clause
abbrev after : Content → ℕ → PropValue → Content
after s id v = with_value_at s id v

keeps_texts : (s : Content) (id : ℕ) (v : PropValue) → keeps_text (after s id v) ≡ keeps_text s
keeps_texts s id v i field card = (kinds is_card_field s id v card_field-form i field && contains_id field
    (parts_at s card)) || (kinds is_background_field s id v background_field-form i field &&
    ((card == 0) || unwrap_or (option_map (λ b. contains_id field (parts_at s b)) (backgrounds_at s id v i card))
    false))

keeps_hilites : (s : Content) (id : ℕ) (v : PropValue) → keeps_hilite (after s id v) ≡ keeps_hilite s
keeps_hilites s id v i button card = kinds is_background_button s id v background_button-form i button &&
    ((card == 0) || unwrap_or (option_map (λ b. contains_id button (parts_at s b)) (backgrounds_at s id v i card))
    false)

pub property-rewritten : (s : Content) (id : ℕ) (v : PropValue) → HasTexts v → IsWellFormed s
    → IsWellFormed (with_value_at s id v)
property-rewritten s id v h w =
    let of : (p : Kind → Bool) → IsOfForm p → has_kind p s ≡ has_kind p (after s id v) =
    λ p f. sym (kinds p s id v f) in
    record {
      backgrounds = subst (λ p. NamesEach p s.backgrounds) (of is_background background-form) w.backgrounds;
      cards = subst (λ p. NamesEach p s.cards) (of is_card card-form) w.cards;
      layers = subst (λ p. (x : ℕ) → IsSome (get s.parts x) ↔ IsTrue (p x)) (of is_layer layer-form) w.layers;
      card_parts =
          subst (λ p. NamesEach p (flat_map (parts_at s) s.cards)) (of is_card_part card_part-form) w.card_parts;
      background_parts = subst (λ p. NamesEach p (flat_map (parts_at s) s.backgrounds))
          (of is_background_part background_part-form) w.background_parts;
      on_background = λ card. subst (λ p. IfSome (background_at (after s id v) card) (λ b. IsTrue (p b)))
          (of is_background background-form)
          (subst (λ q. IfSome (q card) (λ b. IsTrue (has_kind is_background s b))) (sym (backgrounds_at s id v))
          (w.on_background card));
      some_background = w.some_background;
      some_card = λ x there.
          let old = w.some_card x (subst (λ p. IsTrue (p x)) (kinds is_background s id v background-form) there) in
          (old.0, ap (λ q. q old.0) (backgrounds_at s id v) ∙ old.1);
      stack = subst (λ p. (x : ℕ) → IsTrue (p x) ↔ (x ≡ 0)) (of is_stack stack-form) w.stack;
      ids = λ x there. w.ids x (sym (there_at s id v x) ∙ there);
      next_low = w.next_low;
      next_high = w.next_high;
      few = rw (count_at s id v) w.few;
      names = named_at s id v h w.names;
      texts = subst (λ p. (field card : ℕ) → IsSome (text_at s field card) ↔ IsTrue (p field card))
          (sym (keeps_texts s id v)) w.texts;
      field_texts = w.field_texts;
      hilites = subst (λ p. (button card : ℕ) → IsSome (hilite_at s button card) ↔ IsTrue (p button card))
          (sym (keeps_hilites s id v)) w.hilites;
    }

-- a card stays one
pub is_card-rewritten : (s : Content) (id : ℕ) (v : PropValue) (x : ℕ)
    → has_kind is_card (with_value_at s id v) x ≡ has_kind is_card s x
is_card-rewritten s id v x = ap (λ p. p x) (kinds is_card s id v card-form)

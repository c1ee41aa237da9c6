-- Exchanges in a stack: back and forth, at one place and at two.
use Rattle.std.proofs.Common.{◌≡◌, ◌≢◌, ◌≤◌, ◌+◌, ◌&&◌, ℕ, Bool, true, false, nat_eq, List, refl, sym, subst, ap, ◌∙◌}
use Rattle.std.proofs.Common.{arith, Option, Some, None, is_some, option_map, option_and_then, unwrap_or}
use Rattle.std.proofs.lemmas.Bool.{and_parts, eqb-true, eq-eqb, false≢true}
use Rattle.std.specs.Cmp.{nat_cmp_total}
use Rattle.std.specs.FinMap.{get, nat_cmp-IsAntisymmetric}
use Rattle.object_table.specs.Content.{Content}
use Rattle.object_table.specs.PartContents.{text_at, hilite_at}
use Rattle.object_table.specs.Maps.{put_option}
use Rattle.object_table.specs.Objects.{object_at}
use Rattle.object_table.specs.Pairs.{Pair}
use Rattle.object_table.specs.Setting.{with_value, value_at as setting_at, with_value_at, value_in}
use Rattle.object_table.specs.Table.{Room}
use Rattle.object_table.specs.declared.object.Object as objects
use Rattle.object_table.specs.declared.property.PropValue.{PropValue}
use Rattle.object_table.proofs.Maps.{put_option-get, put_option_again, put_option_apart, put_option_same}
use Rattle.object_table.proofs.Maps.{get-put_option_apart}
use Rattle.object_table.proofs.Pairs.{pair_cmp_total, pair_cmp-IsAntisymmetric}
use Rattle.stack_places.specs.Places.{put, value_at, same_place, size_of, as_text, as_logical, as_object, as_ids}
use Rattle.stack_places.specs.Places.{setting_of, prop_of, property, setting_size, with_setting, text, logical}
use Rattle.stack_places.specs.Places.{setting, object, ids}
use Rattle.stack_places.specs.Exchange.{exchanged, taken, place_of, value_of, of_one_place, of_one_property}
use Rattle.stack_places.specs.Exchange.{is_structural, entry_weight, IsReady, IsWider}
use Rattle.stack_places.specs.declared.entry.StackEntry.{StackEntry}
use Rattle.stack_places.specs.declared.entry.StackEntry.TheVariants.{Prop, FieldText, Hilite, Object, CardOrder}
use Rattle.stack_places.specs.declared.entry.StackEntry.TheVariants.{BackgroundOrder, Parts, NextId}
use Rattle.stack_places.proofs.Settings.{own, own_back, own_again, own_prop, own_apart, own_over, put_over, put_both}
use Rattle.stack_places.proofs.Settings.{put_nowhere, setting_of-prop, as_setting-prop, same_prop-is}

-- nothing is both
pub false_true : {A : Type 0} → false ≡ true → A
false_true e = absurd (false≢true e)

-- ---- an exchange is a value put at the entry's place

pub texts_back : (v : Option (List ℕ)) → as_text (option_map (λ t. text t) v) ≡ v
texts_back None = refl
texts_back (Some t) = refl

logicals_back : (v : Option Bool) → as_logical (option_map (λ b. logical b) v) ≡ v
logicals_back None = refl
logicals_back (Some b) = refl

objects_back : (v : Option objects.Object) → as_object (option_map (λ o. object o) v) ≡ v
objects_back None = refl
objects_back (Some o) = refl

lists_back : (v : Option (List ℕ)) → as_ids (option_map (λ l. ids l) v) ≡ v
lists_back None = refl
lists_back (Some l) = refl

pub puts : (s : Content) (e : StackEntry) → exchanged s e ≡ put s (place_of e) (value_of e)
unfolding exchanged put
puts s (Prop id v) = ap (λ x. record s
    { objects = put_option s.objects id (option_map (with_setting x) (object_at s id)) }) (sym (as_setting-prop v))
puts s (FieldText f c v) = ap (λ x. record s { texts = put_option s.texts (f, c) x }) (sym (texts_back v))
puts s (Hilite b c v) = ap (λ x. record s { hilites = put_option s.hilites (b, c) x }) (sym (logicals_back v))
puts s (Object id v) = ap (λ x. record s { objects = put_option s.objects id x }) (sym (objects_back v))
puts s (CardOrder l) = refl
puts s (BackgroundOrder l) = refl
puts s (Parts layer v) = ap (λ x. record s { parts = put_option s.parts layer x }) (sym (lists_back v))
puts s (NextId n) = refl

-- ---- properties

-- two values of properties of one object
twice : (s : Content) (id : ℕ) (v w : PropValue)
    → with_value_at (with_value_at s id v) id w
    ≡ record s {
      objects = put_option s.objects id
          (option_map (with_value w) (option_map (with_value v) (object_at s id)));
    }
twice s id v w =
    let x = option_map (with_value v) (object_at s id) in
    ap (λ y. record s { objects = put_option (put_option s.objects id x) id (option_map (with_value w) y) })
    (put_option-get nat_cmp_total nat_cmp-IsAntisymmetric s.objects id x)
    ∙ ap (λ m. record s { objects = m })
    (put_option_again nat_cmp_total nat_cmp-IsAntisymmetric s.objects id x (option_map (with_value w) x))

-- what is seen of the same object then, and of another
seen_same : (s : Content) (id : ℕ) (v w : PropValue)
    → unwrap_or (setting_at (with_value_at s id v) id w) w ≡ own w (option_map (with_value v) (object_at s id))
seen_same s id v w = ap (own w)
    (put_option-get nat_cmp_total nat_cmp-IsAntisymmetric s.objects id (option_map (with_value v) (object_at s id)))

seen_other : (s : Content) (i j : ℕ) (v : PropValue) → i ≢ j → object_at (with_value_at s i v) j ≡ object_at s j
seen_other s i j v h = get-put_option_apart nat_cmp_total nat_cmp-IsAntisymmetric s.objects i j
    (option_map (with_value v) (object_at s i)) h

others : (s : Content) (i j : ℕ) (v w : PropValue) → i ≢ j
    → with_value_at (with_value_at s i v) j w ≡ with_value_at (with_value_at s j w) i v
others s i j v w h =
    let x = option_map (with_value v) (object_at s i) in
    let y = option_map (with_value w) (object_at s j) in
    ap (λ o. record s { objects = put_option (put_option s.objects i x) j (option_map (with_value w) o) })
    (seen_other s i j v h)
    ∙ ap (λ m. record s { objects = m }) (put_option_apart nat_cmp_total nat_cmp-IsAntisymmetric s.objects i j x y h)
    ∙ ap (λ o. record s { objects = put_option (put_option s.objects j y) i (option_map (with_value v) o) })
    (sym (seen_other s j i w (λ e. h (sym e))))

-- a value of a property that isn't there changes nothing
pub unset : (s : Content) (id : ℕ) (v : PropValue) → is_some (setting_at s id v) ≡ false → with_value_at s id v ≡ s
unset s id v h = ap (λ o. record s { objects = put_option s.objects id o }) (put_nowhere v (object_at s id) h)
    ∙ ap (λ m. record s { objects = m }) (put_option_same nat_cmp_total nat_cmp-IsAntisymmetric s.objects id)

differ : (i j : ℕ) → nat_eq i j ≡ false → i ≢ j
differ i j h e = false≢true (sym h ∙ eq-eqb i j e)

pairs_differ : (f c g d : ℕ) → (nat_eq f g && nat_eq c d) ≡ false → ◌≢◌ {A = Pair} (f, c) (g, d)
pairs_differ f c g d h e =
    let first = eq-eqb f g (λ i. (e i).0) in
    let second = eq-eqb c d (λ i. (e i).1) in
    false≢true (sym h ∙ (λ i. first i && second i))

same_pair : (f c g d : ℕ) → (nat_eq f g && nat_eq c d) ≡ true → ◌≡◌ {A = Pair} (f, c) (g, d)
same_pair f c g d h =
    let first = eqb-true f g (and_parts (nat_eq f g) (nat_eq c d) h).0 in
    let second = eqb-true c d (and_parts (nat_eq f g) (nat_eq c d) h).1 in
    λ i. (first i, second i)

-- ---- back and forth

pub exchanged_back : (s : Content) (e : StackEntry) → exchanged (exchanged s e) (taken s e) ≡ s
unfolding exchanged taken
exchanged_back s (Prop id v) = twice s id v (own v (object_at s id))
    ∙ ap (λ o. record s { objects = put_option s.objects id o }) (own_back v (object_at s id))
    ∙ ap (λ m. record s { objects = m }) (put_option_same nat_cmp_total nat_cmp-IsAntisymmetric s.objects id)
exchanged_back s (FieldText f c v) = ap (λ m. record s { texts = m })
    (put_option_again pair_cmp_total pair_cmp-IsAntisymmetric s.texts (f, c) v (text_at s f c)
    ∙ put_option_same pair_cmp_total pair_cmp-IsAntisymmetric s.texts (f, c))
exchanged_back s (Hilite b c v) = ap (λ m. record s { hilites = m })
    (put_option_again pair_cmp_total pair_cmp-IsAntisymmetric s.hilites (b, c) v (hilite_at s b c)
    ∙ put_option_same pair_cmp_total pair_cmp-IsAntisymmetric s.hilites (b, c))
exchanged_back s (Object id v) = ap (λ m. record s { objects = m })
    (put_option_again nat_cmp_total nat_cmp-IsAntisymmetric s.objects id v (object_at s id)
    ∙ put_option_same nat_cmp_total nat_cmp-IsAntisymmetric s.objects id)
exchanged_back s (CardOrder l) = refl
exchanged_back s (BackgroundOrder l) = refl
exchanged_back s (Parts layer v) = ap (λ m. record s { parts = m })
    (put_option_again nat_cmp_total nat_cmp-IsAntisymmetric s.parts layer v (get s.parts layer)
    ∙ put_option_same nat_cmp_total nat_cmp-IsAntisymmetric s.parts layer)
exchanged_back s (NextId n) = refl

pub taken_back : (s : Content) (e : StackEntry) → taken (exchanged s e) (taken s e) ≡ e
unfolding exchanged taken
taken_back s (Prop id v) =
    ap (λ x. Prop id x) (seen_same s id v (own v (object_at s id)) ∙ own_again v (object_at s id))
taken_back s (FieldText f c v) =
    ap (λ x. FieldText f c x) (put_option-get pair_cmp_total pair_cmp-IsAntisymmetric s.texts (f, c) v)
taken_back s (Hilite b c v) =
    ap (λ x. Hilite b c x) (put_option-get pair_cmp_total pair_cmp-IsAntisymmetric s.hilites (b, c) v)
taken_back s (Object id v) = ap (λ x. Object id x) (put_option-get nat_cmp_total nat_cmp-IsAntisymmetric s.objects id v)
taken_back s (CardOrder l) = refl
taken_back s (BackgroundOrder l) = refl
taken_back s (Parts layer v) =
    ap (λ x. Parts layer x) (put_option-get nat_cmp_total nat_cmp-IsAntisymmetric s.parts layer v)
taken_back s (NextId n) = refl

pub IsReady-taken : (room : Room) (s : Content) (e : StackEntry) → IsReady room e → IsReady room (taken s e)
unfolding IsReady taken
IsReady-taken room s (Prop id v) r = tt
IsReady-taken room s (FieldText f c v) r = r
IsReady-taken room s (Hilite b c v) r = r
IsReady-taken room s (Object id v) r = r
IsReady-taken room s (CardOrder l) r = tt
IsReady-taken room s (BackgroundOrder l) r = tt
IsReady-taken room s (Parts layer v) r = r
IsReady-taken room s (NextId n) r = tt

pub IsReady-wider : (old new : Room) (e : StackEntry) → IsWider old new → IsReady old e → IsReady new e
unfolding IsReady
IsReady-wider old new (Prop id v) w r = tt
IsReady-wider old new (FieldText f c v) w r = w.texts (f, c) r
IsReady-wider old new (Hilite b c v) w r = w.hilites (b, c) r
IsReady-wider old new (Object id v) w r = w.slots id r
IsReady-wider old new (CardOrder l) w r = tt
IsReady-wider old new (BackgroundOrder l) w r = tt
IsReady-wider old new (Parts layer v) w r = w.slots layer r
IsReady-wider old new (NextId n) w r = tt

pub place_of-taken : (s : Content) (e : StackEntry) → place_of (taken s e) ≡ place_of e
unfolding taken
place_of-taken s (Prop id v) = ap (λ p. property id p) (own_prop v (object_at s id))
place_of-taken s (FieldText f c v) = refl
place_of-taken s (Hilite b c v) = refl
place_of-taken s (Object id v) = refl
place_of-taken s (CardOrder l) = refl
place_of-taken s (BackgroundOrder l) = refl
place_of-taken s (Parts layer v) = refl
place_of-taken s (NextId n) = refl

-- ---- two entries

pub structural_apart : (e f : StackEntry) → is_structural f ≡ true → of_one_place e f ≡ false
unfolding of_one_place is_structural
structural_apart (Prop i v) (Object j w) h = refl
structural_apart (FieldText f c v) (Object j w) h = refl
structural_apart (Hilite b c v) (Object j w) h = refl
structural_apart (Object i v) (Object j w) h = refl
structural_apart (CardOrder l) (Object j w) h = refl
structural_apart (BackgroundOrder l) (Object j w) h = refl
structural_apart (Parts i v) (Object j w) h = refl
structural_apart (NextId n) (Object j w) h = refl
structural_apart e f h = false_true h

pub same_place-is : (e f : StackEntry) → is_structural e ≡ false
    → same_place (place_of e) (place_of f) ≡ of_one_place e f
unfolding of_one_place is_structural
same_place-is (Object i v) f a = false_true (sym a)
same_place-is (Prop i v) (Prop j w) a = ap (λ b. nat_eq i j && b) (same_prop-is v w)
same_place-is (FieldText f c v) (FieldText g d w) a = refl
same_place-is (Hilite b c v) (Hilite h d w) a = refl
same_place-is (CardOrder l) (CardOrder m) a = refl
same_place-is (BackgroundOrder l) (BackgroundOrder m) a = refl
same_place-is (Parts i v) (Parts j w) a = refl
same_place-is (NextId m) (NextId n) a = refl
same_place-is e f a = refl

properties_commute : (s : Content) (i j : ℕ) (v w : PropValue) → (nat_eq i j && of_one_property v w) ≡ false
    → with_value_at (with_value_at s i v) j w ≡ with_value_at (with_value_at s j w) i v
properties_commute s i j v w = by (nat_eq i j) refl
  where
    one : of_one_property v w ≡ false
        → with_value_at (with_value_at s i v) i w ≡ with_value_at (with_value_at s i w) i v
    one apart = twice s i v w ∙ ap (λ o. record s { objects = put_option s.objects i o })
        (put_both v w (object_at s i) apart) ∙ sym (twice s i w v)

    by : (b : Bool) → nat_eq i j ≡ b → (b && of_one_property v w) ≡ false
        → with_value_at (with_value_at s i v) j w ≡ with_value_at (with_value_at s j w) i v
    by true e apart = subst (λ k. with_value_at (with_value_at s i v) k w ≡ with_value_at (with_value_at s k w) i v)
        (eqb-true i j e) (one apart)
    by false e apart = others s i j v w (differ i j e)

pub commute : (s : Content) (e f : StackEntry) → of_one_place e f ≡ false → is_structural e ≡ false
    → is_structural f ≡ false → exchanged (exchanged s e) f ≡ exchanged (exchanged s f) e
unfolding exchanged of_one_place is_structural
commute s (Object i v) f apart a b = false_true (sym a)
commute s e (Object j w) apart a b = false_true (sym b)
commute s (Prop i v) (Prop j w) apart a b = properties_commute s i j v w apart
commute s (FieldText f c v) (FieldText g d w) apart a b = ap (λ m. record s { texts = m })
    (put_option_apart pair_cmp_total pair_cmp-IsAntisymmetric s.texts (f, c) (g, d) v w (pairs_differ f c g d apart))
commute s (Hilite f c v) (Hilite g d w) apart a b = ap (λ m. record s { hilites = m })
    (put_option_apart pair_cmp_total pair_cmp-IsAntisymmetric s.hilites (f, c) (g, d) v w (pairs_differ f c g d apart))
commute s (CardOrder l) (CardOrder m) apart a b = false_true (sym apart)
commute s (BackgroundOrder l) (BackgroundOrder m) apart a b = false_true (sym apart)
commute s (Parts i v) (Parts j w) apart a b = ap (λ m. record s { parts = m })
    (put_option_apart nat_cmp_total nat_cmp-IsAntisymmetric s.parts i j v w (differ i j apart))
commute s (NextId m) (NextId n) apart a b = false_true (sym apart)
commute s e f apart a b = refl

property_apart : (s : Content) (i j : ℕ) (v w : PropValue) → (nat_eq i j && of_one_property v w) ≡ false
    → own w (object_at (with_value_at s i v) j) ≡ own w (object_at s j)
property_apart s i j v w = by (nat_eq i j) refl
  where
    by : (b : Bool) → nat_eq i j ≡ b → (b && of_one_property v w) ≡ false
        → own w (object_at (with_value_at s i v) j) ≡ own w (object_at s j)
    by true e apart = subst (λ k. own w (object_at (with_value_at s i v) k) ≡ own w (object_at s k)) (eqb-true i j e)
        (seen_same s i v w ∙ own_apart v w (object_at s i) apart)
    by false e apart = ap (own w) (seen_other s i j v (differ i j e))

pub taken_apart : (s : Content) (e f : StackEntry) → of_one_place e f ≡ false → is_structural e ≡ false
    → is_structural f ≡ false → taken (exchanged s e) f ≡ taken s f
unfolding exchanged taken of_one_place is_structural
taken_apart s (Object i v) f apart a b = false_true (sym a)
taken_apart s e (Object j w) apart a b = false_true (sym b)
taken_apart s (Prop i v) (Prop j w) apart a b = ap (λ x. Prop j x) (property_apart s i j v w apart)
taken_apart s (FieldText f c v) (FieldText g d w) apart a b = ap (λ x. FieldText g d x)
    (get-put_option_apart pair_cmp_total pair_cmp-IsAntisymmetric s.texts (f, c) (g, d) v (pairs_differ f c g d apart))
taken_apart s (Hilite f c v) (Hilite g d w) apart a b = ap (λ x. Hilite g d x)
    (get-put_option_apart pair_cmp_total pair_cmp-IsAntisymmetric s.hilites (f, c) (g, d) v
    (pairs_differ f c g d apart))
taken_apart s (CardOrder l) (CardOrder m) apart a b = false_true (sym apart)
taken_apart s (BackgroundOrder l) (BackgroundOrder m) apart a b = false_true (sym apart)
taken_apart s (Parts i v) (Parts j w) apart a b =
    ap (λ x. Parts j x) (get-put_option_apart nat_cmp_total nat_cmp-IsAntisymmetric s.parts i j v (differ i j apart))
taken_apart s (NextId m) (NextId n) apart a b = false_true (sym apart)
taken_apart s e f apart a b = refl

pub overwritten : (s : Content) (e f : StackEntry) → of_one_place e f ≡ true
    → exchanged (exchanged s e) f ≡ exchanged s f
unfolding exchanged of_one_place
overwritten s (Prop i v) (Prop j w) h =
    let one = eqb-true i j (and_parts (nat_eq i j) (of_one_property v w) h).0 in
    let same = (and_parts (nat_eq i j) (of_one_property v w) h).1 in
    ap (λ k. with_value_at (with_value_at s k v) j w) one
    ∙ twice s j v w
    ∙ ap (λ o. record s { objects = put_option s.objects j o }) (put_over v w (object_at s j) same)
overwritten s (FieldText f c v) (FieldText g d w) h = ap
    (λ k. record s { texts = put_option (put_option s.texts k v) (g, d) w }) (same_pair f c g d h)
    ∙ ap (λ m. record s { texts = m }) (put_option_again pair_cmp_total pair_cmp-IsAntisymmetric s.texts (g, d) v w)
overwritten s (Hilite f c v) (Hilite g d w) h = ap
    (λ k. record s { hilites = put_option (put_option s.hilites k v) (g, d) w }) (same_pair f c g d h)
    ∙ ap (λ m. record s { hilites = m }) (put_option_again pair_cmp_total pair_cmp-IsAntisymmetric s.hilites (g, d) v w)
overwritten s (Object i v) f h = false_true h
overwritten s (CardOrder l) (CardOrder m) h = refl
overwritten s (BackgroundOrder l) (BackgroundOrder m) h = refl
overwritten s (Parts i v) (Parts j w) h = ap (λ k. record s { parts = put_option (put_option s.parts k v) j w })
    (eqb-true i j h) ∙ ap (λ m. record s { parts = m })
    (put_option_again nat_cmp_total nat_cmp-IsAntisymmetric s.parts j v w)
overwritten s (NextId m) (NextId n) h = refl
overwritten s e f h = false_true h

-- ---- weights

-- what comes out is what was written, or what would have come out
pub written_out : (s : Content) (e f : StackEntry) → of_one_place e f ≡ true
    → entry_weight (taken (exchanged s e) f) ≤ entry_weight (taken s f) + entry_weight e
unfolding exchanged taken of_one_place entry_weight
written_out s (Prop i v) (Prop j w) h =
    let one = eqb-true i j (and_parts (nat_eq i j) (of_one_property v w) h).0 in
    let same = (and_parts (nat_eq i j) (of_one_property v w) h).1 in
    let seen =
    ap (λ k. setting_size (own w (object_at (with_value_at s k v) j))) one ∙ ap setting_size (seen_same s j v w) in
    omega (arith, seen, own_over v w (object_at s j) same)
written_out s (FieldText f c v) (FieldText g d w) h =
    let seen = ap (λ k. size_of (option_map (λ t. text t) (get (put_option s.texts k v) (g, d)))) (same_pair f c g d h)
    ∙ ap (λ x. size_of (option_map (λ t. text t) x))
    (put_option-get pair_cmp_total pair_cmp-IsAntisymmetric s.texts (g, d) v) in
    omega (arith, seen)
written_out s (Hilite f c v) (Hilite g d w) h =
    let seen = ap (λ k. size_of (option_map (λ t. logical t) (get (put_option s.hilites k v) (g, d))))
    (same_pair f c g d h) ∙ ap (λ x. size_of (option_map (λ t. logical t) x))
    (put_option-get pair_cmp_total pair_cmp-IsAntisymmetric s.hilites (g, d) v) in
    omega (arith, seen)
written_out s (Object i v) f h = false_true h
written_out s (CardOrder l) (CardOrder m) h = omega arith
written_out s (BackgroundOrder l) (BackgroundOrder m) h = omega arith
written_out s (Parts i v) (Parts j w) h =
    let seen = ap (λ k. size_of (option_map (λ t. ids t) (get (put_option s.parts k v) j))) (eqb-true i j h)
    ∙ ap (λ x. size_of (option_map (λ t. ids t) x))
    (put_option-get nat_cmp_total nat_cmp-IsAntisymmetric s.parts j v) in
    omega (arith, seen)
written_out s (NextId m) (NextId n) h = omega arith
written_out s e f h = false_true h

-- the entry's property is there, where its place is a property
abbrev pub IsThere : Content → StackEntry → Type 0
IsThere s (Prop id v) = is_some (setting_at s id v) ≡ true
IsThere s _ = Unit {0}

found_weight : (v : PropValue) (found : Option objects.Object) → is_some (option_and_then (value_in v) found) ≡ true
    → setting_size (own v found) ≡ size_of
    (option_map (λ x. setting x) (option_and_then (setting_of (prop_of v)) found))
found_weight v None h = false_true h
found_weight v (Some o) h = rw (setting_of-prop v o) (by (value_in v o) h)
  where
    by : (was : Option PropValue) → is_some was ≡ true
        → setting_size (unwrap_or was v) ≡ size_of (option_map (λ x. setting x) was)
    by None e = false_true e
    by (Some x) e = refl

-- what comes out weighs what was there
pub taken_weight : (s : Content) (e : StackEntry) → IsThere s e
    → entry_weight (taken s e) ≡ 32 + size_of (value_at s (place_of e))
unfolding taken entry_weight
taken_weight s (Prop id v) h = ap (λ n. 32 + n) (found_weight v (object_at s id) h)
taken_weight s (FieldText f c v) h = refl
taken_weight s (Hilite b c v) h = refl
taken_weight s (Object id v) h = refl
taken_weight s (CardOrder l) h = refl
taken_weight s (BackgroundOrder l) h = refl
taken_weight s (Parts layer v) h = refl
taken_weight s (NextId n) h = refl

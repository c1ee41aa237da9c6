-- A stack stays well formed when a part is made.
use Rattle.std.proofs.Common.{◌≡◌, ℕ, zero, suc, ◌+◌, ◌≤◌, Bool, true, false, cond, not, ◌&&◌, ◌||◌, ◌==◌, List, []}
use Rattle.std.proofs.Common.{◌∷◌, ◌++◌, flat_map, nat_eq, leb, refl, sym, subst, ap, ◌∙◌, arith, rules, Option, Some}
use Rattle.std.proofs.Common.{None, IsTrue, IfSome, is_some, option_map, option_and_then, unwrap_or, ◌↔◌}
use Rattle.std.proofs.Common.{if◌then◌else◌, T}
use Rattle.std.proofs.Math.Bool.{or-false, and-true}
use Rattle.std.proofs.lemmas.Bool.{false≢true}
use Rattle.std.proofs.lemmas.Bool.Decides.{nat_tests}
use Rattle.std.proofs.Math.Facts.{leb_yes}
use Rattle.std.specs.Ordering.{nat_cmp}
use Rattle.std.specs.Cmp.{nat_cmp_total, unsigned_tied}
use Rattle.std.specs.FinMap.{FinMap, get, nat_cmp-IsAntisymmetric}
use Rattle.ht_values.specs.Text.{IsText}
use Rattle.ht_values.specs.declared.word.PartKind.{PartKind}
use Rattle.ht_values.specs.declared.word.PartKind.TheVariants.{Button, Field}
use Rattle.object_table.specs.Content.{Content}
use Rattle.object_table.specs.PartContents.{text_at, hilite_at, keeps_text, keeps_hilite, is_on_background_of}
use Rattle.object_table.specs.Layers.{layer_id, layer_parts, is_of_layer}
use Rattle.object_table.specs.Maps.{put_option}
use Rattle.object_table.specs.Objects.{is_stack, is_background, is_card, is_card_part, is_background_part}
use Rattle.object_table.specs.Objects.{is_card_field, is_background_field, is_background_button, is_layer}
use Rattle.object_table.specs.Objects.{background_of, has_kind, object_at, parts_at, contains_id, background_at}
use Rattle.object_table.specs.Objects.{object_count}
use Rattle.object_table.specs.Pairs.{PairMap}
use Rattle.object_table.specs.WellFormed.{NamesEach, IsWellFormed}
use Rattle.object_table.specs.declared.object.Object.{Object}
use Rattle.object_table.specs.declared.object.Kind.{Kind}
use Rattle.object_table.specs.declared.object.Kind.TheVariants.{Stack, Background, Card, CardButton, BackgroundButton}
use Rattle.object_table.specs.declared.object.Kind.TheVariants.{CardField, BackgroundField}
use Rattle.object_table.specs.declared.object.LayerId.{LayerId}
use Rattle.object_table.specs.declared.object.LayerId.TheVariants.{OfCard, OfBackground}
use Rattle.object_table.proofs.Maps.{get-put_option}
use Rattle.object_table.proofs.Slots.{nat_eq_sym}
use Rattle.stack_places.specs.Places.{put}
use Rattle.structural_changes.specs.Writes.{put_each, writes_of_new_part, fits_new_part, has_room_for, kind_of_new}
use Rattle.structural_changes.specs.Writes.{name_of_new, new_part, kept_for, is_card_of}
use Rattle.structural_changes.proofs.Filled.{filled, texts_filled, hilites_filled, get-filled, contains-ids_where}
use Rattle.structural_changes.proofs.Formed.{IsFormed, HasCards, formed, whole}
use Rattle.structural_changes.proofs.Grown.{objects_and, same_id, none_new, none_at_new, object-with, found-with}
use Rattle.structural_changes.proofs.Grown.{found-as_before, ids-with, count-with, names-with}
use Rattle.structural_changes.proofs.Tallies.{one_if, total, tally, total-append, total-flat_map, total-plus}
use Rattle.structural_changes.proofs.Tallies.{total-zero, none_more, contains-tally, named-tally, tally-named}
use Rattle.structural_changes.proofs.Tallies.{one_member}

-- ---- kinds

-- whether the kind of what is found passes
abbrev pub passes : (Kind → Bool) → Option Object → Bool
passes p found = unwrap_or (option_map (λ o. p o.kind) found) false

if_passes : (p q : Kind → Bool) → ((k : Kind) → p k ≡ true → q k ≡ true) → (found : Option Object)
    → passes p found ≡ true → passes q found ≡ true
if_passes p q h None e = absurd (false≢true e)
if_passes p q h (Some o) e = h o.kind e

as_false : (p q : Kind → Bool) → ((k : Kind) → p k ≡ true → q k ≡ false) → (found : Option Object)
    → passes p found ≡ true → passes q found ≡ false
as_false p q h None e = refl
as_false p q h (Some o) e = h o.kind e

pub card_is_layer : (k : Kind) → is_card k ≡ true → is_layer k ≡ true
card_is_layer (Card b c) e = refl
card_is_layer Stack e = absurd (false≢true e)
card_is_layer (Background c) e = refl
card_is_layer _ e = absurd (false≢true e)

pub background_is_layer : (k : Kind) → is_background k ≡ true → is_layer k ≡ true
background_is_layer (Background c) e = refl
background_is_layer _ e = absurd (false≢true e)

background_is_no_card : (k : Kind) → is_background k ≡ true → is_card k ≡ false
background_is_no_card (Background c) e = refl
background_is_no_card _ e = absurd (false≢true e)

card_is_no_background : (k : Kind) → is_card k ≡ true → is_background k ≡ false
card_is_no_background (Card b c) e = refl
card_is_no_background _ e = absurd (false≢true e)

-- ---- what is kept

-- a card's part and a background's part keep something for different cards
abbrev pub kept_by : Content → LayerId → ℕ → Bool
kept_by s (OfCard card) c = nat_eq c card
kept_by s (OfBackground background) c = (c == 0) || is_card_of s background c

pub card_is_there : (s : Content) (background card : ℕ)
    → is_card_of s background card && is_some (object_at s card) ≡ is_card_of s background card
card_is_there s background card = by (object_at s card)
  where
    by : (found : Option Object) → let is : Bool = unwrap_or
        (option_map (λ b. nat_eq b background) (option_and_then (λ o. background_of o.kind) found)) false in is &&
        is_some found ≡ is
    by None = refl
    by (Some o) = and-true (unwrap_or (option_map (λ b. nat_eq b background) (background_of o.kind)) false)

pub contains-kept_for : (s : Content) (layer : LayerId) (c : ℕ) → contains_id c (kept_for s layer) ≡ kept_by s layer c
contains-kept_for s (OfCard card) c = or-false (nat_eq card c) ∙ nat_eq_sym card c
contains-kept_for s (OfBackground background) c =
    λ i. nat_eq_sym 0 c i || (contains-ids_where s (is_card_of s background) c ∙ card_is_there s background c) i

-- ---- the stack with a part

pub bool_iff : (a b : Bool) → (a ≡ true) ↔ (b ≡ true) → a ≡ b
bool_iff true b h = sym (h.0 refl)
bool_iff false true h = h.1 refl
bool_iff false false h = refl

pub iff_bool : (a b : Bool) → a ≡ b → (a ≡ true) ↔ (b ≡ true)
iff_bool a b e = (λ h. sym e ∙ h, λ h. e ∙ h)

positive_or : (n : ℕ) (b : Bool) → not (nat_eq (n + one_if b) 0) ≡ not (nat_eq n 0) || b
positive_or zero true = refl
positive_or zero false = refl
positive_or (suc n) b = let some : nat_eq (suc n + one_if b) 0
    ≡ false = grind (arith, nat_tests) in let one : nat_eq (suc n) 0 ≡ false =
    grind (arith, nat_tests) in ap not some ∙ sym (ap (λ x. not x || b) one)

abbrev parts_and : Content → ℕ → FinMap nat_cmp (List ℕ)
parts_and s layer = put_option s.parts layer (Some (parts_at s layer ++ s.next ∷ []))

-- the parts of a layer in a map of these
abbrev pub in_map : FinMap nat_cmp (List ℕ) → ℕ → List ℕ
in_map m layer = unwrap_or (get m layer) []

module _ (s : Content) (w : IsFormed s) (l : ℕ) where
  get-parts : (y : ℕ) → get (parts_and s l) y ≡ cond (nat_eq y l) (Some (parts_at s l ++ s.next ∷ [])) (get s.parts y)
  get-parts y = get-put_option nat_cmp_total nat_cmp-IsAntisymmetric s.parts l (Some (parts_at s l ++ s.next ∷ [])) y
      ∙ ap (λ b. cond b (Some (parts_at s l ++ s.next ∷ [])) (get s.parts y)) (unsigned_tied y l)

  tally-parts : (x y : ℕ) → tally x (in_map (parts_and s l) y)
      ≡ tally x (parts_at s y) + one_if (nat_eq s.next x && nat_eq y l)
  tally-parts x y = ap (λ found. tally x (unwrap_or found [])) (get-parts y) ∙ by (nat_eq y l) refl
    where
      more : (b : Bool) → one_if b + 0 ≡ one_if (b && true)
      more true = refl
      more false = refl

      none : (b : Bool) (n : ℕ) → n ≡ n + one_if (b && false)
      none true n = omega arith
      none false n = omega arith

      by : (b : Bool) → nat_eq y l ≡ b
          → tally x (unwrap_or (cond b (Some (parts_at s l ++ s.next ∷ [])) (get s.parts y)) [])
          ≡ tally x (parts_at s y) + one_if (nat_eq s.next x && b)
      by true q = total-append (λ z. one_if (nat_eq z x)) (parts_at s l) (s.next ∷ [])
          ∙ (λ i. tally x (parts_at s (sym (same_id y l q) i)) + more (nat_eq s.next x) i)
      by false q = none (nat_eq s.next x) (tally x (parts_at s y))

  -- the part is in its layer's list
  pub contains-parts : (x y : ℕ) → contains_id x (in_map (parts_and s l) y)
      ≡ contains_id x (parts_at s y) || (nat_eq s.next x && nat_eq y l)
  contains-parts x y =
      contains-tally x (in_map (parts_and s l) y)
      ∙ ap (λ n. not (nat_eq n 0)) (tally-parts x y)
      ∙ positive_or (tally x (parts_at s y)) (nat_eq s.next x && nat_eq y l)
      ∙ ap (λ b. b || (nat_eq s.next x && nat_eq y l)) (sym (contains-tally x (parts_at s y)))

  listed : (x : ℕ) (order : List ℕ)
      → total (λ y. one_if (nat_eq s.next x && nat_eq y l)) order ≡ cond (nat_eq s.next x) (tally l order) 0
  listed x order = by (nat_eq s.next x)
    where
      by : (b : Bool) → total (λ y. one_if (b && nat_eq y l)) order ≡ cond b (tally l order) 0
      by true = refl
      by false = total-zero order

  module _ (new : Object) where
    -- the layers of an order name each part once
    pub layers-name : (of_layer of_part : Kind → Bool) (order : List ℕ) → NamesEach (has_kind of_layer s) order
        → NamesEach (has_kind of_part s) (flat_map (parts_at s) order) → of_part new.kind ≡ has_kind of_layer s l
        → NamesEach (λ id. passes of_part (get (objects_and s new) id)) (flat_map (in_map (parts_and s l)) order)
    layers-name of_layer of_part order layers parts e = tally-named _ _ (λ x.
        total-flat_map (λ z. one_if (nat_eq z x)) (in_map (parts_and s l)) order
        ∙ (λ i. total (λ y. tally-parts x y i) order)
        ∙ total-plus (λ y. tally x (parts_at s y)) (λ y. one_if (nat_eq s.next x && nat_eq y l)) order
        ∙ (λ i. (sym (total-flat_map (λ z. one_if (nat_eq z x)) (parts_at s) order)
        ∙ named-tally (has_kind of_part s) _ parts x) i + listed x order i)
        ∙ (λ i. one_if (has_kind of_part s x) + cond (nat_eq_sym s.next x i)
        ((named-tally (has_kind of_layer s) order layers l ∙ ap one_if (sym e)) i) 0)
        ∙ by x (nat_eq x s.next) refl
        ∙ ap one_if (sym (found-with s w new (passes of_part) x)))
      where
        by : (x : ℕ) (b : Bool) → nat_eq x s.next ≡ b
            → one_if (has_kind of_part s x) + cond b (one_if (of_part new.kind)) 0
            ≡ one_if (cond b (of_part new.kind) (has_kind of_part s x))
        by x true q = ap (λ found. one_if (passes of_part found) + one_if (of_part new.kind)) (none_at_new s w new x q)
            ∙ none_more (one_if (of_part new.kind))
        by x false q = omega arith

-- ---- the new id

is_zero : (n : ℕ) → n ≤ 0 → not (nat_eq n 0) ≡ false
is_zero zero h = refl
is_zero (suc n) h = absurd (omega arith)

one_of : (found : Option Object) → passes is_layer found ≡ true → passes is_card found ≡ false
    → passes is_background found ≡ true
one_of None e other = absurd (false≢true e)
one_of (Some o) e other = by o.kind e other
  where
    by : (k : Kind) → is_layer k ≡ true → is_card k ≡ false → is_background k ≡ true
    by (Background c) e other = refl
    by (Card b c) e other = absurd (false≢true (sym other))
    by Stack e other = absurd (false≢true e)
    by _ e other = absurd (false≢true e)

module _ (s : Content) (w : IsFormed s) where
  -- no list of parts has the next id
  unlisted_in : (of_layer of_part : Kind → Bool) (order : List ℕ) (y : ℕ) → NamesEach (has_kind of_layer s) order
      → NamesEach (has_kind of_part s) (flat_map (parts_at s) order) → has_kind of_layer s y ≡ true
      → contains_id s.next (parts_at s y) ≡ false
  unlisted_in of_layer of_part order y layers parts e =
      let member : tally s.next (parts_at s y) ≤ total (λ z. tally s.next (parts_at s z)) order =
      one_member (λ z. tally s.next (parts_at s z)) y order (layers.each y ∙ e) in
      let sum : total (λ z. tally s.next (parts_at s z)) order
      ≡ one_if (has_kind of_part s s.next) = sym (total-flat_map (λ z. one_if (nat_eq z s.next)) (parts_at s) order)
      ∙ named-tally (has_kind of_part s) _ parts s.next in
      let nothing : one_if (has_kind of_part s s.next)
      ≡ 0 = ap (λ found. one_if (passes of_part found))
      (none_new s w (record { name = []; script = []; kind = Stack })) in
      contains-tally s.next (parts_at s y) ∙ is_zero (tally s.next (parts_at s y)) (omega arith)

  pub unlisted : (y : ℕ) → contains_id s.next (parts_at s y) ≡ false
  unlisted y = by (get s.parts y) refl
    where
      on : (b : Bool) → has_kind is_card s y ≡ b → passes is_layer (object_at s y) ≡ true
          → contains_id s.next (parts_at s y) ≡ false
      on true q e = unlisted_in is_card is_card_part s.cards y w.cards w.card_parts q
      on false q e = unlisted_in is_background is_background_part s.backgrounds y w.backgrounds w.background_parts
          (one_of (object_at s y) e q)

      by : (found : Option (List ℕ)) → get s.parts y ≡ found → contains_id s.next (unwrap_or found []) ≡ false
      by None q = refl
      by (Some ids) q = ap (λ found. contains_id s.next (unwrap_or found [])) (sym q)
          ∙ on (has_kind is_card s y) refl ((w.layers y).0 (ap is_some q))

-- ---- texts and hilites

pub and_false : (b : Bool) → b && false ≡ false
and_false true = refl
and_false false = refl

-- whether something is there in a map with values for a new part
there-filled : {X : Type 0} (m : PairMap X) (part : ℕ) (cards : List ℕ) (v : X) (f c : ℕ)
    → is_some (get (filled m part cards v) (f, c))
    ≡ cond (nat_eq f part) (contains_id c cards || is_some (get m (f, c))) (is_some (get m (f, c)))
there-filled m part cards v f c =
    ap is_some (get-filled m part cards v (f, c)) ∙ by (nat_eq f part) (contains_id c cards)
  where
    by : (a b : Bool) → is_some (cond (a && b) (Some v) (get m (f, c)))
        ≡ cond a (b || is_some (get m (f, c))) (is_some (get m (f, c)))
    by true true = refl
    by true false = refl
    by false b = refl

module _ (s : Content) (w : IsFormed s) (l : ℕ) (new : Object) (no_layer : background_of new.kind ≡ None) where
  abbrev at_now : ℕ → Option Object
  at_now = get (objects_and s new)

  abbrev home_now : ℕ → Option ℕ
  home_now card = option_and_then (λ o. background_of o.kind) (at_now card)

  pub home-as_before : (card : ℕ) → home_now card ≡ background_at s card
  home-as_before = found-as_before s w new (option_and_then (λ o. background_of o.kind)) no_layer

  -- whether a part of a background keeps something for a card
  abbrev kept_now : ℕ → ℕ → Bool
  kept_now part card =
      (card == 0) || unwrap_or (option_map (λ b. contains_id part (in_map (parts_and s l) b)) (home_now card)) false

  kept-before : (part card : ℕ) → nat_eq part s.next ≡ false
      → kept_now part card ≡ (card == 0) || is_on_background_of s part card
  kept-before part card q =
      let other : nat_eq s.next part ≡ false = nat_eq_sym s.next part ∙ q in
      (λ i. (card == 0) || unwrap_or (option_map
      (λ b. (contains-parts s w l part b ∙ ap (λ x. contains_id part (parts_at s b) || (x && nat_eq b l)) other
      ∙ or-false (contains_id part (parts_at s b))) i) (home-as_before card i)) false)

  kept-new : (card : ℕ) → kept_now s.next card ≡ (card == 0) || is_card_of s l card
  kept-new card =
      let itself : nat_eq s.next s.next ≡ true = grind (arith, nat_tests) in
      (λ i. (card == 0) || unwrap_or (option_map
      (λ b. (contains-parts s w l s.next b ∙ (λ j. unlisted s w b j || (itself j && nat_eq b l))) i)
      (home-as_before card i)) false)

  at-before : (id : ℕ) → nat_eq id s.next ≡ false → at_now id ≡ object_at s id
  at-before id q = object-with s w new id ∙ ap (λ b. cond b (Some new) (object_at s id)) q

  at-new : at_now s.next ≡ Some new
  at-new = let itself : nat_eq s.next s.next ≡ true =
      grind (arith, nat_tests) in object-with s w new s.next ∙ ap (λ b. cond b (Some new) (object_at s s.next)) itself

  -- whether the new part keeps a text
  abbrev pub gains_text : ℕ → Bool
  gains_text card = (is_card_field new.kind && nat_eq card l) ||
      (is_background_field new.kind && ((card == 0) || is_card_of s l card))

  abbrev pub gains_hilite : ℕ → Bool
  gains_hilite card = is_background_button new.kind && ((card == 0) || is_card_of s l card)

  abbrev keeps_text_now : ℕ → ℕ → Bool
  keeps_text_now f c = (passes is_card_field (at_now f) && contains_id f (in_map (parts_and s l) c)) ||
      (passes is_background_field (at_now f) && kept_now f c)

  abbrev keeps_hilite_now : ℕ → ℕ → Bool
  keeps_hilite_now b c = passes is_background_button (at_now b) && kept_now b c

  keeps_text-new : (card : ℕ) → keeps_text_now s.next card ≡ gains_text card
  keeps_text-new card =
      let itself : nat_eq s.next s.next ≡ true = grind (arith, nat_tests) in
      (λ i. (passes is_card_field (at-new i) &&
      (contains-parts s w l s.next card ∙ (λ j. unlisted s w card j || (itself j && nat_eq card l))) i) ||
      (passes is_background_field (at-new i) && kept-new card i))

  keeps_text-before : (f c : ℕ) → nat_eq f s.next ≡ false → keeps_text_now f c ≡ keeps_text s f c
  keeps_text-before f c q =
      let other : nat_eq s.next f ≡ false = nat_eq_sym s.next f ∙ q in
      (λ i. (passes is_card_field (at-before f q i) &&
      (contains-parts s w l f c ∙ ap (λ x. contains_id f (parts_at s c) || (x && nat_eq c l)) other
      ∙ or-false (contains_id f (parts_at s c))) i) ||
      (passes is_background_field (at-before f q i) && kept-before f c q i))

  keeps_hilite-new : (card : ℕ) → keeps_hilite_now s.next card ≡ gains_hilite card
  keeps_hilite-new card = λ i. passes is_background_button (at-new i) && kept-new card i

  keeps_hilite-before : (b c : ℕ) → nat_eq b s.next ≡ false → keeps_hilite_now b c ≡ keeps_hilite s b c
  keeps_hilite-before b c q = λ i. passes is_background_button (at-before b q i) && kept-before b c q i

  no_text : (c : ℕ) → is_some (text_at s s.next c) ≡ false
  no_text c = bool_iff (is_some (text_at s s.next c)) (keeps_text s s.next c) (w.texts s.next c)
      ∙ (λ i. (passes is_card_field (none_new s w new i) && contains_id s.next (parts_at s c)) ||
      (passes is_background_field (none_new s w new i) && ((c == 0) || is_on_background_of s s.next c)))

  no_hilite : (c : ℕ) → is_some (hilite_at s s.next c) ≡ false
  no_hilite c = bool_iff (is_some (hilite_at s s.next c)) (keeps_hilite s s.next c) (w.hilites s.next c)
      ∙ (λ i. passes is_background_button (none_new s w new i) && ((c == 0) || is_on_background_of s s.next c))

  -- Texts and hilites stand for just those that keep one.
  module _ (cards : List ℕ) where
    pub texts-there : ((c : ℕ) → contains_id c cards ≡ gains_text c) → (f c : ℕ)
        → is_some (get (filled s.texts s.next cards []) (f, c)) ≡ keeps_text_now f c
    texts-there gains f c = there-filled s.texts s.next cards [] f c ∙ by (nat_eq f s.next) refl
      where
        by : (b : Bool) → nat_eq f s.next ≡ b
            → cond b (contains_id c cards || is_some (text_at s f c)) (is_some (text_at s f c)) ≡ keeps_text_now f c
        by true q = subst (λ g. contains_id c cards || is_some (text_at s g c) ≡ keeps_text_now g c)
            (sym (same_id f s.next q)) ((λ i. gains c i || no_text c i) ∙ or-false (gains_text c)
            ∙ sym (keeps_text-new c))
        by false q = bool_iff (is_some (text_at s f c)) (keeps_text s f c) (w.texts f c) ∙ sym (keeps_text-before f c q)

    pub hilites-there : ((c : ℕ) → contains_id c cards ≡ gains_hilite c) → (b c : ℕ)
        → is_some (get (filled s.hilites s.next cards false) (b, c)) ≡ keeps_hilite_now b c
    hilites-there gains b c = there-filled s.hilites s.next cards false b c ∙ by (nat_eq b s.next) refl
      where
        by : (x : Bool) → nat_eq b s.next ≡ x
            → cond x (contains_id c cards || is_some (hilite_at s b c)) (is_some (hilite_at s b c))
            ≡ keeps_hilite_now b c
        by true q = subst (λ g. contains_id c cards || is_some (hilite_at s g c) ≡ keeps_hilite_now g c)
            (sym (same_id b s.next q)) ((λ i. gains c i || no_hilite c i) ∙ or-false (gains_hilite c)
            ∙ sym (keeps_hilite-new c))
        by false q =
            bool_iff (is_some (hilite_at s b c)) (keeps_hilite s b c) (w.hilites b c) ∙ sym (keeps_hilite-before b c q)

    -- an empty text is a text
    pub texts-are : (f c : ℕ) → IfSome (get (filled s.texts s.next cards []) (f, c)) IsText
    texts-are f c = subst (λ x. IfSome x IsText) (sym (get-filled s.texts s.next cards [] (f, c)))
        (by (nat_eq f s.next && contains_id c cards))
      where
        by : (b : Bool) → IfSome (cond b (Some []) (get s.texts (f, c))) IsText
        by true = record { short = omega arith; bytes = search rules }
        by false = w.field_texts f c

-- ---- the theorem

text_cards : Content → LayerId → PartKind → List ℕ
text_cards s layer Field = kept_for s layer
text_cards s layer Button = []

hilite_cards : Content → LayerId → PartKind → List ℕ
hilite_cards s (OfBackground background) Button = kept_for s (OfBackground background)
hilite_cards s layer kind = []

abbrev with_part : Content → LayerId → PartKind → Content
with_part s layer kind = record {
  objects = objects_and s (new_part layer kind);
  backgrounds = s.backgrounds;
  cards = s.cards;
  parts = parts_and s (layer_id layer);
  texts = filled s.texts s.next (text_cards s layer kind) [];
  hilites = filled s.hilites s.next (hilite_cards s layer kind) false;
  next = s.next + 1;
}

-- the writes give this stack
written : (s : Content) (layer : LayerId) (kind : PartKind)
    → put_each s (writes_of_new_part s layer kind) ≡ with_part s layer kind
unfolding put filled text_cards hilite_cards
written s (OfCard card) Button = refl
written s (OfBackground background) Button = hilites_filled _ s.next (kept_for s (OfBackground background))
written s (OfCard card) Field = texts_filled _ s.next (kept_for s (OfCard card))
written s (OfBackground background) Field = texts_filled _ s.next (kept_for s (OfBackground background))

text_gains : (s : Content) (w : IsFormed s) (layer : LayerId) (kind : PartKind) (c : ℕ)
    → contains_id c (text_cards s layer kind)
    ≡ (is_card_field (kind_of_new layer kind) && nat_eq c (layer_id layer)) ||
    (is_background_field (kind_of_new layer kind) && ((c == 0) || is_card_of s (layer_id layer) c))
unfolding text_cards
text_gains s w (OfCard card) Field c = contains-kept_for s (OfCard card) c ∙ sym (or-false (nat_eq c card))
text_gains s w (OfBackground background) Field c = contains-kept_for s (OfBackground background) c
text_gains s w (OfCard card) Button c = refl
text_gains s w (OfBackground background) Button c = refl

hilite_gains : (s : Content) (w : IsFormed s) (layer : LayerId) (kind : PartKind) (c : ℕ)
    → contains_id c (hilite_cards s layer kind)
    ≡ is_background_button (kind_of_new layer kind) && ((c == 0) || is_card_of s (layer_id layer) c)
unfolding hilite_cards
hilite_gains s w (OfBackground background) Button c = contains-kept_for s (OfBackground background) c
hilite_gains s w (OfCard card) Field c = refl
hilite_gains s w (OfBackground background) Field c = refl
hilite_gains s w (OfCard card) Button c = refl

-- no part has a layer's kind
no_layer : (p : Kind → Bool) → p (CardButton true false) ≡ false → p (CardField true false) ≡ false
    → p (BackgroundButton true true) ≡ false → p (BackgroundField true false false) ≡ false
    → (layer : LayerId) (kind : PartKind) → p (kind_of_new layer kind) ≡ false
no_layer p a b c d (OfCard card) Button = a
no_layer p a b c d (OfCard card) Field = b
no_layer p a b c d (OfBackground background) Button = c
no_layer p a b c d (OfBackground background) Field = d

no_home : (layer : LayerId) (kind : PartKind) → background_of (kind_of_new layer kind) ≡ None
no_home (OfCard card) Button = refl
no_home (OfCard card) Field = refl
no_home (OfBackground background) Button = refl
no_home (OfBackground background) Field = refl

named : (kind : PartKind) → IsText (name_of_new kind)
named Button = record { short = omega arith; bytes = search rules }
named Field = record { short = omega arith; bytes = search rules }

pub both : (a b : Bool) → a && b ≡ true → (a ≡ true) × (b ≡ true)
both true b e = (refl, e)
both false b e = absurd (false≢true e)

-- a part's layer is there, of its kind
there_of : (s : Content) (layer : LayerId) → is_some (layer_parts s layer) ≡ true
    → has_kind (is_of_layer layer) s (layer_id layer) ≡ true
there_of s layer e = by (has_kind (is_of_layer layer) s (layer_id layer)) e
  where
    by : (b : Bool) → is_some (if b then get s.parts (layer_id layer) else None) ≡ true → b ≡ true
    by true e = refl
    by false e = absurd (false≢true e)

on_cards : (s : Content) (layer : LayerId) (kind : PartKind) → has_kind (is_of_layer layer) s (layer_id layer) ≡ true
    → is_card_part (kind_of_new layer kind) ≡ has_kind is_card s (layer_id layer)
on_cards s (OfCard card) Button e = sym e
on_cards s (OfCard card) Field e = sym e
on_cards s (OfBackground background) Button e =
    sym (as_false is_background is_card background_is_no_card (object_at s background) e)
on_cards s (OfBackground background) Field e =
    sym (as_false is_background is_card background_is_no_card (object_at s background) e)

on_backgrounds : (s : Content) (layer : LayerId) (kind : PartKind)
    → has_kind (is_of_layer layer) s (layer_id layer) ≡ true
    → is_background_part (kind_of_new layer kind) ≡ has_kind is_background s (layer_id layer)
on_backgrounds s (OfBackground background) Button e = sym e
on_backgrounds s (OfBackground background) Field e = sym e
on_backgrounds s (OfCard card) Button e =
    sym (as_false is_card is_background card_is_no_background (object_at s card) e)
on_backgrounds s (OfCard card) Field e = sym (as_false is_card is_background card_is_no_background (object_at s card) e)

as_layer : (s : Content) (layer : LayerId) → has_kind (is_of_layer layer) s (layer_id layer) ≡ true
    → has_kind is_layer s (layer_id layer) ≡ true
as_layer s (OfCard card) e = if_passes is_card is_layer card_is_layer (object_at s card) e
as_layer s (OfBackground background) e = if_passes is_background is_layer background_is_layer (object_at s background) e

module _ (s : Content) (layer : LayerId) (kind : PartKind) (w : IsFormed s) (room : has_room_for 1 s ≡ true)
    (there : is_some (layer_parts s layer) ≡ true) where
  new : Object
  new = new_part layer kind

  of_kind : has_kind (is_of_layer layer) s (layer_id layer) ≡ true
  of_kind = there_of s layer there

  -- the objects of a kind that no part has
  same_kinds : (p : Kind → Bool) → p (kind_of_new layer kind) ≡ false
      → has_kind p s ≡ has_kind p (with_part s layer kind)
  same_kinds p e i id = sym (found-as_before s w (new_part layer kind) (passes p) e id) i

  homes : background_at s ≡ background_at (with_part s layer kind)
  homes i card = sym (home-as_before s w (layer_id layer) (new_part layer kind) (no_home layer kind) card) i

  has_lists : (id : ℕ) → is_some (get (parts_and s (layer_id layer)) id) ≡ is_some (get s.parts id)
  has_lists id = ap is_some (get-parts s w (layer_id layer) id) ∙ by (nat_eq id (layer_id layer)) refl
    where
      by : (b : Bool) → nat_eq id (layer_id layer) ≡ b
          → is_some (cond b (Some (parts_at s (layer_id layer) ++ s.next ∷ [])) (get s.parts id))
          ≡ is_some (get s.parts id)
      by true q = sym (ap (λ y. is_some (get s.parts y)) (same_id id (layer_id layer) q)
          ∙ (w.layers (layer_id layer)).1 (as_layer s layer of_kind))
      by false q = refl

  part_formed : IsFormed (with_part s layer kind)
  part_formed =
      let fits : (leb (s.next + 1) 1000001 ≡ true) × (leb (object_count s + 1) 10000 ≡ true) =
      both (leb (s.next + 1) 1000001) (leb (object_count s + 1) 10000) room in
      let high : s.next + 1 ≤ 1000001 = leb_yes (subst T (sym fits.0) tt) in
      let more : object_count s + 1 ≤ 10000 = leb_yes (subst T (sym fits.1) tt) in
      let low : 3 ≤ s.next = w.next_low in
      let count : object_count (with_part s layer kind) ≤ object_count s + 1 = count-with s w (new_part layer kind) in
      let layers : has_kind is_layer s ≡ has_kind is_layer (with_part s layer kind) =
      same_kinds is_layer (no_layer is_layer refl refl refl refl layer kind) in
      let grounds : has_kind is_background s ≡ has_kind is_background (with_part s layer kind) =
      same_kinds is_background (no_layer is_background refl refl refl refl layer kind) in
      record {
        backgrounds = subst (λ p. NamesEach p s.backgrounds) grounds w.backgrounds;
        cards = subst (λ p. NamesEach p s.cards) (same_kinds is_card (no_layer is_card refl refl refl refl layer kind))
            w.cards;
        layers = λ id. let old = w.layers id in let e : has_kind is_layer s id
            ≡ has_kind is_layer (with_part s layer kind) id = ap (λ p. p id) layers in
            (λ h. sym e ∙ old.0 (sym (has_lists id) ∙ h), λ h. has_lists id ∙ old.1 (e ∙ h));
        card_parts = layers-name s w (layer_id layer) (new_part layer kind) is_card is_card_part s.cards w.cards
            w.card_parts (on_cards s layer kind of_kind);
        background_parts = layers-name s w (layer_id layer) (new_part layer kind) is_background is_background_part
            s.backgrounds w.backgrounds w.background_parts (on_backgrounds s layer kind of_kind);
        on_background = λ card. subst (λ p. IfSome (background_at (with_part s layer kind) card) (λ b. IsTrue (p b)))
            grounds (subst (λ q. IfSome (q card) (λ b. IsTrue (has_kind is_background s b))) homes
            (w.on_background card));
        some_background = w.some_background;
        stack = subst (λ p. (id : ℕ) → IsTrue (p id) ↔ (id ≡ 0))
            (same_kinds is_stack (no_layer is_stack refl refl refl refl layer kind)) w.stack;
        ids = ids-with s w (new_part layer kind);
        next_low = omega arith;
        next_high = high;
        few = omega arith;
        names = names-with s w (new_part layer kind) (named kind, record { short = omega arith; bytes = search rules });
        texts = λ f c. iff_bool _ _ (texts-there s w (layer_id layer) (new_part layer kind) (no_home layer kind)
            (text_cards s layer kind) (text_gains s w layer kind) f c);
        field_texts =
            texts-are s w (layer_id layer) (new_part layer kind) (no_home layer kind) (text_cards s layer kind);
        hilites = λ b c. iff_bool _ _ (hilites-there s w (layer_id layer) (new_part layer kind) (no_home layer kind)
            (hilite_cards s layer kind) (hilite_gains s w layer kind) b c);
      }

  has_cards : HasCards s → HasCards (with_part s layer kind)
  has_cards old id h =
      let grounds : has_kind is_background s ≡ has_kind is_background (with_part s layer kind) =
      same_kinds is_background (no_layer is_background refl refl refl refl layer kind) in
      let card = old id (ap (λ p. p id) grounds ∙ h) in
      (card.0, sym (ap (λ q. q card.0) homes) ∙ card.1)

pub new_part_fits : (s : Content) (layer : LayerId) (kind : PartKind) → IsWellFormed s → fits_new_part s layer ≡ true
    → IsWellFormed (put_each s (writes_of_new_part s layer kind))
new_part_fits s layer kind w fits =
    let parts = both (has_room_for 1 s) (is_some (layer_parts s layer)) fits in
    let f = formed s w in
    subst IsWellFormed (sym (written s layer kind))
    (whole _ (part_formed s layer kind f parts.0 parts.1) (has_cards s layer kind f parts.0 parts.1 w.some_card))

-- a card stays one
pub cards_stay : (s : Content) (layer : LayerId) (kind : PartKind) → IsWellFormed s → fits_new_part s layer ≡ true
    → (id : ℕ) → has_kind is_card (put_each s (writes_of_new_part s layer kind)) id ≡ has_kind is_card s id
cards_stay s layer kind w fits id =
    let parts = both (has_room_for 1 s) (is_some (layer_parts s layer)) fits in
    ap (λ t. has_kind is_card t id) (written s layer kind)
    ∙ sym (ap (λ p. p id) (same_kinds s layer kind (formed s w) parts.0 parts.1 is_card
    (no_layer is_card refl refl refl refl layer kind)))

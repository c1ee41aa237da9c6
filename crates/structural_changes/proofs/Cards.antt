-- A stack stays well formed when a card is made.
use Rattle.std.proofs.Common.{◌≡◌, ℕ, ◌+◌, ◌≤◌, Bool, true, false, cond, ◌&&◌, ◌||◌, ◌==◌, List, [], flat_map, nat_eq}
use Rattle.std.proofs.Common.{leb, refl, sym, subst, ap, ◌∙◌, arith, rules, Option, Some, None, IsTrue, IfSome}
use Rattle.std.proofs.Common.{is_some, option_map, option_and_then, unwrap_or, ◌↔◌, T}
use Rattle.std.proofs.Math.Bool.{and-true}
use Rattle.std.proofs.lemmas.Bool.{false≢true}
use Rattle.std.proofs.lemmas.Bool.Decides.{nat_tests}
use Rattle.std.proofs.Math.Facts.{leb_yes}
use Rattle.std.specs.Ordering.{nat_cmp}
use Rattle.std.specs.Cmp.{nat_cmp_total, unsigned_tied}
use Rattle.std.specs.FinMap.{FinMap, get, nat_cmp-IsAntisymmetric}
use Rattle.ht_values.specs.Text.{IsText}
use Rattle.object_table.specs.Content.{Content}
use Rattle.object_table.specs.Empty.{empty_object}
use Rattle.object_table.specs.PartContents.{text_at, hilite_at, keeps_text, keeps_hilite}
use Rattle.object_table.specs.Maps.{put_option}
use Rattle.object_table.specs.Objects.{is_stack, is_background, is_card, is_card_part, is_background_part}
use Rattle.object_table.specs.Objects.{is_card_field, is_background_field, is_background_button, is_layer}
use Rattle.object_table.specs.Objects.{background_of, has_kind, object_at, parts_at, contains_id, background_at}
use Rattle.object_table.specs.Objects.{object_count}
use Rattle.object_table.specs.WellFormed.{NamesEach, IsWellFormed}
use Rattle.object_table.specs.declared.object.Object.{Object}
use Rattle.object_table.specs.declared.object.Kind.{Kind}
use Rattle.object_table.specs.declared.object.Kind.TheVariants.{Stack, Card}
use Rattle.object_table.proofs.Maps.{get-put_option}
use Rattle.stack_places.specs.Places.{put}
use Rattle.structural_changes.specs.Writes.{put_each, writes_of_new_card, has_room_for, home, insert_after, is_part_of}
use Rattle.structural_changes.specs.Writes.{ids_where}
use Rattle.structural_changes.proofs.Filled.{filled_for, contents_filled, get-filled_for, contains-ids_where}
use Rattle.structural_changes.proofs.Formed.{IsFormed, HasCards, formed, whole}
use Rattle.structural_changes.proofs.Grown.{objects_and, same_id, none_new, none_at_new, found-with, found-as_before}
use Rattle.structural_changes.proofs.Grown.{ids-with, count-with, names-with}
use Rattle.structural_changes.proofs.Parts.{passes, bool_iff, iff_bool, in_map, and_false, both}
use Rattle.structural_changes.proofs.Tallies.{one_if, tally, total-flat_map, total-insert_after, none_more}
use Rattle.structural_changes.proofs.Tallies.{named-tally, tally-named}

-- a card's background, which is there
pub card_home : (s : Content) (card : ℕ) → has_kind is_card s card ≡ true → background_at s card ≡ Some (home s card)
card_home s card e = by (object_at s card) e
  where
    of_kind : (k : Kind) → is_card k ≡ true → background_of k ≡ Some (unwrap_or (background_of k) 0)
    of_kind (Card b c) e = refl
    of_kind _ e = absurd (false≢true e)

    by : (found : Option Object) → passes is_card found ≡ true
        → option_and_then (λ o. background_of o.kind) found
        ≡ Some (unwrap_or (option_and_then (λ o. background_of o.kind) found) 0)
    by None e = absurd (false≢true e)
    by (Some o) e = of_kind o.kind e

pub live_home : (s : Content) (w : IsFormed s) (card : ℕ) → has_kind is_card s card ≡ true
    → has_kind is_background s (home s card) ≡ true
live_home s w card e =
    subst (λ x. IfSome x (λ b. IsTrue (has_kind is_background s b))) (card_home s card e) (w.on_background card)

abbrev pub parts_with : Content → FinMap nat_cmp (List ℕ)
parts_with s = put_option s.parts s.next (Some [])

module _ (s : Content) (w : IsFormed s) where
  -- the next id has no list of parts
  no_list : get s.parts s.next ≡ None
  no_list = by (get s.parts s.next) refl
    where
      by : (found : Option (List ℕ)) → get s.parts s.next ≡ found → found ≡ None
      by None q = refl
      by (Some ids) q = absurd (false≢true
          (sym (ap (passes is_layer) (none_new s w (empty_object Stack))) ∙ (w.layers s.next).0 (ap is_some q)))

  pub get-parts : (y : ℕ) → get (parts_with s) y ≡ cond (nat_eq y s.next) (Some []) (get s.parts y)
  get-parts y = get-put_option nat_cmp_total nat_cmp-IsAntisymmetric s.parts s.next (Some []) y
      ∙ ap (λ b. cond b (Some []) (get s.parts y)) (unsigned_tied y s.next)

  -- so an empty one changes no layer's parts
  pub same_parts : (y : ℕ) → in_map (parts_with s) y ≡ parts_at s y
  same_parts y = ap (λ found. unwrap_or found []) (get-parts y) ∙ by (nat_eq y s.next) refl
    where
      by : (b : Bool) → nat_eq y s.next ≡ b → unwrap_or (cond b (Some []) (get s.parts y)) [] ≡ parts_at s y
      by true q =
          sym (ap (λ z. unwrap_or (get s.parts z) []) (same_id y s.next q) ∙ ap (λ found. unwrap_or found []) no_list)
      by false q = refl

  pub nothing_listed : parts_at s s.next ≡ []
  nothing_listed = ap (λ found. unwrap_or found []) no_list

-- what is one of a background's parts is there
contains-parts_of : (s : Content) (p : Kind → Bool) (background id : ℕ)
    → contains_id id (ids_where s (is_part_of p s background)) ≡ is_part_of p s background id
contains-parts_of s p background id =
    contains-ids_where s (is_part_of p s background) id ∙ by (object_at s id) (contains_id id (parts_at s background))
  where
    by : (found : Option Object) (b : Bool) → (passes p found && b) && is_some found ≡ passes p found && b
    by None b = refl
    by (Some o) b = and-true (p o.kind && b)

-- ---- the stack with a card

abbrev pub with_card : Content → ℕ → ℕ → Content
with_card s background place = record {
  objects = objects_and s (empty_object (Card background false));
  backgrounds = s.backgrounds;
  cards = insert_after place s.next s.cards;
  parts = parts_with s;
  texts = filled_for s.texts (ids_where s (is_part_of is_background_field s background)) s.next [];
  hilites = filled_for s.hilites (ids_where s (is_part_of is_background_button s background)) s.next false;
  next = s.next + 1;
}

module _ (s : Content) (w : IsFormed s) (background place : ℕ) (live : has_kind is_background s background ≡ true)
    (room : has_room_for 1 s ≡ true) where
  abbrev new : Object
  new = empty_object (Card background false)

  abbrev now : Content
  now = with_card s background place

  -- the objects of a kind that no card has
  same_kinds : (p : Kind → Bool) → p (Card background false) ≡ false → has_kind p s ≡ has_kind p now
  same_kinds p e i id = sym (found-as_before s w new (passes p) e id) i

  pub kinds : (p : Kind → Bool) → p (Card background false) ≡ true → (id : ℕ)
      → has_kind p now id ≡ nat_eq id s.next || has_kind p s id
  kinds p e id = found-with s w new (passes p) id ∙ by (nat_eq id s.next)
    where
      by : (b : Bool) → cond b (p (Card background false)) (has_kind p s id) ≡ b || has_kind p s id
      by true = e
      by false = refl

  pub homes : (card : ℕ) → background_at now card ≡ cond (nat_eq card s.next) (Some background) (background_at s card)
  homes card = found-with s w new (option_and_then (λ o. background_of o.kind)) card

  lists : parts_at now ≡ parts_at s
  lists i id = same_parts s w id i

  card_order : NamesEach (has_kind is_card now) now.cards
  card_order = tally-named _ _ (λ id.
      total-insert_after (λ x. one_if (nat_eq x id)) place s.next s.cards
      ∙ (λ i. one_if (nat_eq s.next id) + named-tally (has_kind is_card s) s.cards w.cards id i)
      ∙ by id (nat_eq id s.next) refl
      ∙ ap one_if (sym (kinds is_card refl id)))
    where
      turned : (id : ℕ) (b : Bool) → nat_eq id s.next ≡ b → nat_eq s.next id ≡ b
      turned id b q = grind (arith, nat_tests, q)

      by : (id : ℕ) (b : Bool) → nat_eq id s.next ≡ b
          → one_if (nat_eq s.next id) + one_if (has_kind is_card s id) ≡ one_if (b || has_kind is_card s id)
      by id true q = (λ i. one_if (turned id true q i) + one_if (passes is_card (none_at_new s w new id q i)))
      by id false q = ap (λ b. one_if b + one_if (has_kind is_card s id)) (turned id false q)
          ∙ none_more (one_if (has_kind is_card s id))

  has_layers : (id : ℕ) → is_some (get (parts_with s) id) ≡ has_kind is_layer now id
  has_layers id = ap is_some (get-parts s w id) ∙ by (nat_eq id s.next) ∙ sym (kinds is_layer refl id)
    where
      by : (b : Bool) → is_some (cond b (Some []) (get s.parts id)) ≡ b || has_kind is_layer s id
      by true = refl
      by false = bool_iff _ _ (w.layers id)

  parts_of_cards : NamesEach (has_kind is_card_part now) (flat_map (parts_at now) now.cards)
  parts_of_cards = tally-named _ _ (λ id.
      (λ i. tally id (flat_map (lists i) now.cards))
      ∙ total-flat_map (λ x. one_if (nat_eq x id)) (parts_at s) now.cards
      ∙ total-insert_after (λ y. tally id (parts_at s y)) place s.next s.cards
      ∙ (λ i. tally id (nothing_listed s w i) +
      (sym (total-flat_map (λ x. one_if (nat_eq x id)) (parts_at s) s.cards)
      ∙ named-tally (has_kind is_card_part s) _ w.card_parts id) i)
      ∙ none_more (one_if (has_kind is_card_part s id))
      ∙ ap (λ p. one_if (p id)) (same_kinds is_card_part refl))

  not_zero : (s.next == 0) ≡ false
  not_zero = let low : 3 ≤ s.next = w.next_low in grind (arith, nat_tests)

  -- what a part of a background keeps, by the background of a card
  abbrev kept_on : ℕ → Option ℕ → Bool
  kept_on part found = unwrap_or (option_map (λ b. contains_id part (parts_at s b)) found) false

  no_home_new : background_at s s.next ≡ None
  no_home_new = ap (option_and_then (λ o. background_of o.kind)) (none_new s w new)

  keeps_text-now : (f c : ℕ) → keeps_text now f c
      ≡ cond (nat_eq c s.next) (is_part_of is_background_field s background f) (keeps_text s f c)
  keeps_text-now f c =
      (λ i. (sym (same_kinds is_card_field refl) i f && contains_id f (lists i c)) ||
      (sym (same_kinds is_background_field refl) i f &&
      ((c == 0) || unwrap_or (option_map (λ b. contains_id f (lists i b)) (homes c i)) false)))
      ∙ by (nat_eq c s.next) refl
    where
      by : (b : Bool) → nat_eq c s.next ≡ b
          → (has_kind is_card_field s f && contains_id f (parts_at s c)) ||
          (has_kind is_background_field s f && ((c == 0) || kept_on f (cond b (Some background) (background_at s c))))
          ≡ cond b (is_part_of is_background_field s background f) (keeps_text s f c)
      by true q =
          (λ i. (has_kind is_card_field s f && contains_id f (parts_at s (same_id c s.next q i))) ||
          (has_kind is_background_field s f &&
          ((same_id c s.next q i == 0) || contains_id f (parts_at s background))))
          ∙ (λ i. (has_kind is_card_field s f && contains_id f (nothing_listed s w i)) ||
          (has_kind is_background_field s f && (not_zero i || contains_id f (parts_at s background))))
          ∙ ap (λ b. b || is_part_of is_background_field s background f) (and_false (has_kind is_card_field s f))
      by false q = refl

  keeps_hilite-now : (h c : ℕ) → keeps_hilite now h c
      ≡ cond (nat_eq c s.next) (is_part_of is_background_button s background h) (keeps_hilite s h c)
  keeps_hilite-now h c =
      (λ i. sym (same_kinds is_background_button refl) i h &&
      ((c == 0) || unwrap_or (option_map (λ b. contains_id h (lists i b)) (homes c i)) false))
      ∙ by (nat_eq c s.next) refl
    where
      by : (b : Bool) → nat_eq c s.next ≡ b
          → has_kind is_background_button s h && ((c == 0) || kept_on h (cond b (Some background) (background_at s c)))
          ≡ cond b (is_part_of is_background_button s background h) (keeps_hilite s h c)
      by true q =
          (λ i. has_kind is_background_button s h &&
          ((same_id c s.next q i == 0) || contains_id h (parts_at s background)))
          ∙ (λ i. has_kind is_background_button s h && (not_zero i || contains_id h (parts_at s background)))
      by false q = refl

  no_text : (f : ℕ) → is_some (text_at s f s.next) ≡ false
  no_text f =
      bool_iff _ _ (w.texts f s.next)
      ∙ (λ i. (has_kind is_card_field s f && contains_id f (nothing_listed s w i)) ||
      (has_kind is_background_field s f && (not_zero i || kept_on f (no_home_new i))))
      ∙ (λ i. and_false (has_kind is_card_field s f) i || and_false (has_kind is_background_field s f) i)

  no_hilite : (h : ℕ) → is_some (hilite_at s h s.next) ≡ false
  no_hilite h =
      bool_iff _ _ (w.hilites h s.next)
      ∙ (λ i. has_kind is_background_button s h && (not_zero i || kept_on h (no_home_new i)))
      ∙ and_false (has_kind is_background_button s h)

  texts_there : (f c : ℕ) → is_some (text_at now f c) ≡ keeps_text now f c
  texts_there f c = ap is_some (get-filled_for s.texts (ids_where s (is_part_of is_background_field s background))
      s.next [] (f, c)) ∙ by (nat_eq c s.next) refl ∙ sym (keeps_text-now f c)
    where
      given : (a : Bool) → is_some (cond (a && true) (Some []) (text_at s f s.next)) ≡ a
      given true = refl
      given false = no_text f

      not_given : (a : Bool) → is_some (cond (a && false) (Some []) (text_at s f c)) ≡ is_some (text_at s f c)
      not_given true = refl
      not_given false = refl

      by : (b : Bool) → nat_eq c s.next ≡ b
          → is_some (cond (contains_id f (ids_where s (is_part_of is_background_field s background)) && b) (Some [])
          (text_at s f c)) ≡ cond b (is_part_of is_background_field s background f) (keeps_text s f c)
      by true q = (λ i. is_some (cond (contains-parts_of s is_background_field background f i && true) (Some [])
          (text_at s f (same_id c s.next q i)))) ∙ given (is_part_of is_background_field s background f)
      by false q = not_given (contains_id f (ids_where s (is_part_of is_background_field s background)))
          ∙ bool_iff _ _ (w.texts f c)

  hilites_there : (h c : ℕ) → is_some (hilite_at now h c) ≡ keeps_hilite now h c
  hilites_there h c = ap is_some (get-filled_for s.hilites (ids_where s (is_part_of is_background_button s background))
      s.next false (h, c)) ∙ by (nat_eq c s.next) refl ∙ sym (keeps_hilite-now h c)
    where
      given : (a : Bool) → is_some (cond (a && true) (Some false) (hilite_at s h s.next)) ≡ a
      given true = refl
      given false = no_hilite h

      not_given : (a : Bool) → is_some (cond (a && false) (Some false) (hilite_at s h c)) ≡ is_some (hilite_at s h c)
      not_given true = refl
      not_given false = refl

      by : (b : Bool) → nat_eq c s.next ≡ b
          → is_some (cond (contains_id h (ids_where s (is_part_of is_background_button s background)) && b) (Some false)
          (hilite_at s h c)) ≡ cond b (is_part_of is_background_button s background h) (keeps_hilite s h c)
      by true q = (λ i. is_some (cond (contains-parts_of s is_background_button background h i && true) (Some false)
          (hilite_at s h (same_id c s.next q i)))) ∙ given (is_part_of is_background_button s background h)
      by false q = not_given (contains_id h (ids_where s (is_part_of is_background_button s background)))
          ∙ bool_iff _ _ (w.hilites h c)

  texts_are : (f c : ℕ) → IfSome (text_at now f c) IsText
  texts_are f c = subst (λ x. IfSome x IsText)
      (sym (get-filled_for s.texts (ids_where s (is_part_of is_background_field s background)) s.next [] (f, c)))
      (by (contains_id f (ids_where s (is_part_of is_background_field s background)) && nat_eq c s.next))
    where
      by : (b : Bool) → IfSome (cond b (Some []) (text_at s f c)) IsText
      by true = record { short = omega arith; bytes = search rules }
      by false = w.field_texts f c

  pub card_formed : IsFormed now
  card_formed =
      let fits : (leb (s.next + 1) 1000001 ≡ true) × (leb (object_count s + 1) 10000 ≡ true) =
      both (leb (s.next + 1) 1000001) (leb (object_count s + 1) 10000) room in
      let high : s.next + 1 ≤ 1000001 = leb_yes (subst T (sym fits.0) tt) in
      let more : object_count s + 1 ≤ 10000 = leb_yes (subst T (sym fits.1) tt) in
      let low : 3 ≤ s.next = w.next_low in
      let count : object_count now ≤ object_count s + 1 = count-with s w new in
      let grounds : has_kind is_background s ≡ has_kind is_background now = same_kinds is_background refl in
      record {
        backgrounds = subst (λ p. NamesEach p s.backgrounds) grounds w.backgrounds;
        cards = card_order;
        layers = λ id. iff_bool _ _ (has_layers id);
        card_parts = parts_of_cards;
        background_parts = subst (λ p. NamesEach p (flat_map (parts_at now) s.backgrounds))
            (same_kinds is_background_part refl)
            (subst (λ q. NamesEach (has_kind is_background_part s) (flat_map q s.backgrounds)) (sym lists)
            w.background_parts);
        on_background = λ card. subst (λ p. IfSome (background_at now card) (λ b. IsTrue (p b))) grounds
            (subst (λ x. IfSome x (λ b. IsTrue (has_kind is_background s b))) (sym (homes card))
            (on_live card (nat_eq card s.next)));
        some_background = w.some_background;
        stack = subst (λ p. (id : ℕ) → IsTrue (p id) ↔ (id ≡ 0)) (same_kinds is_stack refl) w.stack;
        ids = ids-with s w new;
        next_low = omega arith;
        next_high = high;
        few = omega arith;
        names = names-with s w new (
          record { short = omega arith; bytes = search rules },
          record { short = omega arith; bytes = search rules },
        );
        texts = λ f c. iff_bool _ _ (texts_there f c);
        field_texts = texts_are;
        hilites = λ h c. iff_bool _ _ (hilites_there h c);
      }
    where
      on_live : (card : ℕ) (b : Bool)
          → IfSome (cond b (Some background) (background_at s card)) (λ x. IsTrue (has_kind is_background s x))
      on_live card true = live
      on_live card false = w.on_background card

  -- a background that had a card has it still
  pub card_kept : (card id : ℕ) → background_at s card ≡ Some id → background_at now card ≡ Some id
  card_kept card id e = homes card ∙ by (nat_eq card s.next) refl
    where
      by : (b : Bool) → nat_eq card s.next ≡ b → cond b (Some background) (background_at s card) ≡ Some id
      by true q =
          absurd (false≢true (ap is_some (sym no_home_new ∙ ap (background_at s) (sym (same_id card s.next q)) ∙ e)))
      by false q = e

  pub has_cards : HasCards s → HasCards now
  has_cards old id h =
      let card = old id (ap (λ p. p id) (same_kinds is_background refl) ∙ h) in (card.0, card_kept card.0 id card.1)

written : (s : Content) (card : ℕ) → put_each s (writes_of_new_card s card) ≡ with_card s (home s card) card
unfolding put
written s card =
    contents_filled
    (record s {
      objects = objects_and s (empty_object (Card (home s card) false));
      cards = insert_after card s.next
          s.cards;
      parts = parts_with s;
      next = s.next + 1;
    })
    (ids_where s (is_part_of is_background_field s (home s card)))
    (ids_where s (is_part_of is_background_button s (home s card)))
    s.next

pub new_card_fits : (s : Content) (card : ℕ) → IsWellFormed s → has_room_for 1 s ≡ true → has_kind is_card s card ≡ true
    → IsWellFormed (put_each s (writes_of_new_card s card))
new_card_fits s card w room e =
    let f = formed s w in
    let live = live_home s f card e in
    subst IsWellFormed (sym (written s card))
    (whole _ (card_formed s f (home s card) card live room)
    (has_cards s f (home s card) card live room w.some_card))

-- the new card is there
pub new_card_is_there : (s : Content) (card : ℕ) → IsWellFormed s → has_room_for 1 s ≡ true
    → has_kind is_card s card ≡ true → has_kind is_card (put_each s (writes_of_new_card s card)) s.next ≡ true
new_card_is_there s card w room e =
    let f = formed s w in
    let itself : nat_eq s.next s.next ≡ true = grind (arith, nat_tests) in
    ap (λ t. has_kind is_card t s.next) (written s card)
    ∙ kinds s f (home s card) card (live_home s f card e) room is_card refl s.next
    ∙ ap (λ b. b || has_kind is_card s s.next) itself

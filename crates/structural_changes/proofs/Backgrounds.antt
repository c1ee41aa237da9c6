-- A stack stays well formed when a background is made, with its card.
use Rattle.std.proofs.Common.{◌≡◌, ℕ, ◌+◌, ◌≤◌, Bool, true, false, cond, ◌&&◌, ◌||◌, ◌==◌, List, [], ◌∷◌, ◌++◌, filter}
use Rattle.std.proofs.Common.{flat_map, length, nat_eq, leb, refl, sym, subst, ap, ◌∙◌, arith, rules, Option, Some}
use Rattle.std.proofs.Common.{None, IsTrue, IfSome, is_some, option_map, option_and_then, unwrap_or, ◌↔◌, T}
use Rattle.std.proofs.Math.Bool.{or-true}
use Rattle.std.proofs.lemmas.Bool.{le-leb}
use Rattle.std.proofs.lemmas.Bool.Decides.{nat_tests}
use Rattle.std.proofs.Math.Facts.{leb_yes}
use Rattle.std.specs.FinMap.{get}
use Rattle.object_table.specs.Content.{Content}
use Rattle.object_table.specs.Empty.{empty_object}
use Rattle.object_table.specs.PartContents.{keeps_text, keeps_hilite}
use Rattle.object_table.specs.Objects.{is_stack, is_background, is_card, is_card_part, is_background_part}
use Rattle.object_table.specs.Objects.{is_card_field, is_background_field, is_background_button, is_layer}
use Rattle.object_table.specs.Objects.{background_of, has_kind, parts_at, contains_id, background_at, object_count}
use Rattle.object_table.specs.WellFormed.{NamesEach, IsWellFormed}
use Rattle.object_table.specs.declared.object.Kind.{Kind}
use Rattle.object_table.specs.declared.object.Kind.TheVariants.{Background, Card}
use Rattle.object_table.specs.declared.object.Object.{Object}
use Rattle.stack_places.specs.Places.{put}
use Rattle.structural_changes.specs.Writes.{put_each, writes_of_new_background, has_room_for, is_part_of, ids_where}
use Rattle.structural_changes.specs.Writes.{insert_after}
use Rattle.structural_changes.proofs.Cards.{parts_with, get-parts, same_parts, nothing_listed, with_card, card_formed}
use Rattle.structural_changes.proofs.Cards.{card_kept, homes, kinds as card_kinds}
use Rattle.structural_changes.proofs.Filled.{filled_for}
use Rattle.structural_changes.proofs.Formed.{IsFormed, HasCards, formed, whole}
use Rattle.structural_changes.proofs.Grown.{objects_and, same_id, none_at_new, found-with, found-as_before, ids-with}
use Rattle.structural_changes.proofs.Grown.{count-with, names-with}
use Rattle.structural_changes.proofs.Parts.{passes, bool_iff, iff_bool, and_false, both}
use Rattle.structural_changes.proofs.Tallies.{one_if, tally, total-append, total-flat_map, named-tally, tally-named}
use Rattle.structural_changes.proofs.Tallies.{itself}

-- the stack with a background, which has no card yet
abbrev pub with_background : Content → Content
with_background s = record s {
  objects = objects_and s (empty_object (Background false));
  backgrounds = s.backgrounds ++ s.next ∷ [];
  parts = parts_with s;
  next = s.next + 1;
}

no_more : (n : ℕ) → n + 0 ≡ n
no_more n = omega arith

one_longer : (xs : List ℕ) (x : ℕ) → 1 ≤ length (xs ++ x ∷ [])
one_longer [] x = omega arith
one_longer (y ∷ xs) x = omega arith

module _ (s : Content) (w : IsFormed s) (room : has_room_for 1 s ≡ true) where
  abbrev new : Object
  new = empty_object (Background false)

  abbrev now : Content
  now = with_background s

  same_kinds : (p : Kind → Bool) → p (Background false) ≡ false → has_kind p s ≡ has_kind p now
  same_kinds p e i id = sym (found-as_before s w new (passes p) e id) i

  pub kinds : (p : Kind → Bool) → p (Background false) ≡ true → (id : ℕ)
      → has_kind p now id ≡ nat_eq id s.next || has_kind p s id
  kinds p e id = found-with s w new (passes p) id ∙ by (nat_eq id s.next)
    where
      by : (b : Bool) → cond b (p (Background false)) (has_kind p s id) ≡ b || has_kind p s id
      by true = e
      by false = refl

  pub same_homes : background_at now ≡ background_at s
  same_homes i card = found-as_before s w new (option_and_then (λ o. background_of o.kind)) refl card i

  pub lists : parts_at now ≡ parts_at s
  lists i id = same_parts s w id i

  background_order : NamesEach (has_kind is_background now) now.backgrounds
  background_order = tally-named _ _ (λ id.
      total-append (λ x. one_if (nat_eq x id)) s.backgrounds (s.next ∷ [])
      ∙ (λ i. named-tally (has_kind is_background s) s.backgrounds w.backgrounds id i + no_more
      (one_if (nat_eq s.next id)) i)
      ∙ by id (nat_eq id s.next) refl
      ∙ ap one_if (sym (kinds is_background refl id)))
    where
      turned : (id : ℕ) (b : Bool) → nat_eq id s.next ≡ b → nat_eq s.next id ≡ b
      turned id b q = grind (arith, nat_tests, q)

      by : (id : ℕ) (b : Bool) → nat_eq id s.next ≡ b
          → one_if (has_kind is_background s id) + one_if (nat_eq s.next id) ≡ one_if (b || has_kind is_background s id)
      by id true q = (λ i. one_if (passes is_background (none_at_new s w new id q i)) + one_if (turned id true q i))
      by id false q = ap (λ b. one_if (has_kind is_background s id) + one_if b) (turned id false q)
          ∙ no_more (one_if (has_kind is_background s id))

  has_layers : (id : ℕ) → is_some (get (parts_with s) id) ≡ has_kind is_layer now id
  has_layers id = ap is_some (get-parts s w id) ∙ by (nat_eq id s.next) ∙ sym (kinds is_layer refl id)
    where
      by : (b : Bool) → is_some (cond b (Some []) (get s.parts id)) ≡ b || has_kind is_layer s id
      by true = refl
      by false = bool_iff _ _ (w.layers id)

  parts_of_backgrounds : NamesEach (has_kind is_background_part now) (flat_map (parts_at now) now.backgrounds)
  parts_of_backgrounds = tally-named _ _ (λ id.
      (λ i. tally id (flat_map (lists i) now.backgrounds))
      ∙ total-flat_map (λ x. one_if (nat_eq x id)) (parts_at s) now.backgrounds
      ∙ total-append (λ y. tally id (parts_at s y)) s.backgrounds (s.next ∷ [])
      ∙ (λ i. (sym (total-flat_map (λ x. one_if (nat_eq x id)) (parts_at s) s.backgrounds)
      ∙ named-tally (has_kind is_background_part s) _ w.background_parts id) i +
      (tally id (nothing_listed s w i) + 0))
      ∙ no_more (one_if (has_kind is_background_part s id))
      ∙ ap (λ p. one_if (p id)) (same_kinds is_background_part refl))

  keeps_texts : (f c : ℕ) → keeps_text now f c ≡ keeps_text s f c
  keeps_texts f c = λ i. (sym (same_kinds is_card_field refl) i f && contains_id f (lists i c)) ||
      (sym (same_kinds is_background_field refl) i f &&
      ((c == 0) || unwrap_or (option_map (λ b. contains_id f (lists i b)) (same_homes i c)) false))

  keeps_hilites : (h c : ℕ) → keeps_hilite now h c ≡ keeps_hilite s h c
  keeps_hilites h c = λ i. sym (same_kinds is_background_button refl) i h &&
      ((c == 0) || unwrap_or (option_map (λ b. contains_id h (lists i b)) (same_homes i c)) false)

  pub background_formed : IsFormed now
  background_formed =
      let fits : (leb (s.next + 1) 1000001 ≡ true) × (leb (object_count s + 1) 10000 ≡ true) =
      both (leb (s.next + 1) 1000001) (leb (object_count s + 1) 10000) room in
      let high : s.next + 1 ≤ 1000001 = leb_yes (subst T (sym fits.0) tt) in
      let more : object_count s + 1 ≤ 10000 = leb_yes (subst T (sym fits.1) tt) in
      let low : 3 ≤ s.next = w.next_low in
      let count : object_count now ≤ object_count s + 1 = count-with s w new in
      record {
        backgrounds = background_order;
        cards = subst (λ p. NamesEach p s.cards) (same_kinds is_card refl) w.cards;
        layers = λ id. iff_bool _ _ (has_layers id);
        card_parts = subst (λ p. NamesEach p (flat_map (parts_at now) s.cards)) (same_kinds is_card_part refl)
            (subst (λ q. NamesEach (has_kind is_card_part s) (flat_map q s.cards)) (sym lists) w.card_parts);
        background_parts = parts_of_backgrounds;
        on_background = λ card. subst (λ q. IfSome (q card) (λ b. IsTrue (has_kind is_background now b)))
            (sym same_homes) (still (background_at s card) (w.on_background card));
        some_background = one_longer s.backgrounds s.next;
        stack = subst (λ p. (id : ℕ) → IsTrue (p id) ↔ (id ≡ 0)) (same_kinds is_stack refl) w.stack;
        ids = ids-with s w new;
        next_low = omega arith;
        next_high = high;
        few = omega arith;
        names = names-with s w new (
          record { short = omega arith; bytes = search rules },
          record { short = omega arith; bytes = search rules },
        );
        texts = λ f c. iff_bool _ _ (bool_iff _ _ (w.texts f c) ∙ sym (keeps_texts f c));
        field_texts = w.field_texts;
        hilites = λ h c. iff_bool _ _ (bool_iff _ _ (w.hilites h c) ∙ sym (keeps_hilites h c));
      }
    where
      still : (found : Option ℕ) → IfSome found (λ b. IsTrue (has_kind is_background s b))
          → IfSome found (λ b. IsTrue (has_kind is_background now b))
      still None h = tt
      still (Some b) h = kinds is_background refl b ∙ ap (λ x. nat_eq b s.next || x) h ∙ or-true (nat_eq b s.next)

-- ---- with its card

filter-none : (p : ℕ → Bool) (xs : List ℕ) → ((x : ℕ) → p x ≡ false) → filter p xs ≡ []
filter-none p [] h = refl
filter-none p (x ∷ xs) h = rw (h x) (filter-none p xs h)

no_parts : (s : Content) (w : IsFormed s) (p : Kind → Bool)
    → ids_where (with_background s) (is_part_of p (with_background s) s.next) ≡ []
no_parts s w p = filter-none _ _
    (λ id. (λ i. has_kind p (with_background s) id && contains_id id ((same_parts s w s.next ∙ nothing_listed s w) i))
    ∙ and_false (has_kind p (with_background s) id))

two : (n : ℕ) → n + 2 ≡ n + 1 + 1
two n = omega arith

written : (s : Content) (w : IsFormed s) (card : ℕ)
    → put_each s (writes_of_new_background s card) ≡ with_card (with_background s) s.next card
unfolding put filled_for
written s w card i = record {
  objects = objects_and (with_background s) (empty_object (Card s.next false));
  backgrounds = s.backgrounds ++ s.next ∷ [];
  cards = insert_after card (s.next + 1) s.cards;
  parts = parts_with (with_background s);
  texts = filled_for s.texts (sym (no_parts s w is_background_field) i) (s.next + 1) [];
  hilites = filled_for s.hilites (sym (no_parts s w is_background_button) i) (s.next + 1) false;
  next = two s.next i;
}

pub new_background_fits : (s : Content) (card : ℕ) → IsWellFormed s → has_room_for 2 s ≡ true
    → IsWellFormed (put_each s (writes_of_new_background s card))
    × (has_kind is_card (put_each s (writes_of_new_background s card)) (s.next + 1) ≡ true)
new_background_fits s card w room = (
  subst IsWellFormed (sym (written s f card))
      (whole _ (card_formed (with_background s) (background_formed s f first) s.next card live second) has),
  ap
      (λ t. has_kind is_card t (s.next + 1)) (written s f card)
      ∙ card_kinds (with_background s) g s.next card live second is_card refl (s.next + 1)
      ∙ ap (λ b. b || has_kind is_card (with_background s) (s.next + 1)) (itself (s.next + 1)),
)
  where
    f : IsFormed s
    f = formed s w

    fits : (leb (s.next + 2) 1000001 ≡ true) × (leb (object_count s + 2) 10000 ≡ true)
    fits = both (leb (s.next + 2) 1000001) (leb (object_count s + 2) 10000) room

    high : s.next + 2 ≤ 1000001
    high = leb_yes (subst T (sym fits.0) tt)

    few : object_count s + 2 ≤ 10000
    few = leb_yes (subst T (sym fits.1) tt)

    first : has_room_for 1 s ≡ true
    first = λ i. le-leb (s.next + 1) 1000001 (let h = high in omega arith) i && le-leb (object_count s + 1) 10000
        (let h = few in omega arith) i

    second : has_room_for 1 (with_background s) ≡ true
    second =
        let count : object_count (with_background s) ≤ object_count s + 1 =
        count-with s f (empty_object (Background false)) in
        λ i. le-leb (s.next + 1 + 1) 1000001 (let h = high in omega arith) i && le-leb
        (object_count (with_background s) + 1) 10000 (let h = few in omega arith) i

    live : has_kind is_background (with_background s) s.next ≡ true
    live = kinds s f first is_background refl s.next ∙ ap (λ b. b || has_kind is_background s s.next) (itself s.next)

    g : IsFormed (with_background s)
    g = background_formed s f first

    -- the new background has the new card
    has : HasCards (with_card (with_background s) s.next card)
    has id h = by (nat_eq id s.next) refl
      where
        before : has_kind is_background (with_background s) id ≡ true
        before = sym (found-as_before (with_background s) g (empty_object (Card s.next false)) (passes is_background)
            refl id) ∙ h

        by : (b : Bool) → nat_eq id s.next ≡ b
            → (c : ℕ) × (background_at (with_card (with_background s) s.next card) c ≡ Some id)
        by true q = (
          s.next + 1,
          homes (with_background s) g s.next card live second (s.next + 1)
              ∙ ap (λ b. cond b (Some s.next) (background_at (with_background s) (s.next + 1))) (itself (s.next + 1))
              ∙ ap (λ x. Some x) (sym (same_id id s.next q)),
        )
        by false q =
            let old = w.some_card id (sym (ap (λ b. b || has_kind is_background s id) q)
            ∙ sym (kinds s f first is_background refl id) ∙ before) in (
              old.0,
              card_kept (with_background s) g s.next card live second old.0 id
                  (ap (λ home. home old.0) (same_homes s f first) ∙ old.1),
            )

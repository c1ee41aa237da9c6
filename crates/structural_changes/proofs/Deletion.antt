-- A stack stays well formed when a card goes, and with the last one its background.
use Rattle.std.proofs.Common.{◌≡◌, ℕ, zero, suc, ◌+◌, ◌≤◌, Bool, true, false, cond, not, ◌&&◌, ◌||◌, ◌==◌, List, []}
use Rattle.std.proofs.Common.{◌∷◌, ◌++◌, filter, flat_map, length, nat_eq, refl, sym, subst, ap, ◌∙◌, arith, Option}
use Rattle.std.proofs.Common.{Some, None, IsTrue, IfSome, is_some, option_map, option_and_then, unwrap_or, ◌↔◌}
use Rattle.std.proofs.Common.{if◌then◌else◌, T}
use Rattle.std.proofs.Math.Bool.{or-true, and-true}
use Rattle.std.proofs.lemmas.Bool.{false≢true, not-false, not-true}
use Rattle.std.proofs.lemmas.Bool.Decides.{nat_tests}
use Rattle.std.proofs.Math.Facts.{leb_yes}
use Rattle.std.specs.Cmp.{nat_cmp_total}
use Rattle.std.specs.FinMap.{get, keys, nat_cmp-IsAntisymmetric}
use Rattle.ht_values.specs.Text.{IsText}
use Rattle.object_table.specs.Content.{Content}
use Rattle.object_table.specs.PartContents.{text_at, hilite_at, keeps_text, keeps_hilite, is_on_background_of}
use Rattle.object_table.specs.Objects.{is_stack, is_background, is_card, is_card_part, is_background_part}
use Rattle.object_table.specs.Objects.{is_card_field, is_background_field, is_background_button, is_layer}
use Rattle.object_table.specs.Objects.{background_of, has_kind, object_at, parts_at, contains_id, background_at}
use Rattle.object_table.specs.Objects.{object_count}
use Rattle.object_table.specs.WellFormed.{NamesEach, IsWellFormed}
use Rattle.object_table.specs.declared.object.Object.{Object}
use Rattle.object_table.specs.declared.object.Kind.{Kind}
use Rattle.object_table.specs.declared.object.Kind.TheVariants.{Stack, Card, BackgroundButton}
use Rattle.object_table.specs.declared.object.Kind.TheVariants.{CardField, BackgroundField}
use Rattle.object_table.proofs.Pairs.{pair_cmp_total, pair_cmp-IsAntisymmetric}
use Rattle.object_table.proofs.Slots.{nat_eq_sym}
use Rattle.stack_places.specs.Places.{put, card_order, background_order, ids}
use Rattle.structural_changes.specs.Writes.{put_each, write, writes_of_deletion, clears_of_deletion, fits_deletion}
use Rattle.structural_changes.specs.Writes.{first_or, behind, following, home, without, is_card_of, is_last_card}
use Rattle.structural_changes.specs.Writes.{goes_as_layer, goes_as_content, ids_where}
use Rattle.structural_changes.proofs.Cards.{card_home, live_home}
use Rattle.structural_changes.proofs.Filled.{cleared, all_cleared, get-cleared_where, len-cleared}
use Rattle.structural_changes.proofs.Formed.{formed}
use Rattle.structural_changes.proofs.Grown.{same_id}
use Rattle.structural_changes.proofs.Leaving.{total-without, total-lost, total-among, and_passes, Apart, card-not}
use Rattle.structural_changes.proofs.Leaving.{background-not, card_part-not, background_part-not, listed_part, not_true}
use Rattle.structural_changes.proofs.Leaving.{all-member, all-fails, neither, only, only_last, only_layer, only_part}
use Rattle.structural_changes.proofs.Leaving.{only_last_part, gone, without_card}
use Rattle.structural_changes.proofs.Parts.{passes, bool_iff, iff_bool, and_false, both, card_is_layer}
use Rattle.structural_changes.proofs.Parts.{background_is_layer}
use Rattle.structural_changes.proofs.Tallies.{one_if, total, tally, total-flat_map, contains-tally, named-tally}
use Rattle.structural_changes.proofs.Tallies.{tally-named, itself}

module _ (s : Content) (w : IsWellFormed s) (c : ℕ) (e : has_kind is_card s c ≡ true) where
  abbrev now : Content
  now = without_card s c

  pub live : has_kind is_background s (home s c) ≡ true
  live = live_home s (formed s w) c e

  found : (id : ℕ) → object_at now id ≡ cond (gone s c id) None (object_at s id)
  found id = get-cleared_where nat_cmp_total nat_cmp-IsAntisymmetric s.objects (gone s c) id

  left : (p : Kind → Bool) (id : ℕ) → has_kind p now id ≡ not (gone s c id) && has_kind p s id
  left p id = ap (passes p) (found id) ∙ by (gone s c id)
    where
      by : (b : Bool) → passes p (cond b None (object_at s id)) ≡ not b && passes p (object_at s id)
      by true = refl
      by false = refl

  homes : (card : ℕ) → background_at now card ≡ cond (gone s c card) None (background_at s card)
  homes card = ap (option_and_then (λ o. background_of o.kind)) (found card) ∙ by (gone s c card)
    where
      by : (b : Bool) → option_and_then (λ o. background_of o.kind) (cond b None (object_at s card))
          ≡ cond b None (background_at s card)
      by true = refl
      by false = refl

  lists : (id : ℕ) → get now.parts id ≡ cond (goes_as_layer s c id) None (get s.parts id)
  lists id = get-cleared_where nat_cmp_total nat_cmp-IsAntisymmetric s.parts (goes_as_layer s c) id

  -- what has a kind of its own isn't among what has another
  module _ (q : Kind → Bool) (id : ℕ) (is : has_kind q s id ≡ true) where
    not_c : Apart is_card q → nat_eq id c ≡ false
    not_c h = not_true (nat_eq id c)
        (λ same. and_passes is_card q h (object_at s id) (ap (has_kind is_card s) (same_id id c same) ∙ e) is)

    not_b : Apart is_background q → nat_eq id (home s c) ≡ false
    not_b h = not_true (nat_eq id (home s c))
        (λ same. and_passes is_background q h (object_at s id)
        (ap (has_kind is_background s) (same_id id (home s c) same) ∙ live) is)

    pub not_of_c : Apart is_card_part q → contains_id id (parts_at s c) ≡ false
    not_of_c h = not_true (contains_id id (parts_at s c))
        (λ member. and_passes is_card_part q h (object_at s id)
        (listed_part s is_card is_card_part s.cards c id w.cards w.card_parts e member) is)

    pub not_of_b : Apart is_background_part q → contains_id id (parts_at s (home s c)) ≡ false
    not_of_b h = not_true (contains_id id (parts_at s (home s c)))
        (λ member. and_passes is_background_part q h (object_at s id)
        (listed_part s is_background is_background_part s.backgrounds (home s c) id w.backgrounds w.background_parts
        live member) is)

  gone-card : (id : ℕ) → has_kind is_card s id ≡ true → gone s c id ≡ nat_eq id c
  gone-card id is =
      (λ i. (nat_eq id c || (is_last_card s c && not_b is_card id is (background-not is_card (λ x. refl)) i)) ||
      (not_of_c is_card id is (card_part-not is_card (λ x y. refl) (λ x y. refl)) i ||
      (is_last_card s c && not_of_b is_card id is (background_part-not is_card (λ x y. refl) (λ x y z. refl)) i)))
      ∙ only (nat_eq id c) (is_last_card s c)

  gone-background : (id : ℕ) → has_kind is_background s id ≡ true
      → gone s c id ≡ is_last_card s c && nat_eq id (home s c)
  gone-background id is =
      (λ i. (not_c is_background id is (card-not is_background (λ x y. refl)) i ||
      (is_last_card s c && nat_eq id (home s c))) ||
      (not_of_c is_background id is (card_part-not is_background (λ x y. refl) (λ x y. refl)) i ||
      (is_last_card s c && not_of_b is_background id is
      (background_part-not is_background (λ x y. refl) (λ x y z. refl)) i)))
      ∙ only_last (is_last_card s c) (nat_eq id (home s c))

  gone-layer : (id : ℕ) → has_kind is_layer s id ≡ true → gone s c id ≡ goes_as_layer s c id
  gone-layer id is =
      (λ i. goes_as_layer s c id || (not_of_c is_layer id is (card_part-not is_layer (λ x y. refl) (λ x y. refl)) i ||
      (is_last_card s c && not_of_b is_layer id is (background_part-not is_layer (λ x y. refl) (λ x y z. refl)) i)))
      ∙ only_layer (goes_as_layer s c id) (is_last_card s c)

  gone-card_part : (id : ℕ) → has_kind is_card_part s id ≡ true → gone s c id ≡ contains_id id (parts_at s c)
  gone-card_part id is =
      (λ i. (not_c is_card_part id is (card-not is_card_part (λ x y. refl)) i ||
      (is_last_card s c && not_b is_card_part id is (background-not is_card_part (λ x. refl)) i)) ||
      (contains_id id (parts_at s c) ||
      (is_last_card s c && not_of_b is_card_part id is
      (background_part-not is_card_part (λ x y. refl) (λ x y z. refl)) i)))
      ∙ only_part (is_last_card s c) (contains_id id (parts_at s c))

  gone-background_part : (id : ℕ) → has_kind is_background_part s id ≡ true
      → gone s c id ≡ is_last_card s c && contains_id id (parts_at s (home s c))
  gone-background_part id is =
      (λ i. (not_c is_background_part id is (card-not is_background_part (λ x y. refl)) i ||
      (is_last_card s c && not_b is_background_part id is (background-not is_background_part (λ x. refl)) i)) ||
      (not_of_c is_background_part id is (card_part-not is_background_part (λ x y. refl) (λ x y. refl)) i ||
      (is_last_card s c && contains_id id (parts_at s (home s c)))))
      ∙ only_last_part (is_last_card s c) (contains_id id (parts_at s (home s c)))

  gone-stack : (id : ℕ) → has_kind is_stack s id ≡ true → gone s c id ≡ false
  gone-stack id is =
      (λ i. (not_c is_stack id is (card-not is_stack (λ x y. refl)) i ||
      (is_last_card s c && not_b is_stack id is (background-not is_stack (λ x. refl)) i)) ||
      (not_of_c is_stack id is (card_part-not is_stack (λ x y. refl) (λ x y. refl)) i ||
      (is_last_card s c && not_of_b is_stack id is (background_part-not is_stack (λ x y. refl) (λ x y z. refl)) i)))
      ∙ only_part (is_last_card s c) false

  -- where it is known what goes of a kind
  left-by : (p : Kind → Bool) (goes : ℕ → Bool) → ((id : ℕ) → has_kind p s id ≡ true → gone s c id ≡ goes id) → (id : ℕ)
      → has_kind p now id ≡ not (goes id) && has_kind p s id
  left-by p goes h id = left p id ∙ by (has_kind p s id) refl
    where
      by : (b : Bool) → has_kind p s id ≡ b → not (gone s c id) && b ≡ not (goes id) && b
      by true q = ap (λ x. not x && true) (h id q)
      by false q = and_false (not (gone s c id)) ∙ sym (and_false (not (goes id)))

  -- ---- orders

  -- an order without a layer that it has
  order_without : (of_layer : Kind → Bool) (order : List ℕ) (y : ℕ) → NamesEach (has_kind of_layer s) order
      → has_kind of_layer s y ≡ true → NamesEach (λ id. not (nat_eq id y) && has_kind of_layer s id) (without y order)
  order_without of_layer order y layers is = tally-named _ _ (λ id.
      total-without (λ x. one_if (nat_eq x id)) y order ∙ by id (has_kind of_layer s id) refl (nat_eq id y) refl)
    where
      rest : ℕ → ℕ
      rest id = total (λ x. cond (nat_eq x y) 0 (one_if (nat_eq x id))) order

      lost : (id : ℕ) → one_if (has_kind of_layer s id)
          ≡ total (λ x. cond (nat_eq x y) 0 (one_if (nat_eq x id))) order + one_if (nat_eq id y)
      lost id =
          let once : tally y order ≤ 1 = (let is_one : tally y order
          ≡ 1 = named-tally (has_kind of_layer s) order layers y ∙ ap one_if is in omega arith) in
          sym (named-tally (has_kind of_layer s) order layers id)
          ∙ total-lost (λ x. one_if (nat_eq x id)) y order once
          ∙ ap (λ b. total (λ x. cond (nat_eq x y) 0 (one_if (nat_eq x id))) order + cond b (one_if (nat_eq y id)) 0)
          (layers.each y ∙ is)
          ∙ ap (λ b. total (λ x. cond (nat_eq x y) 0 (one_if (nat_eq x id))) order + one_if b) (nat_eq_sym y id)

      by : (id : ℕ) (a : Bool) → has_kind of_layer s id ≡ a → (b : Bool) → nat_eq id y ≡ b
          → total (λ x. cond (nat_eq x y) 0 (one_if (nat_eq x id))) order ≡ one_if (not b && a)
      by id true q true z = let sum : 1
          ≡ total (λ x. cond (nat_eq x y) 0 (one_if (nat_eq x id))) order + 1 = sym (ap one_if q) ∙ lost id
          ∙ ap (λ b. total (λ x. cond (nat_eq x y) 0 (one_if (nat_eq x id))) order + one_if b) z in omega arith
      by id true q false z = let sum : 1
          ≡ total (λ x. cond (nat_eq x y) 0 (one_if (nat_eq x id))) order + 0 = sym (ap one_if q) ∙ lost id
          ∙ ap (λ b. total (λ x. cond (nat_eq x y) 0 (one_if (nat_eq x id))) order + one_if b) z in omega arith
      by id false q true z = let sum : 0
          ≡ total (λ x. cond (nat_eq x y) 0 (one_if (nat_eq x id))) order + 1 = sym (ap one_if q) ∙ lost id
          ∙ ap (λ b. total (λ x. cond (nat_eq x y) 0 (one_if (nat_eq x id))) order + one_if b) z in absurd (omega arith)
      by id false q false z = let sum : 0
          ≡ total (λ x. cond (nat_eq x y) 0 (one_if (nat_eq x id))) order + 0 = sym (ap one_if q) ∙ lost id
          ∙ ap (λ b. total (λ x. cond (nat_eq x y) 0 (one_if (nat_eq x id))) order + one_if b) z in omega arith

  parts_now : (y : ℕ) → parts_at now y ≡ cond (goes_as_layer s c y) [] (parts_at s y)
  parts_now y = ap (λ x. unwrap_or x []) (lists y) ∙ by (goes_as_layer s c y)
    where
      by : (b : Bool) → unwrap_or (cond b None (get s.parts y)) [] ≡ cond b [] (parts_at s y)
      by true = refl
      by false = refl

  -- the parts of an order without a layer that goes
  parts_without : (of_layer of_part : Kind → Bool) (order : List ℕ) (y : ℕ) → NamesEach (has_kind of_layer s) order
      → NamesEach (has_kind of_part s) (flat_map (parts_at s) order) → has_kind of_layer s y ≡ true
      → ((z : ℕ) → has_kind of_layer s z ≡ true → goes_as_layer s c z ≡ nat_eq z y)
      → NamesEach (λ id. not (contains_id id (parts_at s y)) && has_kind of_part s id)
      (flat_map (parts_at now) (without y order))
  parts_without of_layer of_part order y layers parts is goes = tally-named _ _ (λ id.
      total-flat_map (λ x. one_if (nat_eq x id)) (parts_at now) (without y order)
      ∙ total-without (λ z. tally id (parts_at now z)) y order
      ∙ total-among (λ z. cond (nat_eq z y) 0 (tally id (parts_at now z)))
      (λ z. cond (nat_eq z y) 0 (tally id (parts_at s z))) order
      (λ z member. same id z (sym (layers.each z) ∙ member))
      ∙ by id (has_kind of_part s id) refl (tally id (parts_at s y)) refl
      ∙ ap (λ b. one_if (not b && has_kind of_part s id)) (sym (contains-tally id (parts_at s y))))
    where
      same : (id z : ℕ) → has_kind of_layer s z ≡ true
          → cond (nat_eq z y) 0 (tally id (parts_at now z)) ≡ cond (nat_eq z y) 0 (tally id (parts_at s z))
      same id z h = ap (λ l. cond (nat_eq z y) 0 (tally id l))
          (parts_now z ∙ ap (λ b. cond b [] (parts_at s z)) (goes z h)) ∙ either (nat_eq z y)
        where
          either : (b : Bool) → cond b 0 (tally id (cond b [] (parts_at s z))) ≡ cond b 0 (tally id (parts_at s z))
          either true = refl
          either false = refl

      lost : (id : ℕ) → one_if (has_kind of_part s id)
          ≡ total (λ z. cond (nat_eq z y) 0 (tally id (parts_at s z))) order + tally id (parts_at s y)
      lost id =
          let once : tally y order ≤ 1 = (let is_one : tally y order
          ≡ 1 = named-tally (has_kind of_layer s) order layers y ∙ ap one_if is in omega arith) in
          sym (sym (total-flat_map (λ x. one_if (nat_eq x id)) (parts_at s) order)
          ∙ named-tally (has_kind of_part s) _ parts id)
          ∙ total-lost (λ z. tally id (parts_at s z)) y order once
          ∙ ap (λ b. total (λ z. cond (nat_eq z y) 0 (tally id (parts_at s z))) order + cond b (tally id (parts_at s y))
          0) (layers.each y ∙ is)

      by : (id : ℕ) (a : Bool) → has_kind of_part s id ≡ a → (n : ℕ) → tally id (parts_at s y) ≡ n
          → total (λ z. cond (nat_eq z y) 0 (tally id (parts_at s z))) order ≡ one_if (not (not (nat_eq n 0)) && a)
      by id true q zero z = let sum : 1
          ≡ total (λ x. cond (nat_eq x y) 0 (tally id (parts_at s x))) order + 0 = sym (ap one_if q) ∙ lost id
          ∙ ap (λ n. total (λ x. cond (nat_eq x y) 0 (tally id (parts_at s x))) order + n) z in omega arith
      by id false q zero z = let sum : 0
          ≡ total (λ x. cond (nat_eq x y) 0 (tally id (parts_at s x))) order + 0 = sym (ap one_if q) ∙ lost id
          ∙ ap (λ n. total (λ x. cond (nat_eq x y) 0 (tally id (parts_at s x))) order + n) z in omega arith
      by id true q (suc n) z =
          let some : nat_eq (suc n) 0 ≡ false = grind (arith, nat_tests) in
          let sum : 1 ≡ total (λ x. cond (nat_eq x y) 0 (tally id (parts_at s x))) order + suc n = sym (ap one_if q)
          ∙ lost id ∙ ap (λ k. total (λ x. cond (nat_eq x y) 0 (tally id (parts_at s x))) order + k) z in
          let none : total (λ x. cond (nat_eq x y) 0 (tally id (parts_at s x))) order ≡ 0 = omega arith in
          none ∙ sym (ap (λ b. one_if (not (not b) && true)) some)
      by id false q (suc n) z = let sum : 0
          ≡ total (λ x. cond (nat_eq x y) 0 (tally id (parts_at s x))) order + suc n = sym (ap one_if q) ∙ lost id
          ∙ ap (λ k. total (λ x. cond (nat_eq x y) 0 (tally id (parts_at s x))) order + k) z in absurd (omega arith)

  goes-card : (z : ℕ) → has_kind is_card s z ≡ true → goes_as_layer s c z ≡ nat_eq z c
  goes-card z is = sym (gone-layer z (as_layer (object_at s z) is)) ∙ gone-card z is
    where
      as_layer : (x : Option Object) → passes is_card x ≡ true → passes is_layer x ≡ true
      as_layer None h = absurd (false≢true h)
      as_layer (Some o) h = card_is_layer o.kind h

  goes-background : (z : ℕ) → has_kind is_background s z ≡ true
      → goes_as_layer s c z ≡ is_last_card s c && nat_eq z (home s c)
  goes-background z is = sym (gone-layer z (as_layer (object_at s z) is)) ∙ gone-background z is
    where
      as_layer : (x : Option Object) → passes is_background x ≡ true → passes is_layer x ≡ true
      as_layer None h = absurd (false≢true h)
      as_layer (Some o) h = background_is_layer o.kind h

  cards_left : NamesEach (has_kind is_card now) now.cards
  cards_left = subst (λ p. NamesEach p (without c s.cards))
      (λ i id. sym (left-by is_card (λ x. nat_eq x c) gone-card id) i) (order_without is_card s.cards c w.cards e)

  parts_of_cards : NamesEach (has_kind is_card_part now) (flat_map (parts_at now) now.cards)
  parts_of_cards = subst (λ p. NamesEach p (flat_map (parts_at now) (without c s.cards)))
      (λ i id. sym (left-by is_card_part (λ x. contains_id x (parts_at s c)) gone-card_part id) i)
      (parts_without is_card is_card_part s.cards c w.cards w.card_parts e goes-card)

  backgrounds_left : (l : Bool) → is_last_card s c ≡ l
      → NamesEach (has_kind is_background now) (if l then without (home s c) s.backgrounds else s.backgrounds)
  backgrounds_left true q = subst (λ p. NamesEach p (without (home s c) s.backgrounds))
      (λ i id. sym (left-by is_background (λ x. nat_eq x (home s c))
      (λ x is. gone-background x is ∙ ap (λ b. b && nat_eq x (home s c)) q) id) i)
      (order_without is_background s.backgrounds (home s c) w.backgrounds live)
  backgrounds_left false q = subst (λ p. NamesEach p s.backgrounds)
      (λ i id. sym (left-by is_background (λ x. false)
      (λ x is. gone-background x is ∙ ap (λ b. b && nat_eq x (home s c)) q) id) i) w.backgrounds

  parts_of_backgrounds : (l : Bool) → is_last_card s c ≡ l
      → NamesEach (has_kind is_background_part now)
      (flat_map (parts_at now) (if l then without (home s c) s.backgrounds else s.backgrounds))
  parts_of_backgrounds true q = subst (λ p. NamesEach p (flat_map (parts_at now) (without (home s c) s.backgrounds)))
      (λ i id. sym (left-by is_background_part (λ x. contains_id x (parts_at s (home s c)))
      (λ x is. gone-background_part x is ∙ ap (λ b. b && contains_id x (parts_at s (home s c))) q) id) i)
      (parts_without is_background is_background_part s.backgrounds (home s c) w.backgrounds w.background_parts live
      (λ z is. goes-background z is ∙ ap (λ b. b && nat_eq z (home s c)) q))
  parts_of_backgrounds false q = tally-named _ _ (λ id.
      total-flat_map (λ x. one_if (nat_eq x id)) (parts_at now) s.backgrounds
      ∙ total-among (λ z. tally id (parts_at now z)) (λ z. tally id (parts_at s z)) s.backgrounds
      (λ z member. ap (tally id) (parts_now z
      ∙ ap (λ b. cond b [] (parts_at s z))
      (goes-background z (sym (w.backgrounds.each z) ∙ member) ∙ ap (λ b. b && nat_eq z (home s c)) q)))
      ∙ sym (total-flat_map (λ x. one_if (nat_eq x id)) (parts_at s) s.backgrounds)
      ∙ named-tally (has_kind is_background_part s) _ w.background_parts id
      ∙ ap one_if
      (sym (left-by is_background_part (λ x. false)
      (λ x is. gone-background_part x is ∙ ap (λ b. b && contains_id x (parts_at s (home s c))) q) id)))

  -- ---- the last card of a background

  home_of_c : background_at s c ≡ Some (home s c)
  home_of_c = card_home s c e

  -- what has a background is a card
  is_a_card : (card b : ℕ) → background_at s card ≡ Some b → has_kind is_card s card ≡ true
  is_a_card card b q = by (object_at s card) q
    where
      of_kind : (k : Kind) → background_of k ≡ Some b → is_card k ≡ true
      of_kind (Card x y) h = refl
      of_kind _ h = absurd (false≢true (ap is_some h))

      by : (x : Option Object) → option_and_then (λ o. background_of o.kind) x ≡ Some b → passes is_card x ≡ true
      by None h = absurd (false≢true (ap is_some h))
      by (Some o) h = of_kind o.kind h

  on_it : (card : ℕ) → background_at s card ≡ Some (home s c) → is_card_of s (home s c) card ≡ true
  on_it card q = ap (λ x. unwrap_or (option_map (λ b. nat_eq b (home s c)) x) false) q ∙ itself (home s c)

  pub it_alone : is_last_card s c ≡ true → (card : ℕ) → background_at s card ≡ Some (home s c) → nat_eq card c ≡ true
  it_alone last card q =
      by (nat_eq card c) (all-member (λ other. nat_eq other c || not (is_card_of s (home s c) other)) s.cards card last
      (w.cards.each card ∙ is_a_card card (home s c) q) ∙ refl)
    where
      by : (b : Bool) → b || not (is_card_of s (home s c) card) ≡ true → b ≡ true
      by true h = refl
      by false h = absurd (false≢true (sym (ap not (on_it card q)) ∙ h))

  another : is_last_card s c ≡ false → (card : ℕ) × ((background_at s card ≡ Some (home s c)) × (nat_eq card c ≡ false))
  another more =
      let other = all-fails (λ x. nat_eq x c || not (is_card_of s (home s c) x)) s.cards more in
      let parts = neither (nat_eq other.0 c) (not (is_card_of s (home s c) other.0)) other.1 in
      (other.0, (on (background_at s other.0) (not-false _ parts.1), parts.0))
    where
      on : (x : Option ℕ) → unwrap_or (option_map (λ b. nat_eq b (home s c)) x) false ≡ true → x ≡ Some (home s c)
      on None h = absurd (false≢true h)
      on (Some b) h = ap (λ x. Some x) (same_id b (home s c) h)

  -- a card that stays has its background still
  stays : (card b : ℕ) → background_at s card ≡ Some b → nat_eq card c ≡ false → background_at now card ≡ Some b
  stays card b q other =
      homes card ∙ ap (λ x. cond x None (background_at s card)) (gone-card card (is_a_card card b q) ∙ other) ∙ q

  -- the background of a card that stays isn't one that goes
  home_stays : (card b : ℕ) → background_at s card ≡ Some b → nat_eq card c ≡ false
      → is_last_card s c && nat_eq b (home s c) ≡ false
  home_stays card b q other = by (is_last_card s c) refl (nat_eq b (home s c)) refl
    where
      by : (l : Bool) → is_last_card s c ≡ l → (x : Bool) → nat_eq b (home s c) ≡ x → l && x ≡ false
      by false h x z = refl
      by true h false z = refl
      by true h true z =
          absurd (false≢true (sym other ∙ it_alone h card (q ∙ ap (λ y. Some y) (same_id b (home s c) z))))

  on_background : (card : ℕ) → IfSome (background_at now card) (λ b. IsTrue (has_kind is_background now b))
  on_background card = subst (λ x. IfSome x (λ b. IsTrue (has_kind is_background now b))) (sym (homes card))
      (by (gone s c card) refl (background_at s card) refl)
    where
      by : (g : Bool) → gone s c card ≡ g → (x : Option ℕ) → background_at s card ≡ x
          → IfSome (cond g None x) (λ b. IsTrue (has_kind is_background now b))
      by true h x q = tt
      by false h None q = tt
      by false h (Some b) q =
          let alive : has_kind is_background s b ≡ true =
          subst (λ x. IfSome x (λ y. IsTrue (has_kind is_background s y))) q (w.on_background card) in
          let other : nat_eq card c ≡ false = sym (gone-card card (is_a_card card b q)) ∙ h in
          left is_background b ∙ (λ i. not ((gone-background b alive ∙ home_stays card b q other) i) && alive i)

  has_cards : (id : ℕ) → IsTrue (has_kind is_background now id) → (card : ℕ) × (background_at now card ≡ Some id)
  has_cards id h =
      let parts = both (not (gone s c id)) (has_kind is_background s id) (sym (left is_background id) ∙ h) in
      let old = w.some_card id parts.1 in
      by old.0 old.1 (sym (gone-background id parts.1) ∙ not-true _ parts.0) (nat_eq old.0 c) refl
    where
      by : (card : ℕ) → background_at s card ≡ Some id → is_last_card s c && nat_eq id (home s c) ≡ false → (b : Bool)
          → nat_eq card c ≡ b → (k : ℕ) × (background_at now k ≡ Some id)
      by card q alive false z = (card, stays card id q z)
      by card q alive true z =
          let same : home s c ≡ id = unsome (sym home_of_c ∙ ap (background_at s) (sym (same_id card c z)) ∙ q) in
          let more : is_last_card s c ≡ false = sym (and-true (is_last_card s c))
          ∙ ap (λ b. is_last_card s c && b) (sym (ap (λ x. nat_eq x (home s c)) (sym same) ∙ itself (home s c)))
          ∙ alive in
          let other = another more in
          (other.0, stays other.0 id (other.1.0 ∙ ap (λ x. Some x) same) other.1.1)
        where
          unsome : {a b : ℕ} → Some a ≡ Some b → a ≡ b
          unsome p = ap (λ x. unwrap_or x 0) p

  -- a second card
  second : (xs : List ℕ) → 2 ≤ length xs → tally c xs ≤ 1 → (d : ℕ) × ((contains_id d xs ≡ true) × (nat_eq d c ≡ false))
  second [] long once = absurd (omega arith)
  second (x ∷ []) long once = absurd (omega arith)
  second (x ∷ y ∷ zs) long once = by (nat_eq x c) refl (nat_eq y c) refl
    where
      here : contains_id x (x ∷ y ∷ zs) ≡ true
      here = ap (λ b. b || contains_id x (y ∷ zs)) (itself x)

      there : contains_id y (x ∷ y ∷ zs) ≡ true
      there = ap (λ b. nat_eq x y || (b || contains_id y zs)) (itself y) ∙ or-true (nat_eq x y)

      by : (a : Bool) → nat_eq x c ≡ a → (b : Bool) → nat_eq y c ≡ b
          → (d : ℕ) × ((contains_id d (x ∷ y ∷ zs) ≡ true) × (nat_eq d c ≡ false))
      by false p b q = (x, (here, p))
      by true p false q = (y, (there, q))
      by true p true q = absurd (let two : 1 + (1 + tally c zs)
          ≤ 1 = subst (λ a. one_if a + (1 + tally c zs) ≤ 1) p
          (subst (λ b. one_if (nat_eq x c) + (one_if b + tally c zs) ≤ 1) q once) in omega arith)

  some_background : 2 ≤ length s.cards → (l : Bool) → is_last_card s c ≡ l
      → 1 ≤ length (if l then without (home s c) s.backgrounds else s.backgrounds)
  some_background many false q = w.some_background
  some_background many true q =
      let once : tally c s.cards ≤ 1 = (let is_one : tally c s.cards
      ≡ 1 = named-tally (has_kind is_card s) s.cards w.cards c ∙ ap one_if e in omega arith) in
      let d = second s.cards many once in
      let is : has_kind is_card s d.0 ≡ true = sym (w.cards.each d.0) ∙ d.1.0 in
      let at : background_at s d.0 ≡ Some (home s d.0) = card_home s d.0 is in
      let alive : has_kind is_background s (home s d.0) ≡ true = live_home s (formed s w) d.0 is in
      let apart : nat_eq (home s d.0) (home s c) ≡ false =
      sym (ap (λ l. l && nat_eq (home s d.0) (home s c)) q) ∙ home_stays d.0 (home s d.0) at d.1.1 in
      not_empty (home s d.0) (without (home s c) s.backgrounds)
      ((order_without is_background s.backgrounds (home s c) w.backgrounds live).each (home s d.0)
      ∙ (λ i. not (apart i) && alive i))
    where
      not_empty : (x : ℕ) (xs : List ℕ) → contains_id x xs ≡ true → 1 ≤ length xs
      not_empty x [] h = absurd (false≢true h)
      not_empty x (y ∷ ys) h = omega arith

  -- ---- texts and hilites

  pub not_zero : (c == 0) ≡ false
  not_zero = not_true (c == 0) (λ z. and_passes is_stack is_card stack_is_no_card (object_at s 0) ((w.stack 0).1 refl)
      (ap (has_kind is_card s) (sym (same_id c 0 z)) ∙ e))
    where
      stack_is_no_card : Apart is_stack is_card
      stack_is_no_card Stack h = refl
      stack_is_no_card _ h = absurd (false≢true h)

  abbrev goes_with : ℕ → ℕ → Bool
  goes_with part k = goes_as_content s c (part, k)

  -- what a card's part keeps
  card_part_keeps : (p : Kind → Bool) → ((k : Kind) → p k ≡ true → is_card_part k ≡ true) → (f k : ℕ)
      → not (goes_with f k) && (has_kind p s f && contains_id f (parts_at s k))
      ≡ has_kind p now f && contains_id f (parts_at now k)
  card_part_keeps p is_part f k = by (has_kind p s f) refl (contains_id f (parts_at s k)) refl
      ∙ ap (λ b. b && contains_id f (parts_at now k)) (sym (left p f))
    where
      parts_of : has_kind p s f ≡ true → has_kind is_card_part s f ≡ true
      parts_of q = at (object_at s f) q
        where
          at : (x : Option Object) → passes p x ≡ true → passes is_card_part x ≡ true
          at None h = absurd (false≢true h)
          at (Some o) h = is_part o.kind h

      member : (b : Bool) → contains_id f (cond b [] (parts_at s k)) ≡ not b && contains_id f (parts_at s k)
      member true = refl
      member false = refl

      same : (kc pc l : Bool) → not (kc || (pc || (l && false))) && true
          ≡ (not pc && true) && (not (kc || (l && false)) && true)
      same true true true = refl
      same true true false = refl
      same true false true = refl
      same true false false = refl
      same false true true = refl
      same false true false = refl
      same false false true = refl
      same false false false = refl

      by : (a : Bool) → has_kind p s f ≡ a → (m : Bool) → contains_id f (parts_at s k) ≡ m
          → not (goes_with f k) && (a && m) ≡ (not (gone s c f) && a) && contains_id f (parts_at now k)
      by false q m z = and_false (not (goes_with f k))
          ∙ sym (ap (λ b. b && contains_id f (parts_at now k)) (and_false (not (gone s c f))))
      by true q false z =
          and_false (not (goes_with f k))
          ∙ sym (ap (λ b. (not (gone s c f) && true) && b)
          (ap (contains_id f) (parts_now k) ∙ member (goes_as_layer s c k)
          ∙ ap (λ b. not (goes_as_layer s c k) && b) z ∙ and_false (not (goes_as_layer s c k)))
          ∙ and_false (not (gone s c f) && true))
      by true q true z =
          let of_b : contains_id f (parts_at s (home s c)) ≡ false =
          not_of_b is_card_part f (parts_of q) (background_part-not is_card_part (λ x y. refl) (λ x y t. refl)) in
          let other : nat_eq k (home s c)
          ≡ false = not_true (nat_eq k (home s c))
          (λ h. false≢true (sym of_b ∙ ap (λ y. contains_id f (parts_at s y)) (sym (same_id k (home s c) h))
          ∙ z)) in
          (λ i. not (nat_eq k c || (contains_id f (parts_at s c) || (is_last_card s c && of_b i))) && true)
          ∙ same (nat_eq k c) (contains_id f (parts_at s c)) (is_last_card s c)
          ∙ sym (λ i. (not (gone-card_part f (parts_of q) i) && true) &&
          (ap (contains_id f) (parts_now k) ∙ member (goes_as_layer s c k)
          ∙ (λ j. not (nat_eq k c || (is_last_card s c && other j)) && z j)) i)

  abbrev on_background_now : ℕ → ℕ → Bool
  on_background_now part k = unwrap_or (option_map (λ b. contains_id part (parts_at now b)) (background_at now k)) false

  on_background-stays : (f k : ℕ) → nat_eq k c ≡ false → on_background_now f k ≡ is_on_background_of s f k
  on_background-stays f k other = by (background_at s k) refl
    where
      on : Option ℕ → Bool
      on x = unwrap_or (option_map (λ b. contains_id f (parts_at now b)) x) false

      nothing : (b : Bool) → unwrap_or (option_map (λ y. contains_id f (parts_at now y)) (cond b None None)) false
          ≡ false
      nothing true = refl
      nothing false = refl

      by : (x : Option ℕ) → background_at s k ≡ x
          → on_background_now f k ≡ unwrap_or (option_map (λ b. contains_id f (parts_at s b)) x) false
      by None q = ap (λ y. unwrap_or (option_map (λ b. contains_id f (parts_at now b)) y) false)
          (homes k ∙ ap (cond (gone s c k) None) q) ∙ nothing (gone s c k)
      by (Some b) q =
          let alive : has_kind is_background s b ≡ true =
          subst (λ x. IfSome x (λ y. IsTrue (has_kind is_background s y))) q (w.on_background k) in
          ap (λ y. unwrap_or (option_map (λ x. contains_id f (parts_at now x)) y) false) (stays k b q other)
          ∙ ap (contains_id f) (parts_now b
          ∙ ap (λ x. cond x [] (parts_at s b)) (goes-background b alive ∙ home_stays k b q other))

  -- what a background's part keeps
  background_part_keeps : (p : Kind → Bool) → ((k : Kind) → p k ≡ true → is_background_part k ≡ true) → (f k : ℕ)
      → not (goes_with f k) && (has_kind p s f && ((k == 0) || is_on_background_of s f k))
      ≡ has_kind p now f && ((k == 0) || on_background_now f k)
  background_part_keeps p is_part f k =
      by (has_kind p s f) refl ∙ ap (λ b. b && ((k == 0) || on_background_now f k)) (sym (left p f))
    where
      parts_of : has_kind p s f ≡ true → has_kind is_background_part s f ≡ true
      parts_of q = at (object_at s f) q
        where
          at : (x : Option Object) → passes p x ≡ true → passes is_background_part x ≡ true
          at None h = absurd (false≢true h)
          at (Some o) h = is_part o.kind h

      never : (a : Bool) → not (a || (false || true)) ≡ false
      never true = refl
      never false = refl

      or_nothing : (a : Bool) → not (a || (false || false)) ≡ not a
      or_nothing true = refl
      or_nothing false = refl

      gone_now : nat_eq k c ≡ true → on_background_now f k ≡ false
      gone_now z = ap (λ y. unwrap_or (option_map (λ b. contains_id f (parts_at now b)) y) false)
          (homes k ∙ ap (λ b. cond b None (background_at s k))
          (gone-card k (ap (has_kind is_card s) (same_id k c z) ∙ e) ∙ z))

      either : (b : Bool) → nat_eq k c ≡ b
          → not b && ((k == 0) || is_on_background_of s f k) ≡ (k == 0) || on_background_now f k
      either true z = sym (λ i. (ap (λ x. x == 0) (same_id k c z) ∙ not_zero) i || gone_now z i)
      either false z = ap (λ b. (k == 0) || b) (sym (on_background-stays f k z))

      by : (a : Bool) → has_kind p s f ≡ a
          → not (goes_with f k) && (a && ((k == 0) || is_on_background_of s f k))
          ≡ (not (gone s c f) && a) && ((k == 0) || on_background_now f k)
      by false q = and_false (not (goes_with f k))
          ∙ sym (ap (λ b. b && ((k == 0) || on_background_now f k)) (and_false (not (gone s c f))))
      by true q =
          (λ i. not (nat_eq k c || (not_of_c is_background_part f (parts_of q)
          (card_part-not is_background_part (λ x y. refl) (λ x y. refl)) i ||
          (is_last_card s c && contains_id f (parts_at s (home s c))))) && ((k == 0) || is_on_background_of s f k))
          ∙ last (is_last_card s c && contains_id f (parts_at s (home s c)))
          ∙ ap (λ b. (not b && true) && ((k == 0) || on_background_now f k)) (sym (gone-background_part f (parts_of q)))
        where
          last : (g : Bool) → not (nat_eq k c || (false || g)) && ((k == 0) || is_on_background_of s f k)
              ≡ (not g && true) && ((k == 0) || on_background_now f k)
          last true = ap (λ b. b && ((k == 0) || is_on_background_of s f k)) (never (nat_eq k c))
          last false = ap (λ b. b && ((k == 0) || is_on_background_of s f k)) (or_nothing (nat_eq k c))
              ∙ either (nat_eq k c) refl

  shared : (g a b : Bool) → not g && (a || b) ≡ (not g && a) || (not g && b)
  shared true a b = refl
  shared false a b = refl

  pub field_of_card : (k : Kind) → is_card_field k ≡ true → is_card_part k ≡ true
  field_of_card (CardField v l) h = refl
  field_of_card _ h = absurd (false≢true h)

  pub field_of_background : (k : Kind) → is_background_field k ≡ true → is_background_part k ≡ true
  field_of_background (BackgroundField v l t) h = refl
  field_of_background _ h = absurd (false≢true h)

  pub button_of_background : (k : Kind) → is_background_button k ≡ true → is_background_part k ≡ true
  button_of_background (BackgroundButton v h) i = refl
  button_of_background _ h = absurd (false≢true h)

  there_unless : {X : Type 0} (b : Bool) (x : Option X) → is_some (cond b None x) ≡ not b && is_some x
  there_unless true x = refl
  there_unless false x = refl

  texts_there : (f k : ℕ) → is_some (text_at now f k) ≡ keeps_text now f k
  texts_there f k =
      ap is_some (get-cleared_where pair_cmp_total pair_cmp-IsAntisymmetric s.texts (goes_as_content s c) (f, k))
      ∙ there_unless (goes_with f k) (text_at s f k)
      ∙ ap (λ b. not (goes_with f k) && b) (bool_iff _ _ (w.texts f k))
      ∙ shared (goes_with f k) (has_kind is_card_field s f && contains_id f (parts_at s k))
      (has_kind is_background_field s f && ((k == 0) || is_on_background_of s f k))
      ∙ (λ i. card_part_keeps is_card_field field_of_card f k i || background_part_keeps is_background_field
      field_of_background f k i)

  hilites_there : (h k : ℕ) → is_some (hilite_at now h k) ≡ keeps_hilite now h k
  hilites_there h k =
      ap is_some (get-cleared_where pair_cmp_total pair_cmp-IsAntisymmetric s.hilites (goes_as_content s c) (h, k))
      ∙ there_unless (goes_with h k) (hilite_at s h k)
      ∙ ap (λ b. not (goes_with h k) && b) (bool_iff _ _ (w.hilites h k))
      ∙ background_part_keeps is_background_button button_of_background h k

  -- ---- the theorem

  if_there : {X : Type 0} (P : X → Type 0) (b : Bool) (x : Option X) → IfSome x P → IfSome (cond b None x) P
  if_there P true x h = tt
  if_there P false x h = h

  has_layers : (id : ℕ) → is_some (get now.parts id) ≡ has_kind is_layer now id
  has_layers id =
      ap is_some (lists id)
      ∙ there_unless (goes_as_layer s c id) (get s.parts id)
      ∙ ap (λ b. not (goes_as_layer s c id) && b) (bool_iff _ _ (w.layers id))
      ∙ sym (left-by is_layer (goes_as_layer s c) gone-layer id)

  pub well_formed : 2 ≤ length s.cards → IsWellFormed now
  well_formed many =
      let count : object_count now ≤ object_count s = len-cleared s.objects (ids_where s (gone s c)) in
      let few : object_count s ≤ 10000 = w.few in
      record {
        backgrounds = backgrounds_left (is_last_card s c) refl;
        cards = cards_left;
        layers = λ id. iff_bool _ _ (has_layers id);
        card_parts = parts_of_cards;
        background_parts = parts_of_backgrounds (is_last_card s c) refl;
        on_background = on_background;
        some_background = some_background many (is_last_card s c) refl;
        some_card = has_cards;
        stack = subst {A = ℕ → Bool} (λ p. (id : ℕ) → IsTrue (p id) ↔ (id ≡ 0))
            (λ i id. sym (left-by is_stack (λ x. false) gone-stack id) i) w.stack;
        ids = λ id there. w.ids id (both _ _
            (sym (there_unless (gone s c id) (object_at s id)) ∙ ap is_some (sym (found id)) ∙ there)).1;
        next_low = w.next_low;
        next_high = w.next_high;
        few = omega arith;
        names = λ id. subst (λ x. IfSome x (λ o. IsText o.name × IsText o.script)) (sym (found id))
            (if_there _ (gone s c id) (object_at s id) (w.names id));
        texts = λ f k. iff_bool _ _ (texts_there f k);
        field_texts = λ f k. subst (λ x. IfSome x IsText)
            (sym (get-cleared_where pair_cmp_total pair_cmp-IsAntisymmetric s.texts (goes_as_content s c) (f, k)))
            (if_there IsText (goes_with f k) (text_at s f k) (w.field_texts f k));
        hilites = λ h k. iff_bool _ _ (hilites_there h k);
      }

written : (s : Content) (card : ℕ) → put_each s (writes_of_deletion s card) ≡ without_card s card
unfolding put
written s card = first (is_last_card s card)
    ∙ rest (record s {
      cards = without card s.cards;
      backgrounds = if is_last_card s card then without (home s card)
          s.backgrounds else s.backgrounds;
    })
  where
    first : (l : Bool) → put_each s
        (write card_order (ids (without card s.cards))
        ∷ (if l then write background_order (ids (without (home s card) s.backgrounds)) ∷ [] else [])
        ++ clears_of_deletion s card) ≡ put_each
        (record s {
          cards = without card s.cards;
          backgrounds = if l then without (home s card) s.backgrounds else
              s.backgrounds;
        }) (clears_of_deletion s card)
    first true = refl
    first false = refl

    rest : (t : Content) → put_each t (clears_of_deletion s card) ≡ record t {
      objects = cleared t.objects (ids_where s (gone s card));
      parts = cleared t.parts (filter (goes_as_layer s card) (keys s.parts));
      texts = cleared t.texts (filter (goes_as_content s card) (keys s.texts));
      hilites = cleared t.hilites (filter (goes_as_content s card) (keys s.hilites));
    }
    rest t = all_cleared t (ids_where s (gone s card)) (filter (goes_as_layer s card) (keys s.parts))
        (filter (goes_as_content s card) (keys s.texts)) (filter (goes_as_content s card) (keys s.hilites))

pub deletion_fits : (s : Content) (card : ℕ) → IsWellFormed s → fits_deletion s ≡ true → has_kind is_card s card ≡ true
    → IsWellFormed (put_each s (writes_of_deletion s card))
deletion_fits s card w fits e =
    subst IsWellFormed (sym (written s card)) (well_formed s w card e (leb_yes (subst T (sym fits) tt)))

-- ---- the card that becomes current

-- behind an id that stands once comes another, or nothing
behind_another : (c : ℕ) (xs : List ℕ) → tally c xs ≤ 1 → (x : ℕ) (rest : List ℕ) → behind c xs ≡ x ∷ rest
    → (contains_id x xs ≡ true) × (nat_eq x c ≡ false)
behind_another c [] once x rest e = absurd (not_nil e)
  where
    is_nil : List ℕ → Bool
    is_nil [] = true
    is_nil (y ∷ ys) = false

    not_nil : [] ≡ x ∷ rest → ⊥
    not_nil p = false≢true (sym (ap is_nil p))
behind_another c (y ∷ ys) once x rest e = by (λ few q. behind_another c ys few x rest q) (nat_eq y c) refl once e
  where
    other : (b : Bool) → nat_eq x c ≡ b → one_if b + tally c rest ≤ 0 → b ≡ false
    other false q few = refl
    other true q few = absurd (omega arith)

    by : (tally c ys ≤ 1 → behind c ys ≡ x ∷ rest → (contains_id x ys ≡ true) × (nat_eq x c ≡ false)) → (b : Bool)
        → nat_eq y c ≡ b → one_if b + tally c ys ≤ 1 → cond b ys (behind c ys) ≡ x ∷ rest
        → (contains_id x (y ∷ ys) ≡ true) × (nat_eq x c ≡ false)
    by again true q few p =
        let none : one_if (nat_eq x c) + tally c rest ≤ 0 = subst (λ l. tally c l ≤ 0) p (omega arith) in (
          ap (λ b. nat_eq y x || b) (ap (contains_id x) p ∙ ap (λ b. b || contains_id x rest) (itself x))
              ∙ or-true (nat_eq y x),
          other (nat_eq x c) refl none,
        )
    by again false q few p = let found = again (let less : 0 + tally c ys ≤ 1 = few in omega arith) p in
        (ap (λ b. nat_eq y x || b) found.0 ∙ or-true (nat_eq y x), found.1)

-- the last of two or more isn't the first
last_of_many : (c : ℕ) (xs : List ℕ) → 2 ≤ length xs → contains_id c xs ≡ true → behind c xs ≡ []
    → (contains_id (first_or c xs) xs ≡ true) × (nat_eq (first_or c xs) c ≡ false)
last_of_many c [] many e q = absurd (omega arith)
last_of_many c (x ∷ xs) many e q = by (nat_eq x c) refl q
  where
    by : (b : Bool) → nat_eq x c ≡ b → cond b xs (behind c xs) ≡ []
        → (contains_id x (x ∷ xs) ≡ true) × (nat_eq x c ≡ false)
    by true p z = absurd (let short : length xs ≡ 0 = ap length z in omega arith)
    by false p z = (ap (λ b. b || contains_id x xs) (itself x), p)

pub another_follows : (c : ℕ) (xs : List ℕ) → tally c xs ≤ 1 → 2 ≤ length xs → contains_id c xs ≡ true
    → (contains_id (following c xs) xs ≡ true) × (nat_eq (following c xs) c ≡ false)
another_follows c xs once many e = by (behind c xs) refl
  where
    by : (l : List ℕ) → behind c xs ≡ l
        → (contains_id (first_or c (l ++ xs)) xs ≡ true) × (nat_eq (first_or c (l ++ xs)) c ≡ false)
    by [] q = last_of_many c xs many e q
    by (x ∷ rest) q = behind_another c xs once x rest q

pub following_is_there : (s : Content) (card : ℕ) → IsWellFormed s → fits_deletion s ≡ true
    → has_kind is_card s card ≡ true
    → has_kind is_card (put_each s (writes_of_deletion s card)) (following card s.cards) ≡ true
following_is_there s card w fits e =
    let once : tally card s.cards ≤
    1 = (let is_one : tally card s.cards ≡ 1 = named-tally (has_kind is_card s) s.cards w.cards card
    ∙ ap one_if e in omega arith) in
    let other = another_follows card s.cards once (leb_yes (subst T (sym fits) tt)) (w.cards.each card ∙ e) in
    let is : has_kind is_card s (following card s.cards) ≡ true =
    sym (w.cards.each (following card s.cards)) ∙ other.0 in
    ap (λ t. has_kind is_card t (following card s.cards)) (written s card)
    ∙ left-by s w card e is_card (λ x. nat_eq x card) (gone-card s w card e) (following card s.cards)
    ∙ (λ i. not (other.1 i) && is i)

-- What goes with a card, as it is found.
use Rattle.std.proofs.Common.{◌≡◌, ℕ, ◌+◌, ◌≤◌, Bool, true, false, cond, not, ◌&&◌, ◌||◌, ◌==◌, List, [], ◌∷◌, ◌++◌}
use Rattle.std.proofs.Common.{filter, flat_map, map, nat_eq, refl, sym, subst, ap, ◌∙◌, arith, Option, Some, None}
use Rattle.std.proofs.Common.{IsTrue, IfSome, is_some, option_map, unwrap_or, if◌then◌else◌}
use Rattle.std.proofs.Math.Bool.{or-true, or-false, and-true}
use Rattle.std.proofs.lemmas.Bool.{false≢true}
use Rattle.std.proofs.lemmas.Bool.Decides.{nat_tests}
use Rattle.std.proofs.lemmas.List.Folds.{list_any-append}
use Rattle.std.specs.FinMap.{get}
use Rattle.std.specs.List.{dedup}
use Rattle.std.specs.List.Sorted.{IsStrictlySortedBy, IsSorted, IsPermutation}
use Rattle.std.specs.Ordering.{eq_by_cmp}
use Rattle.object_table.specs.Content.{Content}
use Rattle.object_table.specs.PartContents.{is_on_background_of, is_kept_for}
use Rattle.object_table.specs.Objects.{is_background, is_card, is_card_part, is_background_part, is_card_field}
use Rattle.object_table.specs.Objects.{is_background_field, is_background_button, is_layer, has_kind, object_at}
use Rattle.object_table.specs.Objects.{parts_at, contains_id, background_at}
use Rattle.object_table.specs.Pairs.{Pair, pair_cmp}
use Rattle.object_table.specs.WellFormed.{NamesEach, IsWellFormed}
use Rattle.object_table.specs.declared.object.Object.{Object}
use Rattle.object_table.specs.declared.object.Kind.{Kind}
use Rattle.object_table.proofs.Listed.{has_kind-weaker}
use Rattle.object_table.proofs.Pairs.{same_pair, pair_cmp_total, pair_cmp-IsAntisymmetric, pair_tied}
use Rattle.object_table.proofs.Slots.{nat_eq_sym}
use Rattle.ht_values.specs.declared.word.PartKind.{PartKind}
use Rattle.ht_values.specs.declared.word.PartKind.TheVariants.{Button, Field}
use Rattle.structural_changes.specs.Prepared.{has_content, pairs_kept}
use Rattle.structural_changes.specs.Writes.{home, is_last_card, goes_as_layer, goes_as_part, goes_as_content}
use Rattle.structural_changes.proofs.Ascending.{has, sorted_once, ascending_keys}
use Rattle.structural_changes.proofs.Cards.{card_home}
use Rattle.structural_changes.proofs.Deletion.{live}
use Rattle.structural_changes.proofs.Leaving.{total-lost, and_passes, card_part-not, listed_part, gone}
use Rattle.structural_changes.proofs.Deletion.{it_alone, not_zero, field_of_card, field_of_background}
use Rattle.structural_changes.proofs.Deletion.{button_of_background}
use Rattle.structural_changes.proofs.Filled.{any-filter}
use Rattle.structural_changes.proofs.Grown.{same_id}
use Rattle.structural_changes.proofs.Parts.{passes, bool_iff, and_false, both}
use Rattle.structural_changes.proofs.Tallies.{one_if, total, tally, total-flat_map, contains-tally, named-tally}
use Rattle.structural_changes.proofs.Tallies.{one_member, at_most_one}

implied : (a b : Bool) → (a ≡ true → b ≡ true) → a ≡ a && b
implied true b h = sym (h refl)
implied false b h = refl

or_assoc : (a b c : Bool) → (a || b) || c ≡ a || (b || c)
or_assoc true b c = refl
or_assoc false b c = refl

one_of : (a b : Bool) → a || b ≡ true → (P : Type 0) → (a ≡ true → P) → (b ≡ true → P) → P
one_of true b e P f g = f refl
one_of false b e P f g = g e

there : (p : Kind → Bool) (s : Content) (id : ℕ) → has_kind p s id ≡ true → is_some (object_at s id) ≡ true
there p s id = by (object_at s id)
  where
    by : (found : Option Object) → passes p found ≡ true → is_some found ≡ true
    by None e = absurd (false≢true e)
    by (Some o) e = refl

-- ---- one layer for each part

member-tally : (id : ℕ) (xs : List ℕ) → contains_id id xs ≡ true → 1 ≤ tally id xs
member-tally id xs e = by (nat_eq (tally id xs) 0) refl (sym (contains-tally id xs) ∙ e)
  where
    by : (b : Bool) → nat_eq (tally id xs) 0 ≡ b → not b ≡ true → 1 ≤ tally id xs
    by true q h = absurd (false≢true h)
    by false q h = grind (arith, nat_tests, q)

one_layer : (s : Content) (of_layer of_part : Kind → Bool) (order : List ℕ) → NamesEach (has_kind of_layer s) order
    → NamesEach (has_kind of_part s) (flat_map (parts_at s) order) → (y z id : ℕ) → has_kind of_layer s y ≡ true
    → has_kind of_layer s z ≡ true → contains_id id (parts_at s y) ≡ true → contains_id id (parts_at s z) ≡ true
    → nat_eq z y ≡ true
one_layer s of_layer of_part order layers parts y z id is_y is_z in_y in_z = by (nat_eq z y) refl
  where
    by : (b : Bool) → nat_eq z y ≡ b → b ≡ true
    by true q = refl
    by false q = absurd (
        let others : ℕ → ℕ = λ x. cond (nat_eq x y) 0 (tally id (parts_at s x)) in
        let once : tally y order ≤ 1 = (let is_one : tally y order
        ≡ 1 = named-tally (has_kind of_layer s) order layers y ∙ ap one_if is_y in omega arith) in
        let sum : total (λ x. tally id (parts_at s x)) order
        ≡ one_if (has_kind of_part s id) = sym (total-flat_map (λ x. one_if (nat_eq x id)) (parts_at s) order)
        ∙ named-tally (has_kind of_part s) _ parts id in
        let few : one_if (has_kind of_part s id) ≤ 1 = at_most_one (has_kind of_part s id) in
        let lost : total (λ x. tally id (parts_at s x)) order
        ≡ total others order + tally id (parts_at s y) = total-lost (λ x. tally id (parts_at s x)) y order once
        ∙ ap (λ b. total others order + cond b (tally id (parts_at s y)) 0) (layers.each y ∙ is_y) in
        let more : others z ≤ total others order = one_member others z order (layers.each z ∙ is_z) in
        let same : others z ≡ tally id (parts_at s z) = ap (λ b. cond b 0 (tally id (parts_at s z))) q in
        let first : 1 ≤ tally id (parts_at s y) = member-tally id (parts_at s y) in_y in
        let second : 1 ≤ tally id (parts_at s z) = member-tally id (parts_at s z) in_z in
        omega arith)

-- ---- pairs

has-pairs : (k : ℕ) (parts : List ℕ) (q : Pair)
    → has pair_cmp q (map (λ part. (part, k)) parts) ≡ nat_eq q.1 k && contains_id q.0 parts
has-pairs k [] q = sym (and_false (nat_eq q.1 k))
has-pairs k (part ∷ parts) q =
    (λ i. (pair_tied q (part, k) ∙ ap (λ b. b && nat_eq q.1 k) (nat_eq_sym q.0 part)) i || has-pairs k parts q i)
    ∙ by (nat_eq part q.0) (nat_eq q.1 k) (contains_id q.0 parts)
  where
    by : (a b m : Bool) → (a && b) || (b && m) ≡ b && (a || m)
    by true true m = refl
    by true false m = refl
    by false b m = refl

has-kept : (t : Pair → Bool) (k : ℕ) (parts : List ℕ) (q : Pair)
    → has pair_cmp q (filter t (map (λ part. (part, k)) parts)) ≡ t q && (nat_eq q.1 k && contains_id q.0 parts)
has-kept t k parts q = any-filter pair_cmp_total pair_cmp-IsAntisymmetric q t (map (λ part. (part, k)) parts)
    ∙ ap (λ b. t q && b) (has-pairs k parts q)

contains-if : (id : ℕ) (l : Bool) (xs : List ℕ) → contains_id id (if l then xs else []) ≡ l && contains_id id xs
contains-if id true xs = refl
contains-if id false xs = refl

-- a part of the card or of its background keeps something for the card, a part of the background that goes for 0
found_goes : (k p h l z : Bool) → (k ≡ true → p || h ≡ true) → (p ≡ true → k ≡ true) → (l && h ≡ true → k || z ≡ true)
    → ((k && p) || (k && h)) || (z && (l && h)) ≡ k || (p || (l && h))
found_goes true true h l z a b d = refl
found_goes true false true l z a b d = refl
found_goes true false false l z a b d = absurd (false≢true (a refl))
found_goes false true h l z a b d = absurd (false≢true (b refl))
found_goes false false true true true a b d = refl
found_goes false false true true false a b d = absurd (false≢true (d refl))
found_goes false false true false z a b d = and_false z
found_goes false false false true z a b d = and_false z
found_goes false false false false z a b d = and_false z

if_kept : (t k p h l z : Bool) → (t ≡ true → ((k && p) || (k && h)) || (z && (l && h)) ≡ k || (p || (l && h)))
    → ((t && (k && p)) || (t && (k && h))) || (t && (z && (l && h))) ≡ (k || (p || (l && h))) && t
if_kept true k p h l z e = e refl ∙ sym (and-true (k || (p || (l && h))))
if_kept false k p h l z e = sym (and_false (k || (p || (l && h))))

-- what these parts keep for a card, or for 0
abbrev pub kept : Content → PartKind → List ℕ → ℕ → List Pair
kept s kind parts k = filter (has_content kind s) (map (λ part. (part, k)) parts)

module _ (s : Content) (w : IsWellFormed s) (c : ℕ) (e : has_kind is_card s c ≡ true) where
  -- ---- layers and objects

  layers_found : (id : ℕ) → contains_id id (c ∷ (if is_last_card s c then home s c ∷ [] else [])) ≡ goes_as_layer s c id
  layers_found id = (λ i. nat_eq_sym c id i ||
      (contains-if id (is_last_card s c) (home s c ∷ [])
      ∙ ap (λ b. is_last_card s c && b) (or-false (nat_eq (home s c) id) ∙ nat_eq_sym (home s c) id)) i)

  goes_is_layer : (id : ℕ) → goes_as_layer s c id ≡ true → has_kind is_layer s id ≡ true
  goes_is_layer id h = one_of (nat_eq id c) (is_last_card s c && nat_eq id (home s c)) h (has_kind is_layer s id ≡ true)
      (λ q. has_kind-weaker is_card is_layer s id (λ k a. ap (λ b. is_background k || b) a ∙ or-true (is_background k))
      (ap (has_kind is_card s) (same_id id c q) ∙ e))
      (λ q. has_kind-weaker is_background is_layer s id (λ k a. ap (λ b. b || is_card k) a)
      (ap (has_kind is_background s) (same_id id (home s c) (both _ _ q).1) ∙ live s w c e))

  pub found_layers : (id : ℕ) → contains_id id (c ∷ (if is_last_card s c then home s c ∷ [] else []))
      ≡ goes_as_layer s c id && is_some (get s.parts id)
  found_layers id = layers_found id
      ∙ implied (goes_as_layer s c id) (is_some (get s.parts id)) (λ h. bool_iff _ _ (w.layers id) ∙ goes_is_layer id h)

  part_of_c : (id : ℕ) → contains_id id (parts_at s c) ≡ true → has_kind is_card_part s id ≡ true
  part_of_c id member = listed_part s is_card is_card_part s.cards c id w.cards w.card_parts e member

  part_of_b : (id : ℕ) → contains_id id (parts_at s (home s c)) ≡ true → has_kind is_background_part s id ≡ true
  part_of_b id member = listed_part s is_background is_background_part s.backgrounds (home s c) id w.backgrounds
      w.background_parts (live s w c e) member

  goes_is_there : (id : ℕ) → gone s c id ≡ true → is_some (object_at s id) ≡ true
  goes_is_there id h = one_of (goes_as_layer s c id) (goes_as_part s c id) h (is_some (object_at s id) ≡ true)
      (λ q. there is_layer s id (goes_is_layer id q))
      (λ q. one_of (contains_id id (parts_at s c)) (is_last_card s c && contains_id id (parts_at s (home s c))) q
      (is_some (object_at s id) ≡ true)
      (λ m. there is_card_part s id (part_of_c id m))
      (λ m. there is_background_part s id (part_of_b id (both _ _ m).1)))

  pub found_objects : (id : ℕ) → contains_id id
      (((c ∷ (if is_last_card s c then home s c ∷ [] else [])) ++ parts_at s c)
      ++ (if is_last_card s c then parts_at s (home s c) else [])) ≡ gone s c id && is_some (object_at s id)
  found_objects id =
      let layers : List ℕ = c ∷ (if is_last_card s c then home s c ∷ [] else []) in
      list_any-append (λ n. n == id) (layers ++ parts_at s c) (if is_last_card s c then parts_at s (home s c) else [])
      ∙ (λ i. (list_any-append (λ n. n == id) layers (parts_at s c)
      ∙ ap (λ b. b || contains_id id (parts_at s c)) (layers_found id)) i || contains-if id (is_last_card s c)
      (parts_at s (home s c)) i)
      ∙ or_assoc (goes_as_layer s c id) (contains_id id (parts_at s c))
      (is_last_card s c && contains_id id (parts_at s (home s c)))
      ∙ implied (gone s c id) (is_some (object_at s id)) (goes_is_there id)

  -- ---- texts and hilites

  of_kind : (p q : Kind → Bool) → ((k : Kind) → p k ≡ true → q k ≡ true) → (id : ℕ) → has_kind p s id ≡ true
      → has_kind q s id ≡ true
  of_kind p q weaker id h = has_kind-weaker p q s id weaker h

  not_both : (id : ℕ) → has_kind is_card_part s id ≡ true → has_kind is_background_part s id ≡ true → ⊥
  not_both id h k = and_passes is_card_part is_background_part
      (card_part-not is_background_part (λ x y. refl) (λ x y. refl)) (object_at s id) h k

  -- what holds a part is a layer
  holds : (id k : ℕ) → contains_id id (parts_at s k) ≡ true → has_kind is_background s k || has_kind is_card s k ≡ true
  holds id k member = by (object_at s k) (sym (bool_iff _ _ (w.layers k)) ∙ listed (get s.parts k) member)
    where
      listed : (found : Option (List ℕ)) → contains_id id (unwrap_or found []) ≡ true → is_some found ≡ true
      listed None h = absurd (false≢true h)
      listed (Some l) h = refl

      by : (found : Option Object) → passes is_layer found ≡ true
          → passes is_background found || passes is_card found ≡ true
      by None h = h
      by (Some o) h = h

  -- a card's part that stands on the card keeps something for it alone
  of_card : (p : Kind → Bool) → ((k : Kind) → p k ≡ true → is_card_part k ≡ true) → (f k : ℕ)
      → has_kind p s f && contains_id f (parts_at s k) ≡ true → contains_id f (parts_at s c) ≡ true → nat_eq k c ≡ true
  of_card p is_part f k h on_c =
      let parts = both (has_kind p s f) (contains_id f (parts_at s k)) h in
      let card_part : has_kind is_card_part s f ≡ true = of_kind p is_card_part is_part f parts.0 in
      one_of (has_kind is_background s k) (has_kind is_card s k) (holds f k parts.1) (nat_eq k c ≡ true)
      (λ q. absurd (not_both f card_part
      (listed_part s is_background is_background_part s.backgrounds k f w.backgrounds w.background_parts q
      parts.1)))
      (λ q. one_layer s is_card is_card_part s.cards w.cards w.card_parts c k f e q on_c parts.1)

  on_home : (f : ℕ) → is_on_background_of s f c ≡ contains_id f (parts_at s (home s c))
  on_home f = ap (λ x. unwrap_or (option_map (λ b. contains_id f (parts_at s b)) x) false) (card_home s c e)

  -- a part that stands on the background of the last card keeps something for that card and for 0
  of_background : (f k : ℕ) → is_kept_for s f k ≡ true → is_last_card s c ≡ true
      → contains_id f (parts_at s (home s c)) ≡ true → nat_eq k c || nat_eq k 0 ≡ true
  of_background f k h last on_b = one_of (k == 0) (is_on_background_of s f k) h (nat_eq k c || nat_eq k 0 ≡ true)
      (λ q. ap (λ b. nat_eq k c || b) q ∙ or-true (nat_eq k c))
      (λ q. by (background_at s k) refl q)
    where
      by : (x : Option ℕ) → background_at s k ≡ x
          → unwrap_or (option_map (λ b. contains_id f (parts_at s b)) x) false ≡ true → nat_eq k c || nat_eq k 0 ≡ true
      by None at q = absurd (false≢true q)
      by (Some b) at q =
          let alive : has_kind is_background s b ≡ true =
          subst (λ x. IfSome x (λ y. IsTrue (has_kind is_background s y))) at (w.on_background k) in
          let same : nat_eq b (home s c) ≡ true = one_layer s is_background is_background_part s.backgrounds
          w.backgrounds w.background_parts (home s c) b f (live s w c e) alive on_b q in
          ap (λ x. x || nat_eq k 0) (it_alone s w c e last k (at ∙ ap (λ y. Some y) (same_id b (home s c) same)))

  -- for the card a part keeps something only on it or on its background
  for_card : (f k : ℕ) → is_kept_for s f k ≡ true → nat_eq k c ≡ true → contains_id f (parts_at s (home s c)) ≡ true
  for_card f k h q = one_of (k == 0) (is_on_background_of s f k) h (contains_id f (parts_at s (home s c)) ≡ true)
      (λ z. absurd (false≢true (sym (ap (λ x. x == 0) (same_id k c q) ∙ not_zero s w c e) ∙ z)))
      (λ z. sym (on_home f) ∙ ap (is_on_background_of s f) (sym (same_id k c q)) ∙ z)

  abbrev Facts : ℕ → ℕ → Type 0
  Facts f k = (nat_eq k c ≡ true → contains_id f (parts_at s c) || contains_id f (parts_at s (home s c)) ≡ true)
      × (contains_id f (parts_at s c) ≡ true → nat_eq k c ≡ true)
      × (is_last_card s c && contains_id f (parts_at s (home s c)) ≡ true → nat_eq k c || nat_eq k 0 ≡ true)

  card_facts : (p : Kind → Bool) → ((k : Kind) → p k ≡ true → is_card_part k ≡ true) → (f k : ℕ)
      → has_kind p s f && contains_id f (parts_at s k) ≡ true → Facts f k
  card_facts p is_part f k h =
      let parts = both (has_kind p s f) (contains_id f (parts_at s k)) h in (
        λ q. ap (λ b. b || contains_id f (parts_at s (home s c)))
            (ap (λ x. contains_id f (parts_at s x)) (sym (same_id k c q)) ∙ parts.1),
        λ q. of_card p is_part f k h q,
        λ q. absurd (not_both f (of_kind p is_card_part is_part f parts.0) (part_of_b f (both _ _ q).1)),
      )

  background_facts : (p : Kind → Bool) → ((k : Kind) → p k ≡ true → is_background_part k ≡ true) → (f k : ℕ)
      → has_kind p s f && is_kept_for s f k ≡ true → Facts f k
  background_facts p is_part f k h =
      let parts = both (has_kind p s f) (is_kept_for s f k) h in (
        λ q. ap (λ b. contains_id f (parts_at s c) || b) (for_card f k parts.1 q)
            ∙ or-true (contains_id f (parts_at s c)),
        λ q. absurd (not_both f (part_of_c f q) (of_kind p is_background_part is_part f parts.0)),
        λ q. let gone_with = both (is_last_card s c) (contains_id f (parts_at s (home s c))) q in of_background f k
            parts.1 gone_with.0 gone_with.1,
      )

  facts : (kind : PartKind) (q : Pair) → has_content kind s q ≡ true → Facts q.0 q.1
  facts Field q h = one_of (has_kind is_card_field s q.0 && contains_id q.0 (parts_at s q.1))
      (has_kind is_background_field s q.0 && is_kept_for s q.0 q.1) (sym (bool_iff _ _ (w.texts q.0 q.1)) ∙ h)
      (Facts q.0 q.1)
      (λ k. card_facts is_card_field (field_of_card s w c e) q.0 q.1 k)
      (λ k. background_facts is_background_field (field_of_background s w c e) q.0 q.1 k)
  facts Button q h = background_facts is_background_button (button_of_background s w c e) q.0 q.1
      (sym (bool_iff _ _ (w.hilites q.0 q.1)) ∙ h)

  pub found_contents : (kind : PartKind) (q : Pair)
      → has pair_cmp q ((kept s kind (parts_at s c) c ++ kept s kind (parts_at s (home s c)) c)
      ++ kept s kind (if is_last_card s c then parts_at s (home s c) else []) 0)
      ≡ goes_as_content s c q && has_content kind s q
  found_contents kind q =
      let t : Pair → Bool = has_content kind s in
      let on_card : List ℕ = parts_at s c in
      let on_background : List ℕ = parts_at s (home s c) in
      let going : List ℕ = if is_last_card s c then on_background else [] in
      list_any-append (eq_by_cmp pair_cmp q) (kept s kind on_card c ++ kept s kind on_background c)
      (kept s kind going 0)
      ∙ (λ i. (list_any-append (eq_by_cmp pair_cmp q) (kept s kind on_card c) (kept s kind on_background c)
      ∙ (λ j. has-kept t c on_card q j || has-kept t c on_background q j)) i ||
      (has-kept t 0 going q ∙ ap (λ b. t q && (nat_eq q.1 0 && b))
      (contains-if q.0 (is_last_card s c) on_background)) i)
      ∙ if_kept (t q) (nat_eq q.1 c) (contains_id q.0 on_card) (contains_id q.0 on_background) (is_last_card s c)
      (nat_eq q.1 0) (λ h. let f = facts kind q h in found_goes (nat_eq q.1 c) (contains_id q.0 on_card)
      (contains_id q.0 on_background) (is_last_card s c) (nat_eq q.1 0) f.0 f.1 f.2)

  -- pairs that were sorted, each once, are those that go
  pub sorted_contents : (kind : PartKind) (found sorted : List Pair)
      → ((q : Pair) → has pair_cmp q found ≡ goes_as_content s c q && has_content kind s q) → IsPermutation found sorted
      → IsSorted pair_cmp sorted → dedup same_pair sorted ≡ filter (goes_as_content s c) (pairs_kept kind s)
  sorted_contents kind found sorted is moved ascend = by kind is
    where
      once : IsStrictlySortedBy pair_cmp (dedup same_pair sorted)
          × ((z : Pair) → has pair_cmp z (dedup same_pair sorted) ≡ has pair_cmp z found)
      once = sorted_once pair_cmp_total pair_cmp-IsAntisymmetric same_pair (λ x y. sym (pair_tied x y)) found sorted
          moved ascend

      by : (k : PartKind) → ((q : Pair) → has pair_cmp q found ≡ goes_as_content s c q && has_content k s q)
          → dedup same_pair sorted ≡ filter (goes_as_content s c) (pairs_kept k s)
      by Field each = ascending_keys pair_cmp_total pair_cmp-IsAntisymmetric s.texts (goes_as_content s c)
          (dedup same_pair sorted) once.0 (λ q. once.1 q ∙ each q)
      by Button each = ascending_keys pair_cmp_total pair_cmp-IsAntisymmetric s.hilites (goes_as_content s c)
          (dedup same_pair sorted) once.0 (λ q. once.1 q ∙ each q)

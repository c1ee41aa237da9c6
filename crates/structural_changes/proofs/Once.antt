-- No place stands twice among what a change writes.
use Rattle.std.proofs.Common.{◌≡◌, ℕ, ◌+◌, Bool, true, false, ◌&&◌, ◌||◌, List, [], ◌∷◌, ◌++◌, filter, map, nat_eq}
use Rattle.std.proofs.Common.{refl, sym, ap, ◌∙◌, arith, Option, Some, None, is_some, option_map, option_and_then}
use Rattle.std.proofs.Common.{unwrap_or, if◌then◌else◌}
use Rattle.std.proofs.lemmas.Bool.{false≢true}
use Rattle.std.proofs.lemmas.Bool.Decides.{nat_tests}
use Rattle.std.proofs.lemmas.Map.Keys.{IsDistinct-from_sorted}
use Rattle.std.specs.Cmp.{nat_cmp_total, unsigned_tied}
use Rattle.std.specs.FinMap.{FinMap, keys, nat_cmp-IsAntisymmetric}
use Rattle.std.specs.List.{AllByRecursion, IsDistinct}
use Rattle.std.specs.Ordering.{eq_by_cmp, nat_cmp}
use Rattle.object_table.specs.Content.{Content}
use Rattle.object_table.specs.Layers.{layer_id}
use Rattle.object_table.specs.Objects.{background_of, contains_id, is_stack, object_at}
use Rattle.object_table.specs.Pairs.{Pair, PairMap, pair_cmp}
use Rattle.object_table.specs.WellFormed.{IsWellFormed}
use Rattle.object_table.specs.declared.object.Object.{Object}
use Rattle.object_table.specs.declared.object.Kind.{Kind}
use Rattle.object_table.specs.declared.object.Kind.TheVariants.{Card}
use Rattle.object_table.specs.declared.object.LayerId.{LayerId}
use Rattle.object_table.specs.declared.object.LayerId.TheVariants.{OfBackground, OfCard}
use Rattle.object_table.proofs.Pairs.{pair_cmp_total, pair_cmp-IsAntisymmetric, pair_tied}
use Rattle.ht_values.specs.declared.word.PartKind.{PartKind}
use Rattle.ht_values.specs.declared.word.PartKind.TheVariants.{Button, Field}
use Rattle.stack_places.specs.Places.{button_hilite, card_order, background_order, field_text, ids, layer_parts}
use Rattle.stack_places.specs.Places.{logical, next_id, text, whole}
use Rattle.structural_changes.specs.Writes.{StackWrite, at_one_place, clear, clears_of_deletion, empty_texts}
use Rattle.structural_changes.specs.Writes.{false_hilites, goes_as_content, goes_as_layer, goes_as_part, home}
use Rattle.structural_changes.specs.Writes.{ids_where, is_card_of, is_last_card, is_part_of, keeps, kept_for, without}
use Rattle.structural_changes.specs.Writes.{write, writes_of_deletion, writes_of_new_background, writes_of_new_card}
use Rattle.structural_changes.specs.Writes.{writes_of_new_part}
use Rattle.structural_changes.proofs.Ascending.{keys_where_ascend}
use Rattle.structural_changes.proofs.Filled.{contains-ids_where}
use Rattle.structural_changes.proofs.Parts.{and_false, passes}
use Rattle.structural_changes.proofs.Prepared.{all-append}

-- writes of which none is at a place of another
abbrev Once : List StackWrite → Type 0
Once = IsDistinct at_one_place

-- a write at none of these places
abbrev Beside : StackWrite → List StackWrite → Type 0
Beside w = AllByRecursion (λ v. at_one_place w v ≡ false)

once-cons : (w : StackWrite) (ws : List StackWrite) → Beside w ws → Once ws → Once (w ∷ ws)
unfolding IsDistinct
once-cons w ws beside once = (beside, once)

beside-each : {X : Type 0} (w : StackWrite) (f : X → StackWrite) → ((x : X) → at_one_place w (f x) ≡ false)
    → (xs : List X) → Beside w (map f xs)
beside-each w f apart [] = tt
beside-each w f apart (x ∷ xs) = (apart x, beside-each w f apart xs)

each-beside : {X Y : Type 0} (f : X → StackWrite) (g : Y → StackWrite)
    → ((x : X) (y : Y) → at_one_place (f x) (g y) ≡ false) → (xs : List X) (ys : List Y)
    → AllByRecursion (λ w. Beside w (map g ys)) (map f xs)
each-beside f g apart [] ys = tt
each-beside f g apart (x ∷ xs) ys = (beside-each (f x) g (apart x) ys, each-beside f g apart xs ys)

once-append : (ws vs : List StackWrite) → Once ws → Once vs → AllByRecursion (λ w. Beside w vs) ws → Once (ws ++ vs)
unfolding IsDistinct
once-append [] vs one two apart = two
once-append (w ∷ ws) vs one two apart =
    (all-append (λ v. at_one_place w v ≡ false) ws vs one.0 apart.0, once-append ws vs one.1 two apart.1)

all-mapped : {X : Type 0} (E : X → X → Bool) (f : X → StackWrite)
    → ((x y : X) → E x y ≡ false → at_one_place (f x) (f y) ≡ false) → (x : X) (xs : List X)
    → AllByRecursion (λ y. E x y ≡ false) xs → Beside (f x) (map f xs)
all-mapped E f apart x [] h = tt
all-mapped E f apart x (y ∷ ys) h = (apart x y h.0, all-mapped E f apart x ys h.1)

-- places by what differs
once-map : {X : Type 0} (E : X → X → Bool) (f : X → StackWrite)
    → ((x y : X) → E x y ≡ false → at_one_place (f x) (f y) ≡ false) → (xs : List X) → IsDistinct E xs → Once (map f xs)
unfolding IsDistinct
once-map E f apart [] h = tt
once-map E f apart (x ∷ xs) h = (all-mapped E f apart x xs h.0, once-map E f apart xs h.1)

-- ---- ids and pairs that stand once

abbrev same_id : ℕ → ℕ → Bool
same_id = eq_by_cmp nat_cmp

ids_once : {X : Type 0} (m : FinMap nat_cmp X) (p : ℕ → Bool) → IsDistinct same_id (filter p (keys m))
ids_once m p =
    IsDistinct-from_sorted nat_cmp (filter p (keys m)) (keys_where_ascend nat_cmp_total nat_cmp-IsAntisymmetric m p)

pairs_once : {X : Type 0} (m : PairMap X) (p : Pair → Bool) → IsDistinct (eq_by_cmp pair_cmp) (filter p (keys m))
pairs_once m p =
    IsDistinct-from_sorted pair_cmp (filter p (keys m)) (keys_where_ascend pair_cmp_total pair_cmp-IsAntisymmetric m p)

other_id : (x y : ℕ) → same_id x y ≡ false → nat_eq x y ≡ false
other_id x y h = sym (unsigned_tied x y) ∙ h

texts_once : (field : ℕ) (cards : List ℕ) → IsDistinct same_id cards → Once (empty_texts field cards)
texts_once field cards once = once-map same_id (λ card. write (field_text field card) (text []))
    (λ x y h. ap (λ b. nat_eq field field && b) (other_id x y h) ∙ and_false (nat_eq field field)) cards once

hilites_once : (button : ℕ) (cards : List ℕ) → IsDistinct same_id cards → Once (false_hilites button cards)
hilites_once button cards once = once-map same_id (λ card. write (button_hilite button card) (logical false))
    (λ x y h. ap (λ b. nat_eq button button && b) (other_id x y h) ∙ and_false (nat_eq button button)) cards once

-- ---- a new part

not_in : (x : ℕ) (xs : List ℕ) → contains_id x xs ≡ false → AllByRecursion (λ y. same_id x y ≡ false) xs
not_in x [] h = tt
not_in x (y ∷ ys) h = by (λ k. not_in x ys k) (nat_eq y x) refl h
  where
    by : (contains_id x ys ≡ false → AllByRecursion (λ z. same_id x z ≡ false) ys) → (b : Bool) → nat_eq y x ≡ b
        → b || contains_id x ys ≡ false → AllByRecursion (λ z. same_id x z ≡ false) (y ∷ ys)
    by rest true q k = absurd (false≢true (sym k))
    by rest false q k =
        (unsigned_tied x y ∙ (let other : nat_eq x y ≡ false = grind (arith, nat_tests, q) in other), rest k)

-- the stack is no card
no_card : (s : Content) → IsWellFormed s → (background : ℕ) → is_card_of s background 0 ≡ false
no_card s w background = by (object_at s 0) ((w.stack 0).1 refl)
  where
    of_kind : (k : Kind) → is_stack k ≡ true
        → unwrap_or (option_map (λ b. nat_eq b background) (background_of k)) false ≡ false
    of_kind (Card b c) h = absurd (false≢true h)
    of_kind _ h = refl

    by : (found : Option Object) → passes is_stack found ≡ true
        → unwrap_or (option_map (λ b. nat_eq b background) (option_and_then (λ o. background_of o.kind) found)) false
        ≡ false
    by None h = absurd (false≢true h)
    by (Some o) h = of_kind o.kind h

kept_once : (s : Content) → IsWellFormed s → (layer : LayerId) → IsDistinct same_id (kept_for s layer)
unfolding IsDistinct
kept_once s w (OfCard card) = (tt, tt)
kept_once s w (OfBackground background) = (
  not_in 0 (ids_where s (is_card_of s background))
      (contains-ids_where s (is_card_of s background) 0
      ∙ ap (λ b. b && is_some (object_at s 0)) (no_card s w background)),
  ids_once s.objects (is_card_of s background),
)

pub new_part_once : (s : Content) (layer : LayerId) (kind : PartKind) → IsWellFormed s
    → Once (writes_of_new_part s layer kind)
unfolding IsDistinct
new_part_once s layer Field w =
    let cards = kept_for s layer in
    let f : ℕ → StackWrite = λ card. write (field_text s.next card) (text []) in (
      (refl, (refl, beside-each (clear next_id) f (λ x. refl) cards)),
      (
        (refl, beside-each (clear (whole s.next)) f (λ x. refl) cards),
        (
          beside-each (clear (layer_parts (layer_id layer))) f (λ x. refl) cards,
          texts_once s.next cards
              (kept_once s w layer),
        ),
      ),
    )
new_part_once s (OfBackground background) Button w =
    let cards = kept_for s (OfBackground background) in
    let f : ℕ → StackWrite = λ card. write (button_hilite s.next card) (logical false) in (
      (refl, (refl, beside-each (clear next_id) f (λ x. refl) cards)),
      (
        (refl, beside-each (clear (whole s.next)) f (λ x. refl) cards),
        (
          beside-each (clear (layer_parts background)) f (λ x. refl) cards,
          hilites_once s.next cards
              (kept_once s w (OfBackground background)),
        ),
      ),
    )
new_part_once s (OfCard card) Button w = ((refl, (refl, tt)), ((refl, tt), (tt, tt)))

-- ---- a new card and a new background

pub new_card_once : (s : Content) (card : ℕ) → Once (writes_of_new_card s card)
unfolding IsDistinct
new_card_once s card =
    let fields : List ℕ = ids_where s (is_part_of (keeps Field) s (home s card)) in
    let buttons : List ℕ = ids_where s (is_part_of (keeps Button) s (home s card)) in
    let f : ℕ → StackWrite = λ field. write (field_text field s.next) (text []) in
    let g : ℕ → StackWrite = λ button. write (button_hilite button s.next) (logical false) in
    let texts : Once (map f fields) = once-map same_id f (λ x y h. ap (λ b. b && nat_eq s.next s.next) (other_id x y h))
    fields (ids_once s.objects (is_part_of (keeps Field) s (home s card))) in
    let hilites : Once (map g buttons) = once-map same_id g
    (λ x y h. ap (λ b. b && nat_eq s.next s.next) (other_id x y h)) buttons
    (ids_once s.objects (is_part_of (keeps Button) s (home s card))) in
    let contents : Once (map f fields ++ map g buttons) =
    once-append (map f fields) (map g buttons) texts hilites (each-beside f g (λ x y. refl) fields buttons) in
    let beside : (w : StackWrite) → ((x : ℕ) → at_one_place w (f x) ≡ false) → ((x : ℕ) → at_one_place w (g x) ≡ false)
    → Beside w (map f fields ++ map g buttons) = λ w h k. all-append (λ v. at_one_place w v ≡ false) (map f fields)
    (map g buttons) (beside-each w f h fields) (beside-each w g k buttons) in (
      (refl, (refl, (refl, beside (clear next_id) (λ x. refl) (λ x. refl)))),
      (
        (refl, (refl, beside (clear (whole s.next)) (λ x. refl) (λ x. refl))),
        (
          (refl, beside (clear card_order) (λ x. refl) (λ x. refl)),
          (beside (clear (layer_parts s.next)) (λ x. refl) (λ x. refl), contents),
        ),
      ),
    )

pub new_background_once : (s : Content) (card : ℕ) → Once (writes_of_new_background s card)
unfolding IsDistinct
new_background_once s card =
    let other : nat_eq s.next (s.next + 1) ≡ false = grind (arith, nat_tests) in (
      (refl, (refl, (refl, (refl, (refl, (refl, tt)))))),
      (
        (other, (refl, (refl, (refl, (refl, tt))))),
        (
          (refl, (refl, (refl, (refl, tt)))),
          ((refl, (refl, (refl, tt))), ((refl, (refl, tt)), ((other, tt), (tt, tt)))),
        ),
      ),
    )

-- ---- a card that goes

pub deletion_once : (s : Content) (card : ℕ) → Once (writes_of_deletion s card)
deletion_once s card = by (is_last_card s card)
  where
    whole_of : ℕ → StackWrite
    whole_of id = clear (whole id)

    layer_of : ℕ → StackWrite
    layer_of id = clear (layer_parts id)

    text_of : Pair → StackWrite
    text_of p = clear (field_text p.0 p.1)

    hilite_of : Pair → StackWrite
    hilite_of p = clear (button_hilite p.0 p.1)

    gone : List ℕ
    gone = ids_where s (λ id. goes_as_layer s card id || goes_as_part s card id)

    layers : List ℕ
    layers = filter (goes_as_layer s card) (keys s.parts)

    texts : List Pair
    texts = filter (goes_as_content s card) (keys s.texts)

    hilites : List Pair
    hilites = filter (goes_as_content s card) (keys s.hilites)

    other_pair : (p q : Pair) → eq_by_cmp pair_cmp p q ≡ false → nat_eq p.0 q.0 && nat_eq p.1 q.1 ≡ false
    other_pair p q h = sym (pair_tied p q) ∙ h

    layers_too : Once (map whole_of gone ++ map layer_of layers)
    layers_too = once-append (map whole_of gone) (map layer_of layers)
        (once-map same_id whole_of other_id gone
        (ids_once s.objects (λ id. goes_as_layer s card id || goes_as_part s card id)))
        (once-map same_id layer_of other_id layers (ids_once s.parts (goes_as_layer s card)))
        (each-beside whole_of layer_of (λ x y. refl) gone layers)

    texts_too : Once (map whole_of gone ++ map layer_of layers ++ map text_of texts)
    texts_too = once-append (map whole_of gone ++ map layer_of layers) (map text_of texts) layers_too
        (once-map (eq_by_cmp pair_cmp) text_of other_pair texts (pairs_once s.texts (goes_as_content s card)))
        (all-append (λ w. Beside w (map text_of texts)) (map whole_of gone) (map layer_of layers)
        (each-beside whole_of text_of (λ x y. refl) gone texts)
        (each-beside layer_of text_of (λ x y. refl) layers texts))

    all_cleared : Once (clears_of_deletion s card)
    all_cleared =
        once-append (map whole_of gone ++ map layer_of layers ++ map text_of texts) (map hilite_of hilites) texts_too
        (once-map (eq_by_cmp pair_cmp) hilite_of other_pair hilites (pairs_once s.hilites (goes_as_content s card)))
        (all-append (λ w. Beside w (map hilite_of hilites)) (map whole_of gone ++ map layer_of layers)
        (map text_of texts)
        (all-append (λ w. Beside w (map hilite_of hilites)) (map whole_of gone) (map layer_of layers)
        (each-beside whole_of hilite_of (λ x y. refl) gone hilites)
        (each-beside layer_of hilite_of (λ x y. refl) layers hilites))
        (each-beside text_of hilite_of (λ x y. refl) texts hilites))

    beside : (w : StackWrite) → ((x : ℕ) → at_one_place w (whole_of x) ≡ false)
        → ((x : ℕ) → at_one_place w (layer_of x) ≡ false) → ((x : Pair) → at_one_place w (text_of x) ≡ false)
        → ((x : Pair) → at_one_place w (hilite_of x) ≡ false) → Beside w (clears_of_deletion s card)
    beside w a b c d =
        all-append (λ v. at_one_place w v ≡ false) (map whole_of gone ++ map layer_of layers ++ map text_of texts)
        (map hilite_of hilites)
        (all-append (λ v. at_one_place w v ≡ false) (map whole_of gone ++ map layer_of layers) (map text_of texts)
        (all-append (λ v. at_one_place w v ≡ false) (map whole_of gone) (map layer_of layers)
        (beside-each w whole_of a gone) (beside-each w layer_of b layers))
        (beside-each w text_of c texts))
        (beside-each w hilite_of d hilites)

    after_cards : Beside (clear card_order) (clears_of_deletion s card)
    after_cards = beside (clear card_order) (λ x. refl) (λ x. refl) (λ x. refl) (λ x. refl)

    after_backgrounds : Beside (clear background_order) (clears_of_deletion s card)
    after_backgrounds = beside (clear background_order) (λ x. refl) (λ x. refl) (λ x. refl) (λ x. refl)

    cards : StackWrite
    cards = write card_order (ids (without card s.cards))

    backgrounds : StackWrite
    backgrounds = write background_order (ids (without (home s card) s.backgrounds))

    by : (l : Bool) → Once (write card_order (ids (without card s.cards))
        ∷ (if l then write background_order (ids (without (home s card) s.backgrounds)) ∷ [] else [])
        ++ clears_of_deletion s card)
    by true = once-cons cards (backgrounds ∷ clears_of_deletion s card) (refl, after_cards)
        (once-cons backgrounds (clears_of_deletion s card) after_backgrounds all_cleared)
    by false = once-cons cards (clears_of_deletion s card) after_cards all_cleared

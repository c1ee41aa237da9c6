-- What a well-formed stack lists is a document, of the same objects and lists of parts.
use Rattle.std.proofs.Common.{◌≡◌, ◌++◌, inl, inr, ℕ, ◌+◌, ◌≤◌, Bool, false, true≢false, List, [], ◌∷◌, map, Option}
use Rattle.std.proofs.Common.{Some, None, IsSome, IsTrue, unwrap_or, option_map, refl, sym, ap, ap₂, subst, ◌∙◌, arith}
use Rattle.std.proofs.Common.{◌==◌, ◌<◌, true, cond, length, IfSome, option_and_then, nat_eq, eqb, ◌||◌, find}
use Rattle.std.specs.Cmp.{nat_cmp_total}
use Rattle.std.specs.FinMap.{get, same_map, get-from_entries, nat_cmp-IsAntisymmetric, len, remove}
use Rattle.std.specs.List.{AllByRecursion, flat_map, IsDistinct}
use Rattle.std.proofs.lemmas.Bool.{or_left, or_right, or_cases, cases_eq, eqb-true, eq-eqb}
use Rattle.std.proofs.lemmas.Bool.Decides.{nat_tests}
use Rattle.std.proofs.lemmas.Simd.{map-map}
use Rattle.std.proofs.lemmas.List.{map-id, length-map}
use Rattle.ht_values.specs.Text.{IsText}
use Rattle.object_table.specs.Content.{Content}
use Rattle.object_table.specs.Objects.{is_stack, is_background, is_card, is_card_part, is_background_part, is_layer}
use Rattle.object_table.specs.Objects.{has_kind, parts_at, background_of as background_named}
use Rattle.object_table.specs.WellFormed.{IsWellFormed, NamesEach}
use Rattle.object_table.specs.declared.object.Object.{Object}
use Rattle.object_table.specs.declared.object.Kind.{Kind}
use Rattle.object_table.specs.declared.object.Kind.TheVariants.{Stack, Background, Card, CardButton, CardField}
use Rattle.object_table.specs.declared.object.Kind.TheVariants.{BackgroundButton, BackgroundField}
use Rattle.object_table.proofs.Empty.{no_bytes}
use Rattle.object_table.proofs.Listed.{has_kind-weaker}
use Rattle.object_table.specs.PartContents.{text_at}
use Rattle.stack_text.specs.Document.{Document, contains_id, part_ids, sheet_ids, ids_in, Sheet, parts_of}
use Rattle.stack_text.specs.Document.{background_or, backgrounds_of}
use Rattle.stack_text.specs.Listing.{part_of, background_sheet, card_sheet, document_of, part_entry, object_entries}
use Rattle.stack_text.specs.Listing.{parts_entry, all_objects, all_parts, content_of, object_or, content_by, keeping_of}
use Rattle.stack_text.specs.declared.sheets.Part.{Part}
use Rattle.stack_text.proofs.Elements.{each_append, each_so, each_both, each_map, each_join, each_at}
use Rattle.stack_text.proofs.Entries.{keys, agrees, len_without_first, times, times-append, times_some, some_times}
use Rattle.stack_text.proofs.Entries.{times_none, times_once, once_times}
use Rattle.stack_text.proofs.DocumentIds.{keys-objects, keys-parts, times-ids, with_stack_once}
use Rattle.stack_text.proofs.Listable.{parts_on, IsBackgroundSheet, IsCardSheet, IsDocument, IsNamed, Suits}
use Rattle.stack_text.proofs.Listable.{IsBackgroundPart, IsCardPart, Keeps}
use Rattle.stack_text.proofs.Live.{backgrounds_live, cards_live, background_parts_live, card_parts_live, list_of_layer}
use Rattle.stack_text.proofs.Live.{layer_cases, passes, each_member, card_background}
use Rattle.stack_text.proofs.Forms.{Pairs}

-- The ids of a stack's document are the stack's.
module _ (s : Content) where
  pub parts-listed : (card : ℕ) (ids : List ℕ) → part_ids (map (part_of s card) ids) ≡ ids
  parts-listed card ids = map-map (λ p. p.id) (part_of s card) ids ∙ map-id ids

  pub backgrounds-listed : (ids : List ℕ) → sheet_ids (map (background_sheet s) ids) ≡ ids
  backgrounds-listed ids = map-map (λ b. b.id) (background_sheet s) ids ∙ map-id ids

  pub cards-listed : (ids : List ℕ) → sheet_ids (map (card_sheet s) ids) ≡ ids
  cards-listed ids = map-map (λ c. c.id) (card_sheet s) ids ∙ map-id ids

  sheet_parts-listed : (f : ℕ → Sheet) → ((id : ℕ) → part_ids (f id).parts ≡ parts_at s id) → (ids : List ℕ)
      → parts_on (map f ids) ≡ flat_map (parts_at s) ids
  sheet_parts-listed f is [] = refl
  sheet_parts-listed f is (id ∷ ids) = ap₂ (λ these rest. these ++ rest) (is id) (sheet_parts-listed f is ids)

  pub times-listed : (q : ℕ) → times q (ids_in (document_of s))
      ≡ times q s.backgrounds + times q (flat_map (parts_at s) s.backgrounds) + times q s.cards + times q
      (flat_map (parts_at s) s.cards)
  times-listed q = times-ids q (document_of s)
      ∙ rw (
        backgrounds-listed s.backgrounds,
        sheet_parts-listed (background_sheet s)
            (λ id. parts-listed 0 (parts_at s id)) s.backgrounds,
        cards-listed s.cards,
        sheet_parts-listed (card_sheet s)
            (λ id. parts-listed id (parts_at s id)) s.cards,
      ) refl

-- an object that is there, as its document has it
there : (p : Kind → Bool) (o : Option Object) → IsTrue (unwrap_or (option_map (λ x. p x.kind) o) false)
    → o ≡ Some (unwrap_or o (record { name = []; script = []; kind = Stack }))
there p None h = absurd (true≢false (sym h))
there p (Some o) h = refl

module _ (s : Content) (is : IsWellFormed s) where
  parts_are : (p : Kind → Bool) (card : ℕ) (ids : List ℕ) → AllByRecursion (λ id. IsTrue (has_kind p s id)) ids
      → AllByRecursion (λ e. get s.objects e.0 ≡ Some e.1) (map part_entry (map (part_of s card) ids))
  parts_are p card ids h =
      each_map _ part_entry _ (each_map _ (part_of s card) ids (each_so (λ id k. there p (get s.objects id) k) ids h))

  backgrounds_are : AllByRecursion (λ e. get s.objects e.0 ≡ Some e.1)
      (flat_map object_entries (map (background_sheet s) s.backgrounds))
  backgrounds_are = each_join _ object_entries _
      (each_map _ (background_sheet s) s.backgrounds
      (each_both
      (λ id h k. (there is_background (get s.objects id) h, parts_are is_background_part 0 (parts_at s id) k))
      s.backgrounds (backgrounds_live s is) (background_parts_live s is)))

  cards_are : AllByRecursion (λ e. get s.objects e.0 ≡ Some e.1) (flat_map object_entries (map (card_sheet s) s.cards))
  cards_are = each_join _ object_entries _
      (each_map _ (card_sheet s) s.cards
      (each_both (λ id h k. (there is_card (get s.objects id) h, parts_are is_card_part id (parts_at s id) k)) s.cards
      (cards_live s is) (card_parts_live s is)))

  -- each object that the document lists is the stack's
  objects_are : AllByRecursion (λ e. get s.objects e.0 ≡ Some e.1) (all_objects (document_of s))
  objects_are = (
    there is_stack (get s.objects 0) ((is.stack 0).1 refl),
    each_append _ (flat_map object_entries (map (background_sheet s) s.backgrounds))
        (flat_map object_entries (map (card_sheet s) s.cards)) backgrounds_are cards_are,
  )

  lists_of_backgrounds : AllByRecursion (λ (e : ℕ × List ℕ). get s.parts e.0 ≡ Some e.1)
      (map parts_entry (map (background_sheet s) s.backgrounds))
  lists_of_backgrounds = each_map _ parts_entry _
      (each_map _ (background_sheet s) s.backgrounds
      (each_so (λ id h. list_of_layer s is id
      (has_kind-weaker is_background is_layer s id (λ k b. or_left (is_background k) (is_card k) b) h)
      ∙ ap Some (sym (parts-listed s 0 (parts_at s id)))) s.backgrounds (backgrounds_live s is)))

  lists_of_cards : AllByRecursion (λ (e : ℕ × List ℕ). get s.parts e.0 ≡ Some e.1)
      (map parts_entry (map (card_sheet s) s.cards))
  lists_of_cards = each_map _ parts_entry _
      (each_map _ (card_sheet s) s.cards
      (each_so (λ id h. list_of_layer s is id
      (has_kind-weaker is_card is_layer s id (λ k c. or_right (is_background k) (is_card k) c) h)
      ∙ ap Some (sym (parts-listed s id (parts_at s id)))) s.cards (cards_live s is)))

  -- and so is each list of parts
  lists_are : AllByRecursion (λ e. get s.parts e.0 ≡ Some e.1) (all_parts (document_of s))
  lists_are = each_append _ (map parts_entry (map (background_sheet s) s.backgrounds))
      (map parts_entry (map (card_sheet s) s.cards)) lists_of_backgrounds lists_of_cards

  -- an object that is in the stack is in its document
  by_kind : (q : ℕ) (o : Object) (k : Kind) → get s.objects q ≡ Some o → o.kind ≡ k
      → IsTrue (contains_id q (0 ∷ ids_in (document_of s)))
  by_kind q o k e l = go k (λ p. rw (e, l) refl)
    where
      listed : 1 ≤ times q (ids_in (document_of s)) → IsTrue (contains_id q (0 ∷ ids_in (document_of s)))
      listed h = or_right (0 == q) (contains_id q (ids_in (document_of s))) (some_times q (ids_in (document_of s)) h)

      go : (x : Kind) → ((p : Kind → Bool) → has_kind p s q ≡ p x) → IsTrue (contains_id q (0 ∷ ids_in (document_of s)))
      go Stack has = or_left (0 == q) (contains_id q (ids_in (document_of s)))
          (let zero_it : q ≡ 0 = (is.stack q).0 (has is_stack) in grind (arith, nat_tests))
      go (Background c) has = listed (omega
          (arith, times-listed s q, times_some q s.backgrounds (is.backgrounds.each q ∙ has is_background)))
      go (Card b c) has = listed (omega (arith, times-listed s q, times_some q s.cards (is.cards.each q ∙ has is_card)))
      go (CardButton v h) has = listed
          (omega (
            arith,
            times-listed s q,
            times_some q (flat_map (parts_at s) s.cards)
                (is.card_parts.each q ∙ has is_card_part),
          ))
      go (CardField v h) has = listed
          (omega (
            arith,
            times-listed s q,
            times_some q (flat_map (parts_at s) s.cards)
                (is.card_parts.each q ∙ has is_card_part),
          ))
      go k has = listed
          (omega (
            arith,
            times-listed s q,
            times_some q (flat_map (parts_at s) s.backgrounds)
                (is.background_parts.each q ∙ has is_background_part),
          ))

  in_document : (q : ℕ) (o : Option Object) → get s.objects q ≡ o → IsSome o
      → IsTrue (contains_id q (0 ∷ ids_in (document_of s)))
  in_document q None e h = absurd (true≢false (sym h))
  in_document q (Some o) e h = by_kind q o o.kind e refl

  -- and so is a layer
  layer_in_document : (q : ℕ) → IsSome (get s.parts q) → IsTrue (contains_id q (keys (all_parts (document_of s))))
  layer_in_document q h = subst (λ ids. IsTrue (contains_id q ids))
      (sym (keys-parts d ∙ ap₂ (λ bs cs. bs ++ cs) (backgrounds-listed s s.backgrounds) (cards-listed s s.cards)))
      (some_times q (s.backgrounds ++ s.cards) counted)
    where
      d : Document
      d = document_of s

      counted : 1 ≤ times q (s.backgrounds ++ s.cards)
      counted = elim (layer_cases (get s.objects q) ((is.layers q).0 h)) [
        | inl b ↦ omega (
          arith,
          times-append q s.backgrounds s.cards,
          times_some q s.backgrounds
              (is.backgrounds.each q ∙ b),
        )
        | inr c ↦ omega (arith, times-append q s.backgrounds s.cards, times_some q s.cards (is.cards.each q ∙ c))
      ]

  pub same_objects : (content_of (document_of s)).objects ≡ s.objects
  same_objects = same_map nat_cmp_total nat_cmp-IsAntisymmetric _ _ (λ q.
      get-from_entries nat_cmp_total (all_objects (document_of s)) q
      ∙ agrees (get s.objects) (all_objects (document_of s)) objects_are
      (λ x h. subst (λ ids. IsTrue (contains_id x ids)) (sym (keys-objects (document_of s)))
      (in_document x (get s.objects x) refl h)) q)

  pub same_parts : (content_of (document_of s)).parts ≡ s.parts
  same_parts = same_map nat_cmp_total nat_cmp-IsAntisymmetric _ _ (λ q.
      get-from_entries nat_cmp_total (all_parts (document_of s)) q
      ∙ agrees (get s.parts) (all_parts (document_of s)) lists_are layer_in_document q)

abbrev bit : Bool → ℕ
bit b = cond b 1 0

-- an object has one kind
one_kind : (o : Option Object) → bit (passes is_background o) + bit (passes is_background_part o) + bit
    (passes is_card o) + bit (passes is_card_part o) ≤ 1
one_kind None = omega arith
one_kind (Some o) = by o.kind
  where
    by : (k : Kind) → bit (is_background k) + bit (is_background_part k) + bit (is_card k) + bit (is_card_part k) ≤ 1
    by Stack = omega arith
    by k = omega arith

-- and what has one of these is not the stack
not_stack : (o : Option Object)
    → 1 ≤ bit (passes is_background o) + bit (passes is_background_part o) + bit (passes is_card o) + bit
    (passes is_card_part o) → IsSome o × (passes is_stack o ≡ false)
not_stack None h = absurd (omega arith)
not_stack (Some o) h = (refl, by o.kind h)
  where
    by : (k : Kind) → 1 ≤ bit (is_background k) + bit (is_background_part k) + bit (is_card k) + bit (is_card_part k)
        → is_stack k ≡ false
    by Stack h = absurd (omega arith)
    by _ h = refl

times_bit : (p : ℕ → Bool) (ids : List ℕ) → NamesEach p ids → (q : ℕ) → times q ids ≤ bit (p q)
times_bit p ids names q = by (p q) (names.each q)
  where
    by : (b : Bool) → contains_id q ids ≡ b → times q ids ≤ bit b
    by true e = times_once ids names.once q
    by false e = omega (arith, times_none q ids e)

named : (o : Option Object) → IfSome o (λ x. IsText x.name × IsText x.script)
    → IsNamed (unwrap_or o (record { name = []; script = []; kind = Stack }))
named None h = (no_bytes, no_bytes)
named (Some o) h = h

-- what passes has a kind that does
kind_passes : (p : Kind → Bool) (o : Option Object) → IsTrue (passes p o)
    → IsTrue (p (unwrap_or o (record { name = []; script = []; kind = Stack })).kind)
kind_passes p None h = absurd (true≢false (sym h))
kind_passes p (Some o) h = h

some_text : (o : Option (List ℕ)) → IfSome o IsText → IsText (unwrap_or o [])
some_text None h = no_bytes
some_text (Some t) h = h

on_background_suits : (k : Kind) (t : List ℕ) (b : Bool) → IsTrue (is_background_part k) → IsText t
    → Suits k (content_by k t b)
on_background_suits (BackgroundButton v s) t b is h = tt
on_background_suits (BackgroundField v l s) t b is h = h
on_background_suits k t b is h = absurd (true≢false (sym is))

on_card_suits : (k : Kind) (t : List ℕ) (b : Bool) → IsTrue (is_card_part k) → IsText t → Suits k (content_by k t b)
on_card_suits (CardButton v s) t b is h = tt
on_card_suits (CardField v l) t b is h = h
on_card_suits k t b is h = absurd (true≢false (sym is))

contains_mapped : (f : ℕ → ℕ) (q : ℕ) (ids : List ℕ) → IsTrue (contains_id q ids)
    → IsTrue (contains_id (f q) (map f ids))
contains_mapped f q [] h = absurd (true≢false (sym h))
contains_mapped f q (id ∷ ids) h = elim (or_cases (id == q) (contains_id q ids) h) [
  | inl e ↦ or_left (f id == f q) (contains_id (f q) (map f ids)) (eq-eqb (f id) (f q) (ap f (eqb-true id q e)))
  | inr e ↦ or_right (f id == f q) (contains_id (f q) (map f ids)) (contains_mapped f q ids e)
]

-- a card's background, in the document and in the stack
on_listed : (o : Option Object) (P : ℕ → Type 0) → IsTrue (passes is_card o)
    → IfSome (option_and_then (λ x. background_named x.kind) o) P
    → P (background_or (unwrap_or o (record { name = []; script = []; kind = Stack })).kind)
on_listed None P h e = absurd (true≢false (sym h))
on_listed (Some o) P h e = subst (λ b. IfSome b P) (card_background o.kind h) e

pub card_on : (o : Option Object) (b : ℕ) → option_and_then (λ x. background_named x.kind) o ≡ Some b
    → IsTrue (passes is_card o) × (background_or (unwrap_or o (record { name = []; script = []; kind = Stack })).kind
    ≡ b)
card_on None b e = absurd cc
card_on (Some o) b e = by o.kind e
  where
    by : (k : Kind) → background_named k ≡ Some b → IsTrue (is_card k) × (background_or k ≡ b)
    by (Card a c) e = (refl, cc)
    by _ e = absurd cc

-- the parts of a listed background
parts_of-listed : (s : Content) (ids : List ℕ) (b : ℕ) → IsTrue (contains_id b ids)
    → parts_of (map (background_sheet s) ids) b ≡ map (part_of s 0) (parts_at s b)
parts_of-listed s [] b h = absurd (true≢false (sym h))
parts_of-listed s (id ∷ ids) b h = by (eqb id b) refl h (parts_of-listed s ids b)
  where
    at : Bool → List Part
    at t = unwrap_or (option_map (λ (x : Sheet). x.parts)
        (cond t (Some (background_sheet s id)) (find (λ x. x.id == b) (map (background_sheet s) ids)))) []

    by : (t : Bool) → eqb id b ≡ t → IsTrue (t || contains_id b ids)
        → (IsTrue (contains_id b ids) → parts_of (map (background_sheet s) ids) b ≡ map (part_of s 0) (parts_at s b))
        → parts_of (map (background_sheet s) (id ∷ ids)) b ≡ map (part_of s 0) (parts_at s b)
    by true same h others = ap at same ∙ ap (λ (x : ℕ). map (part_of s 0) (parts_at s x)) (eqb-true id b same)
    by false other h others = ap at other ∙ others h

module _ (s : Content) (is : IsWellFormed s) where
  counted : (q : ℕ) → times q (ids_in (document_of s))
      ≤ bit (has_kind is_background s q) + bit (has_kind is_background_part s q) + bit (has_kind is_card s q) + bit
      (has_kind is_card_part s q)
  counted q = omega (
    arith,
    times-listed s q,
    times_bit _ s.backgrounds is.backgrounds q,
    times_bit _
        (flat_map (parts_at s) s.backgrounds) is.background_parts q,
    times_bit _ s.cards is.cards q,
    times_bit _
        (flat_map (parts_at s) s.cards) is.card_parts q,
  )

  listed_once : IsDistinct nat_eq (ids_in (document_of s))
  listed_once = once_times (ids_in (document_of s)) (λ q. omega (arith, counted q, one_kind (get s.objects q)))

  within : (q : ℕ) → IsTrue (contains_id q (ids_in (document_of s))) → (0 < q) × (q < s.next)
  within q h = (
    elim (cases_eq q 0)
        [ inl e ↦ absurd (true≢false (sym ((is.stack q).1 e) ∙ known.1)) | inr e ↦ omega arith ],
    is.ids q known.0,
  )
    where
      known : IsSome (get s.objects q) × (passes is_stack (get s.objects q) ≡ false)
      known = not_stack (get s.objects q) (omega (arith, counted q, times_some q (ids_in (document_of s)) h))

  listed_within : AllByRecursion (λ id. (0 < id) × (id < s.next)) (ids_in (document_of s))
  listed_within = each_member _ (ids_in (document_of s)) within

  listed_few : length (ids_in (document_of s)) ≤ 10000
  listed_few = omega (
    arith,
    is.few,
    ap (λ m. len (remove m 0)) (same_objects s is),
    without,
    ap (λ ids. length ids)
        (keys-objects d),
    length-map (all_objects d) (λ e. e.0),
  )
    where
      d : Document
      d = document_of s

      others : List (ℕ × Object)
      others = flat_map object_entries d.backgrounds ++ flat_map object_entries d.cards

      without : len (remove (content_of d).objects 0) ≡ length others
      without = len_without_first (0, d.stack) others
          (subst (λ ids. IsDistinct nat_eq ids) (sym (keys-objects d))
          (with_stack_once s.next (ids_in d) listed_within listed_once))

  -- the background of a card is one of the stack's
  background_there : (id : ℕ) → IsTrue (has_kind is_card s id)
      → IsTrue (contains_id (background_or (object_or s id).kind) s.backgrounds)
  background_there id h = is.backgrounds.each (background_or (object_or s id).kind)
      ∙ on_listed (get s.objects id) (λ b. IsTrue (has_kind is_background s b)) h (is.on_background id)

  parts_at_known : (b : ℕ) → IsTrue (contains_id b s.backgrounds)
      → AllByRecursion (λ f. IsTrue (has_kind is_background_part s f)) (parts_at s b)
  parts_at_known b h = each_at (λ c. AllByRecursion (λ f. IsTrue (has_kind is_background_part s f)) (parts_at s c)) b
      s.backgrounds (background_parts_live s is) h

  text_kept : (field card : ℕ) → IsText (unwrap_or (text_at s field card) [])
  text_kept field card = some_text (text_at s field card) (is.field_texts field card)

  background_part_is : (id : ℕ) → IsTrue (has_kind is_background_part s id) → IsBackgroundPart (part_of s 0 id)
  background_part_is id h = let kind = kind_passes is_background_part (get s.objects id) h in (
    kind,
    (
      named (get s.objects id) (is.names id),
      on_background_suits (object_or s id).kind _ _ kind
          (text_kept id 0),
    ),
  )

  card_part_is : (card id : ℕ) → IsTrue (has_kind is_card_part s id) → IsCardPart (part_of s card id)
  card_part_is card id h = let kind = kind_passes is_card_part (get s.objects id) h in
      (kind, (named (get s.objects id) (is.names id), on_card_suits (object_or s id).kind _ _ kind (text_kept id card)))

  background_is : (id : ℕ) → IsTrue (has_kind is_background s id)
      → AllByRecursion (λ f. IsTrue (has_kind is_background_part s f)) (parts_at s id)
      → IsBackgroundSheet (background_sheet s id)
  background_is id h k = record {
    is = kind_passes is_background (get s.objects id) h;
    named = named (get s.objects id) (is.names id);
    parts = each_map IsBackgroundPart (part_of s 0) (parts_at s id) (each_so background_part_is (parts_at s id) k);
    none = refl;
  }

  keeps_each : (card : ℕ) (ids : List ℕ) → AllByRecursion (λ f. IsTrue (has_kind is_background_part s f)) ids
      → Pairs Keeps (map (part_of s 0) ids) (map (keeping_of s card) ids)
  keeps_each card [] h = tt
  keeps_each card (id ∷ ids)
      h = (
        (
          refl,
          on_background_suits (object_or s id).kind _ _ (kind_passes is_background_part (get s.objects id) h.0)
              (text_kept id card),
        ),
        keeps_each card ids h.1,
      )

  card_is : (id : ℕ) → IsTrue (has_kind is_card s id)
      → AllByRecursion (λ f. IsTrue (has_kind is_card_part s f)) (parts_at s id)
      → IsCardSheet (map (background_sheet s) s.backgrounds) (card_sheet s id)
  card_is id h k =
      let b = background_or (object_or s id).kind in
      let there = background_there id h in
      record {
        is = kind_passes is_card (get s.objects id) h;
        named = named (get s.objects id) (is.names id);
        parts = each_map IsCardPart (part_of s id) (parts_at s id) (each_so (card_part_is id) (parts_at s id) k);
        on = subst (λ ids. IsTrue (contains_id b ids)) (sym (backgrounds-listed s s.backgrounds)) there;
        keepings = subst (λ (ps : List Part). Pairs Keeps ps (map (keeping_of s id) (parts_at s b)))
            (sym (parts_of-listed s s.backgrounds b there)) (keeps_each id (parts_at s b) (parts_at_known b there));
      }

  cards_listed : AllByRecursion (λ b. IsTrue (contains_id b.id (backgrounds_of (map (card_sheet s) s.cards))))
      (map (background_sheet s) s.backgrounds)
  cards_listed = each_map _ (background_sheet s) s.backgrounds (each_so has_card s.backgrounds (backgrounds_live s is))
    where
      has_card : (id : ℕ) → IsTrue (has_kind is_background s id)
          → IsTrue (contains_id id (backgrounds_of (map (card_sheet s) s.cards)))
      has_card id h =
          let card = is.some_card id h in
          let there = card_on (get s.objects card.0) id card.1 in
          subst (λ ids. IsTrue (contains_id id ids))
          (sym (map-map (λ c. background_or c.object.kind) (card_sheet s) s.cards))
          (subst (λ b. IsTrue (contains_id b (map (λ x. background_or (object_or s x).kind) s.cards))) there.1
          (contains_mapped (λ x. background_or (object_or s x).kind) card.0 s.cards
          (is.cards.each card.0 ∙ there.0)))

  stack_alone : (k : Kind) → IsTrue (is_stack k) → k ≡ Stack
  stack_alone Stack h = refl
  stack_alone _ h = absurd (true≢false (sym h))

  -- the document that lists the stack is a document
  pub document_listed : IsDocument (document_of s)
  document_listed = record {
    next_low = is.next_low;
    next_high = is.next_high;
    ids = listed_within;
    once = listed_once;
    few = listed_few;
    stack = stack_alone (object_or s 0).kind (kind_passes is_stack (get s.objects 0) ((is.stack 0).1 refl));
    named = named (get s.objects 0) (is.names 0);
    some_background = omega (arith, length-map s.backgrounds (background_sheet s), is.some_background);
    backgrounds = each_map IsBackgroundSheet (background_sheet s) s.backgrounds
        (each_both background_is s.backgrounds (backgrounds_live s is) (background_parts_live s is));
    cards = each_map (IsCardSheet (map (background_sheet s) s.backgrounds)) (card_sheet s) s.cards
        (each_both card_is s.cards (cards_live s is) (card_parts_live s is));
    some_card = cards_listed;
  }

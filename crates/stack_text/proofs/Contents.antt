-- What a document lists is a well-formed stack.
use Rattle.std.proofs.Common.{◌≡◌, ◌↔◌, ◌++◌, inl, inr, ℕ, ◌<◌, ◌≤◌, Bool, true, false, true≢false, cond, List, []}
use Rattle.std.proofs.Common.{◌∷◌, length, map, Option, Some, None, IsSome, IfSome, IsTrue, unwrap_or, option_map}
use Rattle.std.proofs.Common.{option_and_then, refl, sym, ap, ap₂, subst, ◌∙◌, arith, nat_eq, ◌==◌, is_some}
use Rattle.std.specs.Cmp.{nat_cmp_total}
use Rattle.std.specs.FinMap.{get, len, remove, from_entries, get-from_entries}
use Rattle.std.specs.List.{AllByRecursion, IsDistinct, flat_map}
use Rattle.std.proofs.lemmas.Bool.{or_cases}
use Rattle.std.proofs.lemmas.Bool.Decides.{nat_tests}
use Rattle.std.proofs.lemmas.List.{length-map}
use Rattle.ht_values.specs.Text.{IsText}
use Rattle.object_table.specs.Content.{Content}
use Rattle.object_table.specs.Objects.{is_stack, is_background, is_card, is_card_part, is_background_part, is_layer}
use Rattle.object_table.specs.Objects.{has_kind, parts_at, background_of, background_at}
use Rattle.object_table.specs.PartContents.{text_at, hilite_at, keeps_text, keeps_hilite}
use Rattle.object_table.specs.Pairs.{pair_cmp}
use Rattle.object_table.specs.WellFormed.{NamesEach, IsWellFormed}
use Rattle.object_table.specs.declared.object.Object.{Object}
use Rattle.object_table.specs.declared.object.Kind.{Kind}
use Rattle.object_table.specs.declared.object.Kind.TheVariants.{Stack, Background, Card, CardButton, BackgroundButton}
use Rattle.object_table.specs.declared.object.Kind.TheVariants.{CardField, BackgroundField}
use Rattle.object_table.proofs.Pairs.{pair_cmp_total}
use Rattle.stack_text.specs.declared.sheets.PartContent.{PartContent}
use Rattle.stack_text.specs.declared.sheets.PartContent.TheVariants.{Written}
use Rattle.stack_text.specs.declared.sheets.Part.{Part}
use Rattle.stack_text.specs.declared.sheets.Keeping.{Keeping}
use Rattle.stack_text.specs.Document.{Sheet, Document, contains_id, part_ids, sheet_ids, parts_of, background_or}
use Rattle.stack_text.specs.Document.{backgrounds_of, ids_in}
use Rattle.stack_text.specs.Listing.{object_entries, parts_entry, contents_on, written, lit, document_of, all_contents}
use Rattle.stack_text.specs.Listing.{all_objects, all_parts, content_of}
use Rattle.stack_text.proofs.Elements.{each_so, each_append, each_parts, each_map, each_mapped, each_join, each_at}
use Rattle.stack_text.proofs.Entries.{keys, len_without_first, found_each, is_some-found}
use Rattle.stack_text.proofs.Forms.{Pairs}
use Rattle.stack_text.proofs.Listable.{IsBackgroundSheet, IsDocument, parts_on, IsNamed, Suits, Keeps}
use Rattle.stack_text.proofs.DocumentIds.{keys-objects, keys-parts, objects_once, backgrounds_once, cards_once}
use Rattle.stack_text.proofs.DocumentIds.{background_parts_once, card_parts_once, rows_once, each_once}
use Rattle.stack_text.proofs.Keepers.{HasLayers, text_listed, hilite_listed}
use Rattle.stack_text.proofs.Listed.{objects_known, parts_known, listed_again}
use Rattle.stack_text.proofs.Rows.{row_of, rows_of, looked_up, content-found, looked_up_each}
use Rattle.stack_text.proofs.Sorts.{ids_with, passes-found, ids-stack, ids-background, ids-card, ids-layer}
use Rattle.stack_text.proofs.Sorts.{ids-card_part, ids-background_part, OnSheet, each_object}
use Rattle.stack_text.proofs.Live.{card_background}

is_stack_alone : (id : ℕ) (b : Bool) → b ≡ contains_id id (0 ∷ []) → IsTrue b ↔ (id ≡ 0)
is_stack_alone id b e = (λ h. grind (arith, nat_tests), λ h. grind (arith, nat_tests))

on_object : (o : Option Object) (P : ℕ → Type 0) → IfSome o (λ x. IfSome (background_of x.kind) P)
    → IfSome (option_and_then (λ x. background_of x.kind) o) P
on_object None P h = tt
on_object (Some o) P h = h

-- The parts that a stack has where its document says which.
module _ (s : Content) where
  parts_listed : (ss : List Sheet) → AllByRecursion (λ b. get s.parts b.id ≡ Some (part_ids b.parts)) ss
      → flat_map (parts_at s) (sheet_ids ss) ≡ parts_on ss
  parts_listed [] h = refl
  parts_listed (b ∷ ss) h = ap₂ (λ x y. x ++ y) (ap (λ o. unwrap_or o []) h.0) (parts_listed ss h.1)

  -- a card on the background
  card_there : (id : ℕ) (cs : List Sheet) → AllByRecursion (λ c. IsTrue (is_card c.object.kind)) cs
      → AllByRecursion (λ e. get s.objects e.0 ≡ Some e.1) (flat_map object_entries cs)
      → IsTrue (contains_id id (backgrounds_of cs)) → (card : ℕ) × (background_at s card ≡ Some id)
  card_there id [] cards h e = absurd (true≢false (sym e))
  card_there id (c ∷ cs) cards h e =
      let p = each_parts _ (object_entries c) (flat_map object_entries cs) h in
      elim (or_cases (background_or c.object.kind == id) (contains_id id (backgrounds_of cs)) e) [
        | inl k ↦ (
          c.id,
          ap (λ o. option_and_then (λ (x : Object). background_of x.kind) o) p.0.0
              ∙ card_background c.object.kind cards.0 ∙ ap Some (same (background_or c.object.kind) k),
        )
        | inr k ↦ card_there id cs cards.1 p.1 k
      ]
    where
      same : (b : ℕ) → (b == id) ≡ true → b ≡ id
      same b k = grind (arith, nat_tests)

-- what is kept is a text, where it is one
abbrev HasText : PartContent → Type 0
HasText x = IfSome (written x) IsText

suits_text : (k : Kind) (x : PartContent) → Suits k x → HasText x
suits_text (CardField v l) (Written t) h = h
suits_text (BackgroundField v l s) (Written t) h = h
suits_text Stack (Written t) h = absurd h
suits_text (Background c) (Written t) h = absurd h
suits_text (Card b c) (Written t) h = absurd h
suits_text (CardButton b c) (Written t) h = absurd h
suits_text (BackgroundButton b c) (Written t) h = absurd h
suits_text k x h = tt

keepings-texts : (ps : List Part) (ks : List Keeping) → Pairs Keeps ps ks
    → AllByRecursion (λ (k : Keeping). HasText k.content) ks
keepings-texts [] [] h = tt
keepings-texts (p ∷ ps) (k ∷ ks) h = (suits_text p.object.kind k.content h.0.1, keepings-texts ps ks h.1)
keepings-texts ps ks h = absurd h

abbrev HasTexts : List (ℕ × PartContent) → Type 0
HasTexts row = AllByRecursion (λ (e : ℕ × PartContent). HasText e.1) row

sheet-texts : (s : Sheet) → AllByRecursion (λ (p : Part). HasText p.content) s.parts
    → AllByRecursion (λ (k : Keeping). HasText k.content) s.keepings → HasTexts (contents_on s)
sheet-texts s h k = each_append _ (map (λ (p : Part). (p.id, p.content)) s.parts)
    (map (λ (x : Keeping). (x.part, x.content)) s.keepings) (each_map _ (λ (p : Part). (p.id, p.content)) s.parts h)
    (each_map _ (λ (x : Keeping). (x.part, x.content)) s.keepings k)

shared-texts : (bs : List Sheet) → AllByRecursion IsBackgroundSheet bs → HasTexts (flat_map contents_on bs)
shared-texts bs h = each_join _ contents_on bs
    (each_so (λ b k. sheet-texts b (each_so (λ p q. suits_text p.object.kind p.content q.1.1) b.parts k.parts)
    (subst (λ (ks : List Keeping). AllByRecursion (λ (k : Keeping). HasText k.content) ks) (sym k.none) tt)) bs h)

-- where one is kept, a value is there
kept_or_not : {X : Type 0} (b : Bool) (x : X) (o : Option X) → o ≡ cond b (Some x) None → IsSome o ↔ IsTrue b
kept_or_not true x o e = (λ h. refl, λ h. ap is_some e)
kept_or_not false x o e = (λ h. sym (ap is_some e) ∙ h, λ h. absurd (true≢false (sym h)))

module _ (d : Document) (is : IsDocument d) where
  once : IsDistinct nat_eq (keys (all_objects d))
  once = subst (λ ids. IsDistinct nat_eq ids) (sym (keys-objects d)) (objects_once d is)

  -- what passes, told by the ids of the entries
  has : (p : Kind → Bool) (ids : List ℕ) → ids_with p (all_objects d) ≡ ids → (id : ℕ)
      → has_kind p (content_of d) id ≡ contains_id id ids
  has p ids e id =
      ap (λ o. unwrap_or (option_map (λ x. p x.kind) o) false) (get-from_entries nat_cmp_total (all_objects d) id)
      ∙ passes-found p id (all_objects d) once
      ∙ ap (λ x. contains_id id x) e

  names_each : (p : Kind → Bool) (ids : List ℕ) → ids_with p (all_objects d) ≡ ids → IsDistinct nat_eq ids
      → NamesEach (has_kind p (content_of d)) ids
  names_each p ids e apart = record { once = apart; each = λ id. sym (has p ids e id) }

  -- what holds of each object of the document holds of what the stack has
  pub at_each : (P : Object → Type 0) → AllByRecursion (λ (e : ℕ × Object). P e.1) (all_objects d) → (id : ℕ)
      → IfSome (get (content_of d).objects id) P
  at_each P h id = subst (λ o. IfSome o P) (sym (get-from_entries nat_cmp_total (all_objects d) id))
      (found_each P id (all_objects d) h)

  lists_known : AllByRecursion (λ b. get (content_of d).parts b.id ≡ Some (part_ids b.parts)) d.backgrounds
      × AllByRecursion (λ b. get (content_of d).parts b.id ≡ Some (part_ids b.parts)) d.cards
  lists_known = let p = each_parts _ (map parts_entry d.backgrounds) (map parts_entry d.cards) (parts_known d is) in
      (each_mapped _ parts_entry d.backgrounds p.0, each_mapped _ parts_entry d.cards p.1)

  layer_lists : (id : ℕ) → is_some (get (content_of d).parts id) ≡ has_kind is_layer (content_of d) id
  layer_lists id =
      ap (λ o. is_some o) (get-from_entries nat_cmp_total (all_parts d) id)
      ∙ is_some-found id (all_parts d)
      ∙ ap (λ ids. contains_id id ids) (keys-parts d)
      ∙ sym (has is_layer _ (ids-layer d is) id)

  abbrev OnBackground : Object → Type 0
  OnBackground o = IfSome (background_of o.kind) (λ b. IsTrue (has_kind is_background (content_of d) b))

  -- nothing but a card is on a background
  on_none : (k : Kind) → background_of k ≡ None
      → IfSome (background_of k) (λ b. IsTrue (has_kind is_background (content_of d) b))
  on_none k e = subst (λ o. IfSome o (λ b. IsTrue (has_kind is_background (content_of d) b))) (sym e) tt

  on_none_of : (p : Kind → Bool) → ((b : ℕ) (c : Bool) → p (Card b c) ≡ false) → (k : Kind) → IsTrue (p k)
      → background_of k ≡ None
  on_none_of p never (Card b c) h = absurd (true≢false (sym h ∙ never b c))
  on_none_of p never k h = refl

  card_on_one : (k : Kind) → IsTrue (contains_id (background_or k) (sheet_ids d.backgrounds))
      → IfSome (background_of k) (λ b. IsTrue (has_kind is_background (content_of d) b))
  card_on_one (Card b c) h = has is_background _ (ids-background d is) b ∙ h
  card_on_one k h = tt

  cards_are_on : (card : ℕ) → IfSome (background_at (content_of d) card)
      (λ b. IsTrue (has_kind is_background (content_of d) b))
  cards_are_on card =
      on_object (get (content_of d).objects card) _
      (at_each OnBackground (each_object OnBackground d (on_none d.stack.kind (ap background_of is.stack))
      (each_so {Q = OnSheet OnBackground}
      (λ b h. (
        on_none b.object.kind (on_none_of is_background (λ x c. refl) b.object.kind h.is),
        each_so
            {Q = λ (x : Part). OnBackground x.object}
            (λ p q. on_none p.object.kind (on_none_of is_background_part (λ x c. refl) p.object.kind q.0)) b.parts
            h.parts,
      )) d.backgrounds is.backgrounds)
      (each_so {Q = OnSheet OnBackground}
      (λ c h. (
        card_on_one c.object.kind h.on,
        each_so {Q = λ (x : Part). OnBackground x.object}
            (λ p q. on_none p.object.kind (on_none_of is_card_part (λ x c. refl) p.object.kind q.0)) c.parts h.parts,
      ))
      d.cards is.cards)) card)

  has_card : (id : ℕ) → IsTrue (has_kind is_background (content_of d) id)
      → (card : ℕ) × (background_at (content_of d) card ≡ Some id)
  has_card id h =
      card_there (content_of d) id d.cards (each_so (λ c k. k.is) d.cards is.cards)
      (each_parts _ (flat_map object_entries d.backgrounds) (flat_map object_entries d.cards) (objects_known d is).1).1
      (each_at (λ x. IsTrue (contains_id x (backgrounds_of d.cards))) id (sheet_ids d.backgrounds)
      (each_map _ (λ b. b.id) d.backgrounds is.some_card) (sym (has is_background _ (ids-background d is) id) ∙ h))

  live_below : (id : ℕ) → IsSome (get (content_of d).objects id) → id < d.next
  live_below id h = each_at (λ x. x < d.next) id (0 ∷ ids_in d)
      (omega (arith, is.next_low), each_so {P = λ x. (0 < x) × (x < d.next)} (λ x r. r.1) (ids_in d) is.ids)
      (sym listed ∙ h)
    where
      listed : is_some (get (content_of d).objects id) ≡ contains_id id (0 ∷ ids_in d)
      listed = ap (λ o. is_some o) (get-from_entries nat_cmp_total (all_objects d) id)
          ∙ is_some-found id (all_objects d) ∙ ap (λ ids. contains_id id ids) (keys-objects d)

  few_objects : len (remove (content_of d).objects 0) ≤ 10000
  few_objects =
      omega (arith, is.few, without, ap (λ ids. length ids) (keys-objects d), length-map (all_objects d) (λ e. e.0))
    where
      others : List (ℕ × Object)
      others = flat_map object_entries d.backgrounds ++ flat_map object_entries d.cards

      without : len (remove (content_of d).objects 0) ≡ length others
      without = len_without_first (0, d.stack) others once

  names : (id : ℕ) → IfSome (get (content_of d).objects id) (λ o. IsText o.name × IsText o.script)
  names = at_each _ (each_object IsNamed d is.named
      (each_so {Q = OnSheet IsNamed} (λ b h.
      (h.named, each_so {Q = λ (x : Part). IsNamed x.object} (λ p q. q.1.0) b.parts h.parts)) d.backgrounds
      is.backgrounds)
      (each_so {Q = OnSheet IsNamed} (λ b h.
      (h.named, each_so {Q = λ (x : Part). IsNamed x.object} (λ p q. q.1.0) b.parts h.parts)) d.cards is.cards))

  own_backgrounds : NamesEach (has_kind is_background (content_of d)) (sheet_ids d.backgrounds)
  own_backgrounds = names_each is_background _ (ids-background d is) (backgrounds_once d is)

  own_cards : NamesEach (has_kind is_card (content_of d)) (sheet_ids d.cards)
  own_cards = names_each is_card _ (ids-card d is) (cards_once d is)

  own_card_parts : NamesEach (has_kind is_card_part (content_of d))
      (flat_map (parts_at (content_of d)) (sheet_ids d.cards))
  own_card_parts = subst (λ ids. NamesEach (has_kind is_card_part (content_of d)) ids)
      (sym (parts_listed (content_of d) d.cards lists_known.1))
      (names_each is_card_part _ (ids-card_part d is) (card_parts_once d is))

  own_background_parts : NamesEach (has_kind is_background_part (content_of d))
      (flat_map (parts_at (content_of d)) (sheet_ids d.backgrounds))
  own_background_parts = subst (λ ids. NamesEach (has_kind is_background_part (content_of d)) ids)
      (sym (parts_listed (content_of d) d.backgrounds lists_known.0))
      (names_each is_background_part _ (ids-background_part d is) (background_parts_once d is))

  layers_known : HasLayers (content_of d)
  layers_known = record {
    backgrounds = own_backgrounds;
    cards = own_cards;
    layers = λ id h. sym (layer_lists id) ∙ h;
    card_parts = own_card_parts;
    background_parts = own_background_parts;
    on_background = cards_are_on;
    stack = has is_stack _ (ids-stack d is) 0;
  }

  -- what is kept, found by the rows of the document
  pub content-is : {X : Type 0} (pick : PartContent → Option X) (part card : ℕ)
      → get (from_entries {R = pair_cmp} (all_contents pick d)) (part, card) ≡ looked_up pick part card (rows_of d)
  content-is pick part card = get-from_entries pair_cmp_total (all_contents pick d) (part, card)
      ∙ content-found pick d part card (rows_once d is) (each_once d is)

  again : document_of (content_of d) ≡ d
  again = listed_again d is

  texts_kept : (field card : ℕ) → IsSome (text_at (content_of d) field card)
      ↔ IsTrue (keeps_text (content_of d) field card)
  texts_kept field card = kept_or_not (keeps_text (content_of d) field card) _ (text_at (content_of d) field card)
      (content-is written field card ∙ ap (λ x. looked_up written field card (rows_of x)) (sym again)
      ∙ text_listed (content_of d) layers_known field card)

  hilites_kept : (button card : ℕ)
      → IsSome (hilite_at (content_of d) button card) ↔ IsTrue (keeps_hilite (content_of d) button card)
  hilites_kept button card = kept_or_not (keeps_hilite (content_of d) button card) _
      (hilite_at (content_of d) button card)
      (content-is lit button card ∙ ap (λ x. looked_up lit button card (rows_of x)) (sym again)
      ∙ hilite_listed (content_of d) layers_known button card)

  rows-texts : AllByRecursion (λ (r : ℕ × List (ℕ × PartContent)). HasTexts r.1) (rows_of d)
  rows-texts = (
    shared-texts d.backgrounds is.backgrounds,
    each_map _ row_of d.cards (each_so
        (λ c h. sheet-texts c (each_so (λ p q. suits_text p.object.kind p.content q.1.1) c.parts h.parts)
        (keepings-texts (parts_of d.backgrounds (background_or c.object.kind)) c.keepings h.keepings)) d.cards
        is.cards),
  )

  texts_are : (field card : ℕ) → IfSome (text_at (content_of d) field card) IsText
  texts_are field card = subst (λ o. IfSome o IsText) (sym (content-is written field card))
      (looked_up_each written IsText field card (rows_of d) rows-texts)

  -- the stack that the document lists is well formed
  pub content_listed : IsWellFormed (content_of d)
  content_listed = record {
    backgrounds = own_backgrounds;
    cards = own_cards;
    layers = λ id. (λ h. sym (layer_lists id) ∙ h, λ h. layer_lists id ∙ h);
    card_parts = own_card_parts;
    background_parts = own_background_parts;
    on_background = cards_are_on;
    some_background = omega (arith, length-map d.backgrounds (λ b. b.id), is.some_background);
    some_card = has_card;
    stack = λ id. is_stack_alone id _ (has is_stack _ (ids-stack d is) id);
    ids = live_below;
    next_low = is.next_low;
    next_high = is.next_high;
    few = few_objects;
    names = names;
    texts = texts_kept;
    field_texts = texts_are;
    hilites = hilites_kept;
  }

-- What a stack's document keeps for a part is what the stack keeps for it.
use Rattle.std.proofs.Common.{◌≡◌, ◌++◌, inl, inr, ℕ, Bool, true, false, true≢false, cond, List, [], ◌∷◌, map, Option}
use Rattle.std.proofs.Common.{Some, None, IsSome, IsTrue, IfSome, unwrap_or, option_map, option_and_then, refl, sym}
use Rattle.std.proofs.Common.{ap, ap₂, subst, ◌∙◌, arith, ◌==◌, ◌&&◌, ◌||◌}
use Rattle.std.specs.Ordering.{nat_cmp}
use Rattle.std.specs.FinMap.{get, find}
use Rattle.std.specs.List.{AllByRecursion, flat_map}
use Rattle.std.proofs.lemmas.Bool.{or_left, or_right, or_cases, cases_eq, and_parts, and_from}
use Rattle.std.proofs.lemmas.Bool.Decides.{nat_tests}
use Rattle.std.proofs.lemmas.List.{map-append, append-nil, map-id}
use Rattle.std.proofs.lemmas.List.Folds.{list_any-append}
use Rattle.object_table.specs.Content.{Content}
use Rattle.object_table.specs.Objects.{is_stack, is_background, is_card, is_card_field, is_background_field}
use Rattle.object_table.specs.Objects.{is_background_button, is_card_part, is_background_part, is_layer, has_kind}
use Rattle.object_table.specs.Objects.{parts_at, background_at, background_of}
use Rattle.object_table.specs.PartContents.{text_at, hilite_at, is_on_background_of, is_kept_for, keeps_text}
use Rattle.object_table.specs.PartContents.{keeps_hilite}
use Rattle.object_table.specs.WellFormed.{NamesEach}
use Rattle.object_table.specs.declared.object.Object.{Object}
use Rattle.object_table.specs.declared.object.Kind.{Kind}
use Rattle.object_table.specs.declared.object.Kind.TheVariants.{Stack, CardButton, BackgroundButton, CardField}
use Rattle.object_table.specs.declared.object.Kind.TheVariants.{BackgroundField}
use Rattle.std.specs.Cmp.{both_ways}
use Rattle.std.proofs.lemmas.Simd.{map-map}
use Rattle.object_table.proofs.Listed.{contains_id-flat_map}
use Rattle.object_table.proofs.Slots.{tied_apart, tied_same}
use Rattle.stack_text.specs.declared.sheets.PartContent.{PartContent}
use Rattle.stack_text.specs.declared.sheets.Part.{Part}
use Rattle.stack_text.specs.declared.sheets.Keeping.{Keeping}
use Rattle.stack_text.specs.Document.{contains_id, background_or}
use Rattle.stack_text.specs.Listing.{object_or, content_by, content_at, part_of, keeping_of, background_sheet}
use Rattle.stack_text.specs.Listing.{card_sheet, document_of, contents_on, written, lit}
use Rattle.stack_text.proofs.Entries.{found_at}
use Rattle.stack_text.proofs.Rows.{row_of, rows_of, looked_up}
use Rattle.stack_text.proofs.Stacks.{card_on}
use Rattle.stack_text.proofs.Live.{passes, never_both, stack_or_card, layer_cases, card_background}

-- ids, each with what is said of it
abbrev paired : {X : Type 0} → (ℕ → X) → List ℕ → List (ℕ × X)
paired g ids = map (λ x. (x, g x)) ids

module _ {X : Type 0} (g : ℕ → X) where
  said_of : (ids : List ℕ) → AllByRecursion (λ (e : ℕ × X). Some (g e.0) ≡ Some e.1) (paired g ids)
  said_of [] = tt
  said_of (id ∷ ids) = (refl, said_of ids)

  find-paired : (q : ℕ) (ids : List ℕ) → find nat_cmp q (paired g ids) ≡ cond (contains_id q ids) (Some (g q)) None
  find-paired q ids = found_at (λ x. Some (g x)) q (paired g ids) (said_of ids)
      ∙ ap (λ (xs : List ℕ). cond (contains_id q xs) (Some (g q)) None)
      (map-map (λ e. e.0) (λ x. (x, g x)) ids ∙ map-id ids)

module _ (s : Content) where
  shared-paired : (ids : List ℕ) → flat_map contents_on (map (background_sheet s) ids)
      ≡ paired (content_at s 0) (flat_map (parts_at s) ids)
  shared-paired [] = refl
  shared-paired (id ∷ ids) =
      ap₂ (λ (a b : List (ℕ × PartContent)). a ++ b)
      (append-nil (map (λ (p : Part). (p.id, p.content)) (map (part_of s 0) (parts_at s id)))
      ∙ map-map (λ (p : Part). (p.id, p.content)) (part_of s 0) (parts_at s id)) (shared-paired ids)
      ∙ sym (map-append (λ x. (x, content_at s 0 x)) (parts_at s id) (flat_map (parts_at s) ids))

  -- the parts of a card, and of its background
  abbrev on_card : ℕ → List ℕ
  on_card card = parts_at s card ++ parts_at s (background_or (object_or s card).kind)

  card-paired : (card : ℕ) → contents_on (card_sheet s card) ≡ paired (content_at s card) (on_card card)
  card-paired card =
      ap₂ (λ (a b : List (ℕ × PartContent)). a ++ b)
      (map-map (λ (p : Part). (p.id, p.content)) (part_of s card) (parts_at s card))
      (map-map (λ (k : Keeping). (k.part, k.content)) (keeping_of s card)
      (parts_at s (background_or (object_or s card).kind)))
      ∙ sym (map-append (λ x. (x, content_at s card x)) (parts_at s card)
      (parts_at s (background_or (object_or s card).kind)))

  -- whether the document lists something for a part on a card, or as shared
  abbrev pub is_listed : ℕ → ℕ → Bool
  is_listed part card = cond (card == 0) (contains_id part (flat_map (parts_at s) s.backgrounds))
      (contains_id card s.cards && contains_id part (on_card card))

  module _ {X : Type 0} (pick : PartContent → Option X) where
    abbrev seen : Option PartContent → Option X
    seen o = option_and_then pick o

    in_row : (part card : ℕ) (b c : Bool)
        → option_and_then (λ (row : List (ℕ × PartContent)). seen (find nat_cmp part row))
        (cond b (Some (contents_on (card_sheet s card))) None)
        ≡ cond (b && contains_id part (on_card card)) (pick (content_at s card part)) None
    in_row part card false c = refl
    in_row part card true c = ap (λ (row : List (ℕ × PartContent)). seen (find nat_cmp part row)) (card-paired card)
        ∙ ap seen (find-paired (content_at s card) part (on_card card)) ∙ by (contains_id part (on_card card))
      where
        by : (t : Bool) → seen (cond t (Some (content_at s card part)) None)
            ≡ cond t (pick (content_at s card part)) None
        by true = refl
        by false = refl

    -- what the rows of the document have
    pub looked_up-listed : (part card : ℕ)
        → looked_up pick part card (rows_of (document_of s))
        ≡ cond (is_listed part card) (pick (content_at s card part)) None
    looked_up-listed part card = elim (cases_eq card 0) [
      | inl k ↦
          let here : (card == 0) ≡ true = grind (arith, nat_tests) in
          rw (tied_same card 0 k, here)
          (ap (λ (row : List (ℕ × PartContent)). seen (find nat_cmp part row)) (shared-paired s.backgrounds)
          ∙ ap seen (find-paired (content_at s 0) part (flat_map (parts_at s) s.backgrounds))
          ∙ by (contains_id part (flat_map (parts_at s) s.backgrounds))
          ∙ ap (λ (c : ℕ). cond (contains_id part (flat_map (parts_at s) s.backgrounds)) (pick (content_at s c part))
          None) (sym k))
      | inr k ↦
          let other : (card == 0) ≡ false = grind (arith, nat_tests) in
          rw (tied_apart card 0 k, other)
          (ap (λ (rows : List (ℕ × List (ℕ × PartContent))). option_and_then
          (λ (row : List (ℕ × PartContent)). seen (find nat_cmp part row)) (find nat_cmp card rows))
          (map-map row_of (card_sheet s) s.cards)
          ∙ ap (option_and_then (λ (row : List (ℕ × PartContent)). seen (find nat_cmp part row)))
          (find-paired (λ c. contents_on (card_sheet s c)) card s.cards)
          ∙ in_row part card (contains_id card s.cards) true)
    ]
      where
        by : (t : Bool) → seen (cond t (Some (content_at s 0 part)) None) ≡ cond t (pick (content_at s 0 part)) None
        by true = refl
        by false = refl

-- ---- what is listed is what is kept

-- the facts of a well-formed stack on which this rests
pub record HasLayers (s : Content) : Type 0 where
  pub backgrounds : NamesEach (has_kind is_background s) s.backgrounds
  pub cards : NamesEach (has_kind is_card s) s.cards
  pub layers : (id : ℕ) → IsSome (get s.parts id) → IsTrue (has_kind is_layer s id)
  pub card_parts : NamesEach (has_kind is_card_part s) (flat_map (parts_at s) s.cards)
  pub background_parts : NamesEach (has_kind is_background_part s) (flat_map (parts_at s) s.backgrounds)
  pub on_background : (card : ℕ) → IfSome (background_at s card) (λ b. IsTrue (has_kind is_background s b))
  pub stack : IsTrue (has_kind is_stack s 0)

card_or_background : (k : Kind) → IsTrue (is_card_part k) → IsTrue (is_background_part k) → ⊥
card_or_background (CardButton a b) h k = true≢false (sym k)
card_or_background (CardField a b) h k = true≢false (sym k)
card_or_background kind h k = true≢false (sym h)

some_list : (q : ℕ) (o : Option (List ℕ)) → IsTrue (contains_id q (unwrap_or o [])) → IsSome o
some_list q None h = absurd (true≢false (sym h))
some_list q (Some xs) h = refl

-- the background of a card that is there
object_background : (o : Option Object) → IsTrue (passes is_card o)
    → option_and_then (λ (x : Object). background_of x.kind) o
    ≡ Some (background_or (unwrap_or o (record { name = []; script = []; kind = Stack })).kind)
object_background None h = absurd (true≢false (sym h))
object_background (Some o) h = card_background o.kind h

module _ (s : Content) (is : HasLayers s) where
  not_zero : (card : ℕ) → IsTrue (has_kind is_card s card) → (card == 0) ≡ false
  not_zero card h = elim (cases_eq card 0) [
    | inl k ↦ absurd (never_both is_stack is_card stack_or_card (get s.objects 0) is.stack
        (subst (λ c. IsTrue (has_kind is_card s c)) k h))
    | inr k ↦ grind (arith, nat_tests)
  ]

  listed_on_card : (part card : ℕ) → IsTrue (has_kind is_card s card) → IsTrue (contains_id part (on_card s card))
      → IsTrue (is_listed s part card)
  listed_on_card part card h k = rw (not_zero card h)
      (and_from (contains_id card s.cards) (contains_id part (on_card s card)) (is.cards.each card ∙ h) k)

  -- a part of a card, and of a background, that is listed
  own_listed : (part card : ℕ) → IsTrue (is_listed s part card) → IsTrue (has_kind is_card_part s part)
      → IsTrue (contains_id part (parts_at s card))
  own_listed part card h own = by (card == 0) h
    where
      not_background : IsTrue (contains_id part (flat_map (parts_at s) s.backgrounds)) → ⊥
      not_background e = never_both is_card_part is_background_part card_or_background (get s.objects part) own
          (sym (is.background_parts.each part) ∙ e)

      on : IsTrue (contains_id card s.cards) → IsTrue (contains_id part (on_card s card))
          → IsTrue (contains_id part (parts_at s card))
      on c e = elim (or_cases (contains_id part (parts_at s card))
          (contains_id part (parts_at s (background_or (object_or s card).kind)))
          (sym (list_any-append (λ y. y == part) (parts_at s card) (parts_at s (background_or (object_or s card).kind)))
          ∙ e)) [
            | inl a ↦ a
            | inr b ↦
                let there = sym (is.cards.each card) ∙ c in
                let live = subst (λ o. IfSome o (λ x. IsTrue (has_kind is_background s x)))
                (object_background (get s.objects card) there) (is.on_background card) in
                absurd (not_background (contains_id-flat_map (parts_at s) s.backgrounds
                (background_or (object_or s card).kind) part
                (is.backgrounds.each (background_or (object_or s card).kind) ∙ live) b))
          ]

      by : (t : Bool) → IsTrue (cond t (contains_id part (flat_map (parts_at s) s.backgrounds))
          (contains_id card s.cards && contains_id part (on_card s card))) → IsTrue (contains_id part (parts_at s card))
      by true e = absurd (not_background e)
      by false e = let p = and_parts (contains_id card s.cards) (contains_id part (on_card s card)) e in on p.0 p.1

  shared_listed : (part card : ℕ) → IsTrue (is_listed s part card) → IsTrue (has_kind is_background_part s part)
      → IsTrue (is_kept_for s part card)
  shared_listed part card h own = by (card == 0) h
    where
      on : IsTrue (contains_id card s.cards) → IsTrue (contains_id part (on_card s card))
          → IsTrue (is_on_background_of s part card)
      on c e =
          let there = sym (is.cards.each card) ∙ c in
          elim (or_cases (contains_id part (parts_at s card))
          (contains_id part (parts_at s (background_or (object_or s card).kind)))
          (sym (list_any-append (λ y. y == part) (parts_at s card)
          (parts_at s (background_or (object_or s card).kind))) ∙ e)) [
            | inl a ↦ absurd (never_both is_card_part is_background_part card_or_background (get s.objects part)
                (sym (is.card_parts.each part) ∙ contains_id-flat_map (parts_at s) s.cards card part c a) own)
            | inr b ↦ ap (λ (o : Option ℕ). unwrap_or
                (option_map (λ background. contains_id part (parts_at s background)) o) false)
                (object_background (get s.objects card) there) ∙ b
          ]

      by : (t : Bool) → IsTrue (cond t (contains_id part (flat_map (parts_at s) s.backgrounds))
          (contains_id card s.cards && contains_id part (on_card s card)))
          → IsTrue (t || is_on_background_of s part card)
      by true e = refl
      by false e = let p = and_parts (contains_id card s.cards) (contains_id part (on_card s card)) e in on p.0 p.1

  -- and the way back
  own_again : (part card : ℕ) → IsTrue (contains_id part (parts_at s card)) → IsTrue (has_kind is_card_part s part)
      → IsTrue (is_listed s part card)
  own_again part card h own =
      elim (layer_cases (get s.objects card) (is.layers card (some_list part (get s.parts card) h))) [
        | inl b ↦ absurd (never_both is_card_part is_background_part card_or_background (get s.objects part) own
            (sym (is.background_parts.each part)
            ∙ contains_id-flat_map (parts_at s) s.backgrounds card part (is.backgrounds.each card ∙ b) h))
        | inr c ↦ listed_on_card part card c
            (list_any-append (λ y. y == part) (parts_at s card) (parts_at s (background_or (object_or s card).kind))
            ∙ or_left (contains_id part (parts_at s card))
            (contains_id part (parts_at s (background_or (object_or s card).kind))) h)
      ]

  on_its_background : (part card : ℕ) (o : Option ℕ) → background_at s card ≡ o
      → IsTrue (unwrap_or (option_map (λ background. contains_id part (parts_at s background)) o) false)
      → IsTrue (is_listed s part card)
  on_its_background part card None e h = absurd (true≢false (sym h))
  on_its_background part card (Some b) e h =
      let there = card_on (get s.objects card) b e in
      let here : IsTrue (contains_id part (parts_at s (background_or (object_or s card).kind))) =
      subst (λ x. IsTrue (contains_id part (parts_at s x))) (sym there.1) h in
      listed_on_card part card there.0
      (list_any-append (λ y. y == part) (parts_at s card) (parts_at s (background_or (object_or s card).kind))
      ∙ or_right (contains_id part (parts_at s card))
      (contains_id part (parts_at s (background_or (object_or s card).kind))) here)

  shared_again : (part card : ℕ) → IsTrue (is_kept_for s part card) → IsTrue (has_kind is_background_part s part)
      → IsTrue (is_listed s part card)
  shared_again part card h own = elim (or_cases (card == 0) (is_on_background_of s part card) h) [
    | inl z ↦ rw z (is.background_parts.each part ∙ own)
    | inr b ↦ on_its_background part card (background_at s card) refl b
  ]

  -- whether the document lists a part on a card, by the kind of the part
  pub own_same : (part card : ℕ) → IsTrue (has_kind is_card_part s part)
      → is_listed s part card ≡ contains_id part (parts_at s card)
  own_same part card own = both_ways _ _ (λ h. own_listed part card h own) (λ h. own_again part card h own)

  pub shared_same : (part card : ℕ) → IsTrue (has_kind is_background_part s part)
      → is_listed s part card ≡ is_kept_for s part card
  shared_same part card own = both_ways _ _ (λ h. shared_listed part card h own) (λ h. shared_again part card h own)

-- ---- texts and hilites

-- what the document has, by the kind of the part
module _ (s : Content) (is : HasLayers s) (part card : ℕ) where
  abbrev own_text : List ℕ
  own_text = unwrap_or (text_at s part card) []

  abbrev own_lit : Bool
  own_lit = unwrap_or (hilite_at s part card) false

  abbrev Has : Kind → Type 0
  Has k = (p : Kind → Bool) → p Stack ≡ false → has_kind p s part ≡ p k

  nothing : {X : Type 0} (b : Bool) → ◌≡◌ {A = Option X} (cond b None None) None
  nothing true = refl
  nothing false = refl

  own_text_where : (b c : Bool) → cond b (Some own_text) None ≡ cond ((true && b) || (false && c)) (Some own_text) None
  own_text_where true c = refl
  own_text_where false c = refl

  -- a text where one is kept
  text_by : (k : Kind) → Has k → cond (is_listed s part card) (written (content_by k own_text own_lit)) None
      ≡ cond (keeps_text s part card) (Some own_text) None
  text_by (CardField a b) h = rw (
    own_same s is part card (h is_card_part refl),
    h is_card_field refl,
    h
        is_background_field refl,
  ) (own_text_where (contains_id part (parts_at s card)) (is_kept_for s part card))
  text_by (BackgroundField a b c)
      h = rw (shared_same s is part card (h is_background_part refl), h is_card_field refl, h is_background_field refl)
      refl
  text_by k h = rw (h is_card_field refl, h is_background_field refl) (nothing (is_listed s part card))

  -- a hilite where one is kept
  hilite_by : (k : Kind) → Has k → cond (is_listed s part card) (lit (content_by k own_text own_lit)) None
      ≡ cond (keeps_hilite s part card) (Some own_lit) None
  hilite_by (BackgroundButton a b) h =
      rw (shared_same s is part card (h is_background_part refl), h is_background_button refl) refl
  hilite_by k h = rw (h is_background_button refl) (nothing (is_listed s part card))

  kinds_of : (o : Option Object) (p : Kind → Bool) → p Stack ≡ false
      → passes p o ≡ p (unwrap_or o (record { name = []; script = []; kind = Stack })).kind
  kinds_of None p e = sym e
  kinds_of (Some o) p e = refl

  -- a text is listed just where one is kept, and so is a hilite
  pub text_listed : looked_up written part card (rows_of (document_of s))
      ≡ cond (keeps_text s part card) (Some own_text) None
  text_listed = looked_up-listed s written part card ∙ text_by (object_or s part).kind (kinds_of (get s.objects part))

  pub hilite_listed : looked_up lit part card (rows_of (document_of s))
      ≡ cond (keeps_hilite s part card) (Some own_lit) None
  hilite_listed = looked_up-listed s lit part card ∙ hilite_by (object_or s part).kind (kinds_of (get s.objects part))

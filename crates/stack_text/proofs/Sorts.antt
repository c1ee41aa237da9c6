-- The ids of a document's entries, by the kinds of their objects.
use Rattle.std.proofs.Common.{◌≡◌, ◌++◌, inl, inr, ℕ, Bool, true, false, true≢false, cond, List, [], ◌∷◌, map}
use Rattle.std.proofs.Common.{unwrap_or, option_map, refl, sym, ap, ap₂, ◌∙◌, arith, nat_eq, ◌==◌, IsTrue}
use Rattle.std.specs.Ordering.{nat_cmp}
use Rattle.std.specs.FinMap.{find}
use Rattle.std.specs.List.{AllByRecursion, IsDistinct, flat_map, filter}
use Rattle.std.proofs.lemmas.List.{map-append, append-nil}
use Rattle.std.proofs.lemmas.List.Elements.{filter-append}
use Rattle.std.proofs.lemmas.Bool.{cases_eq}
use Rattle.std.proofs.lemmas.Bool.Decides.{nat_tests}
use Rattle.object_table.proofs.Slots.{tied_apart, tied_same}
use Rattle.object_table.specs.Objects.{is_stack, is_background, is_card, is_card_part, is_background_part, is_layer}
use Rattle.object_table.specs.declared.object.Object.{Object}
use Rattle.object_table.specs.declared.object.Kind.{Kind}
use Rattle.object_table.specs.declared.object.Kind.TheVariants.{Stack, Background, Card, CardButton, BackgroundButton}
use Rattle.object_table.specs.declared.object.Kind.TheVariants.{CardField, BackgroundField}
use Rattle.stack_text.specs.declared.sheets.Part.{Part}
use Rattle.stack_text.specs.Document.{Sheet, Document, contains_id, part_ids, sheet_ids}
use Rattle.stack_text.specs.Listing.{part_entry, object_entries, all_objects}
use Rattle.stack_text.proofs.Elements.{each_so, each_append, each_map, each_join}
use Rattle.stack_text.proofs.Entries.{keys}
use Rattle.stack_text.proofs.Listable.{IsDocument, parts_on}

-- the ids of the entries of which this holds
abbrev pub ids_with : (Kind → Bool) → List (ℕ × Object) → List ℕ
ids_with p es = keys (filter (λ e. p e.1.kind) es)

ids_with-append : (p : Kind → Bool) (es fs : List (ℕ × Object)) → ids_with p (es ++ fs) ≡ ids_with p es ++ ids_with p fs
ids_with-append p es fs = ap keys (filter-append (λ e. p e.1.kind) es fs)
    ∙ map-append (λ e. e.0) (filter (λ e. p e.1.kind) es) (filter (λ e. p e.1.kind) fs)

none_with : (p : Kind → Bool) (q : ℕ) (es : List (ℕ × Object)) → AllByRecursion (λ y. nat_eq q y ≡ false) (keys es)
    → contains_id q (ids_with p es) ≡ false
none_with p q [] h = refl
none_with p q (e ∷ es) h = elim (p e.1.kind)
    as (λ b. contains_id q (keys (cond b (e ∷ filter (λ f. p f.1.kind) es) (filter (λ f. p f.1.kind) es))) ≡ false) [
      | true ↦ let other : (e.0 == q) ≡ false = reversed q e.0 h.0 in rw other (none_with p q es h.1)
      | false ↦ none_with p q es h.1
    ]
  where
    reversed : (a b : ℕ) → nat_eq a b ≡ false → (b == a) ≡ false
    reversed a b e = grind (arith, nat_tests)

-- an object that is found has a kind that passes where its id is among these
pub passes-found : (p : Kind → Bool) (q : ℕ) (es : List (ℕ × Object)) → IsDistinct nat_eq (keys es)
    → unwrap_or (option_map (λ x. p x.kind) (find nat_cmp q es)) false ≡ contains_id q (ids_with p es)
unfolding IsDistinct
passes-found p q [] once = refl
passes-found p q (e ∷ es) once = elim (cases_eq q e.0) [
  | inl k ↦
      let same : (e.0 == q) ≡ true = grind (arith, nat_tests) in
      let none : contains_id q (ids_with p es) ≡ false = none_with p q es (rw k once.0) in
      rw (tied_same q e.0 k) (elim (p e.1.kind)
      as (λ b. b ≡ contains_id q (keys (cond b (e ∷ filter (λ f. p f.1.kind) es) (filter (λ f. p f.1.kind) es))))
      [ true ↦ rw same refl | false ↦ sym none ])
  | inr k ↦
      let other : (e.0 == q) ≡ false = grind (arith, nat_tests) in
      rw (tied_apart q e.0 k) (passes-found p q es once.1
      ∙ elim (p e.1.kind) as (λ b. contains_id q (ids_with p es)
      ≡ contains_id q (keys (cond b (e ∷ filter (λ f. p f.1.kind) es) (filter (λ f. p f.1.kind) es))))
      [ true ↦ rw other refl | false ↦ refl ])
]

-- Whether a kind passes, told from what it is.
module _ (p : Kind → Bool) (t : Bool) where
  for_backgrounds : ((c : Bool) → p (Background c) ≡ t) → (k : Kind) → IsTrue (is_background k) → p k ≡ t
  for_backgrounds step (Background c) h = step c
  for_backgrounds step other h = absurd (true≢false (sym h))

  for_cards : ((b : ℕ) (c : Bool) → p (Card b c) ≡ t) → (k : Kind) → IsTrue (is_card k) → p k ≡ t
  for_cards step (Card b c) h = step b c
  for_cards step other h = absurd (true≢false (sym h))

  for_background_parts : ((v s : Bool) → p (BackgroundButton v s) ≡ t)
      → ((v l s : Bool) → p (BackgroundField v l s) ≡ t) → (k : Kind) → IsTrue (is_background_part k) → p k ≡ t
  for_background_parts one two (BackgroundButton v s) h = one v s
  for_background_parts one two (BackgroundField v l s) h = two v l s
  for_background_parts one two other h = absurd (true≢false (sym h))

  for_card_parts : ((v h : Bool) → p (CardButton v h) ≡ t) → ((v l : Bool) → p (CardField v l) ≡ t) → (k : Kind)
      → IsTrue (is_card_part k) → p k ≡ t
  for_card_parts one two (CardButton v s) h = one v s
  for_card_parts one two (CardField v l) h = two v l
  for_card_parts one two other h = absurd (true≢false (sym h))

-- the own objects of all sheets, and the parts of all, pass or not
abbrev Passes : (Kind → Bool) → Bool → Bool → List Sheet → Type 0
Passes p own part ss = AllByRecursion
    (λ (s : Sheet). (p s.object.kind ≡ own) × AllByRecursion (λ (x : Part). p x.object.kind ≡ part) s.parts) ss

module _ (p : Kind → Bool) where
  all_parts : (ps : List Part) → AllByRecursion (λ (x : Part). p x.object.kind ≡ true) ps
      → ids_with p (map part_entry ps) ≡ part_ids ps
  all_parts [] h = refl
  all_parts (x ∷ ps) h = rw h.0 (ap (λ ids. x.id ∷ ids) (all_parts ps h.1))

  no_parts : (ps : List Part) → AllByRecursion (λ (x : Part). p x.object.kind ≡ false) ps
      → ids_with p (map part_entry ps) ≡ []
  no_parts [] h = refl
  no_parts (x ∷ ps) h = rw h.0 (no_parts ps h.1)

  -- the sheets and not their parts, the parts alone, or neither
  sheets_alone : (ss : List Sheet) → Passes p true false ss → ids_with p (flat_map object_entries ss) ≡ sheet_ids ss
  sheets_alone [] h = refl
  sheets_alone (s ∷ ss) h = ids_with-append p (object_entries s) (flat_map object_entries ss)
      ∙ rw (h.0.0, no_parts s.parts h.0.1) (ap (λ ids. s.id ∷ ids) (sheets_alone ss h.1))

  their_parts : (ss : List Sheet) → Passes p false true ss → ids_with p (flat_map object_entries ss) ≡ parts_on ss
  their_parts [] h = refl
  their_parts (s ∷ ss) h = ids_with-append p (object_entries s) (flat_map object_entries ss)
      ∙ rw (h.0.0, all_parts s.parts h.0.1) (ap (λ ids. part_ids s.parts ++ ids) (their_parts ss h.1))

  neither : (ss : List Sheet) → Passes p false false ss → ids_with p (flat_map object_entries ss) ≡ []
  neither [] h = refl
  neither (s ∷ ss) h = ids_with-append p (object_entries s) (flat_map object_entries ss)
      ∙ rw (h.0.0, no_parts s.parts h.0.1) (neither ss h.1)

-- The ids of a document, sort by sort.
module _ (d : Document) (is : IsDocument d) where
  module _ (p : Kind → Bool) (own part : Bool) where
    backgrounds_pass : ((c : Bool) → p (Background c) ≡ own) → ((v s : Bool) → p (BackgroundButton v s) ≡ part)
        → ((v l s : Bool) → p (BackgroundField v l s) ≡ part) → Passes p own part d.backgrounds
    backgrounds_pass a b c = each_so
        (λ s h. (
          for_backgrounds p own a s.object.kind h.is,
          each_so
              (λ x k. for_background_parts p part b c x.object.kind k.0) s.parts h.parts,
        )) d.backgrounds is.backgrounds

    cards_pass : ((b : ℕ) (c : Bool) → p (Card b c) ≡ own) → ((v h : Bool) → p (CardButton v h) ≡ part)
        → ((v l : Bool) → p (CardField v l) ≡ part) → Passes p own part d.cards
    cards_pass a b c = each_so (λ s h. (
      for_cards p own a s.object.kind h.is,
      each_so (λ x k. for_card_parts p part b c x.object.kind k.0) s.parts
          h.parts,
    )) d.cards is.cards

  split : (p : Kind → Bool) (bs cs : List ℕ) → p Stack ≡ false → ids_with p (flat_map object_entries d.backgrounds) ≡ bs
      → ids_with p (flat_map object_entries d.cards) ≡ cs → ids_with p (all_objects d) ≡ bs ++ cs
  split p bs cs no' b c = rw (is.stack, no')
      (ids_with-append p (flat_map object_entries d.backgrounds) (flat_map object_entries d.cards)
      ∙ ap₂ (λ x y. x ++ y) b c)

  pub ids-stack : ids_with is_stack (all_objects d) ≡ 0 ∷ []
  ids-stack =
      rw is.stack
      (ap (λ ids. 0 ∷ ids) (ids_with-append is_stack (flat_map object_entries d.backgrounds)
      (flat_map object_entries d.cards)
      ∙ ap₂ (λ x y. x ++ y) (neither is_stack d.backgrounds
      (backgrounds_pass is_stack false false (λ c. refl) (λ v s. refl) (λ v l s. refl)))
      (neither is_stack d.cards (cards_pass is_stack false false (λ b c. refl) (λ v h. refl) (λ v l. refl)))))

  pub ids-background : ids_with is_background (all_objects d) ≡ sheet_ids d.backgrounds
  ids-background = split is_background _ _ refl
      (sheets_alone is_background d.backgrounds
      (backgrounds_pass is_background true false (λ c. refl) (λ v s. refl) (λ v l s. refl)))
      (neither is_background d.cards (cards_pass is_background false false (λ b c. refl) (λ v h. refl) (λ v l. refl)))
      ∙ append-nil (sheet_ids d.backgrounds)

  pub ids-card : ids_with is_card (all_objects d) ≡ sheet_ids d.cards
  ids-card = split is_card _ _ refl
      (neither is_card d.backgrounds (backgrounds_pass is_card false false (λ c. refl) (λ v s. refl) (λ v l s. refl)))
      (sheets_alone is_card d.cards (cards_pass is_card true false (λ b c. refl) (λ v h. refl) (λ v l. refl)))

  pub ids-layer : ids_with is_layer (all_objects d) ≡ sheet_ids d.backgrounds ++ sheet_ids d.cards
  ids-layer = split is_layer _ _ refl
      (sheets_alone is_layer d.backgrounds
      (backgrounds_pass is_layer true false (λ c. refl) (λ v s. refl) (λ v l s. refl)))
      (sheets_alone is_layer d.cards (cards_pass is_layer true false (λ b c. refl) (λ v h. refl) (λ v l. refl)))

  pub ids-card_part : ids_with is_card_part (all_objects d) ≡ parts_on d.cards
  ids-card_part = split is_card_part _ _ refl
      (neither is_card_part d.backgrounds
      (backgrounds_pass is_card_part false false (λ c. refl) (λ v s. refl) (λ v l s. refl)))
      (their_parts is_card_part d.cards (cards_pass is_card_part false true (λ b c. refl) (λ v h. refl) (λ v l. refl)))

  pub ids-background_part : ids_with is_background_part (all_objects d) ≡ parts_on d.backgrounds
  ids-background_part = split is_background_part _ _ refl
      (their_parts is_background_part d.backgrounds
      (backgrounds_pass is_background_part false true (λ c. refl) (λ v s. refl) (λ v l s. refl)))
      (neither is_background_part d.cards
      (cards_pass is_background_part false false (λ b c. refl) (λ v h. refl) (λ v l. refl)))
      ∙ append-nil (parts_on d.backgrounds)

-- what holds of the objects of each sheet holds of each object
module _ (P : Object → Type 0) where
  abbrev pub OnSheet : Sheet → Type 0
  OnSheet s = P s.object × AllByRecursion (λ (x : Part). P x.object) s.parts

  on_sheets : (ss : List Sheet) → AllByRecursion OnSheet ss
      → AllByRecursion (λ (e : ℕ × Object). P e.1) (flat_map object_entries ss)
  on_sheets ss h = each_join _ object_entries ss (each_so (λ s k. (k.0, each_map _ part_entry s.parts k.1)) ss h)

  pub each_object : (d : Document) → P d.stack → AllByRecursion OnSheet d.backgrounds → AllByRecursion OnSheet d.cards
      → AllByRecursion (λ (e : ℕ × Object). P e.1) (all_objects d)
  each_object d s b c = (
    s,
    each_append _ (flat_map object_entries d.backgrounds) (flat_map object_entries d.cards)
        (on_sheets d.backgrounds b) (on_sheets d.cards c),
  )

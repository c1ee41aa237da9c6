-- The ids of a document, and the keys of its entries.
use Rattle.std.proofs.Common.{◌≡◌, ℕ, ◌++◌, ◌+◌, ◌<◌, false, List, [], ◌∷◌, map, refl, ap, ap₂, ◌∙◌, arith, nat_eq, ◌≤◌}
use Rattle.std.proofs.Common.{Bool, true, cond, Some, sym, subst, ◌==◌, find, option_map, unwrap_or}
use Rattle.std.specs.List.{AllByRecursion, IsDistinct, flat_map}
use Rattle.std.proofs.lemmas.List.{map-append, append-nil}
use Rattle.std.proofs.lemmas.Bool.Decides.{nat_tests}
use Rattle.std.proofs.lemmas.Simd.{map-map}
use Rattle.stack_text.specs.declared.sheets.Part.{Part}
use Rattle.stack_text.specs.Document.{Sheet, Document, part_ids, sheet_ids, ids_on, ids_in, parts_of, background_or}
use Rattle.stack_text.specs.Listing.{part_entry, object_entries, parts_entry, all_objects, all_parts, contents_on}
use Rattle.stack_text.proofs.Entries.{keys, times, times-append, times-heads, times_once, once_times}
use Rattle.stack_text.proofs.Listable.{IsDocument, parts_on, IsBackgroundSheet, IsCardSheet, Keeps}
use Rattle.stack_text.proofs.Elements.{each_map, each_both}
use Rattle.stack_text.proofs.Forms.{Pairs}
use Rattle.stack_text.proofs.Rows.{row_of, rows_of}
use Rattle.stack_text.specs.declared.sheets.PartContent.{PartContent}
use Rattle.stack_text.specs.declared.sheets.Keeping.{Keeping}

keys-sheets : (ss : List Sheet) → keys (flat_map object_entries ss) ≡ flat_map ids_on ss
keys-sheets [] = refl
keys-sheets (s ∷ ss) =
    map-append (λ e. e.0) (object_entries s) (flat_map object_entries ss)
    ∙ ap₂ (λ (a b : List ℕ). (s.id ∷ a) ++ b) (map-map (λ e. e.0) part_entry s.parts) (keys-sheets ss)

-- the stack, and each id of the text
pub keys-objects : (d : Document) → keys (all_objects d) ≡ 0 ∷ ids_in d
keys-objects d = ap (λ ids. 0 ∷ ids)
    (map-append (λ e. e.0) (flat_map object_entries d.backgrounds) (flat_map object_entries d.cards)
    ∙ ap₂ (λ (a b : List ℕ). a ++ b) (keys-sheets d.backgrounds) (keys-sheets d.cards))

-- each background and each card
pub keys-parts : (d : Document) → keys (all_parts d) ≡ sheet_ids d.backgrounds ++ sheet_ids d.cards
keys-parts d = map-append (λ e. e.0) (map parts_entry d.backgrounds) (map parts_entry d.cards)
    ∙ ap₂ (λ (a b : List ℕ). a ++ b) (map-map (λ e. e.0) parts_entry d.backgrounds)
    (map-map (λ e. e.0) parts_entry d.cards)

pub times-ids : (q : ℕ) (d : Document)
    → times q (ids_in d) ≡ times q (sheet_ids d.backgrounds) + times q (parts_on d.backgrounds) + times q
    (sheet_ids d.cards) + times q (parts_on d.cards)
times-ids q d = omega (
  arith,
  times-append q (flat_map ids_on d.backgrounds) (flat_map ids_on d.cards),
  times-heads
      (λ s. s.id) (λ s. part_ids s.parts) q d.backgrounds,
  times-heads (λ s. s.id) (λ s. part_ids s.parts) q d.cards,
)

not_zero : (n : ℕ) (ids : List ℕ) → AllByRecursion (λ id. (0 < id) × (id < n)) ids
    → AllByRecursion (λ y. nat_eq 0 y ≡ false) ids
not_zero n [] h = tt
not_zero n (id ∷ ids) h = (grind (arith, nat_tests, h.0.0), not_zero n ids h.1)

-- the stack is an object of its own
pub with_stack_once : (n : ℕ) (ids : List ℕ) → AllByRecursion (λ id. (0 < id) × (id < n)) ids → IsDistinct nat_eq ids
    → IsDistinct nat_eq (0 ∷ ids)
unfolding IsDistinct
with_stack_once n ids h once = (not_zero n ids h, once)

module _ (d : Document) (is : IsDocument d) where
  pub objects_once : IsDistinct nat_eq (0 ∷ ids_in d)
  objects_once = with_stack_once d.next (ids_in d) is.ids is.once

  pub layers_once : IsDistinct nat_eq (sheet_ids d.backgrounds ++ sheet_ids d.cards)
  layers_once = once_times (sheet_ids d.backgrounds ++ sheet_ids d.cards)
      (λ q. omega (
        arith,
        times-ids q d,
        times_once (ids_in d) is.once q,
        times-append q (sheet_ids d.backgrounds)
            (sheet_ids d.cards),
      ))

  pub backgrounds_once : IsDistinct nat_eq (sheet_ids d.backgrounds)
  backgrounds_once =
      once_times (sheet_ids d.backgrounds) (λ q. omega (arith, times-ids q d, times_once (ids_in d) is.once q))

  pub cards_once : IsDistinct nat_eq (sheet_ids d.cards)
  cards_once = once_times (sheet_ids d.cards) (λ q. omega (arith, times-ids q d, times_once (ids_in d) is.once q))

  pub background_parts_once : IsDistinct nat_eq (parts_on d.backgrounds)
  background_parts_once =
      once_times (parts_on d.backgrounds) (λ q. omega (arith, times-ids q d, times_once (ids_in d) is.once q))

  pub card_parts_once : IsDistinct nat_eq (parts_on d.cards)
  card_parts_once = once_times (parts_on d.cards) (λ q. omega (arith, times-ids q d, times_once (ids_in d) is.once q))

  -- the parts of all backgrounds and of all cards are apart
  pub all_parts_once : (q : ℕ) → times q (parts_on d.backgrounds) + times q (parts_on d.cards) ≤ 1
  all_parts_once q = omega (arith, times-ids q d, times_once (ids_in d) is.once q)

-- ---- the ids under which a document keeps something

abbrev pub keeping_ids : List Keeping → List ℕ
keeping_ids ks = map (λ k. k.part) ks

keys-contents : (s : Sheet) → keys (contents_on s) ≡ part_ids s.parts ++ keeping_ids s.keepings
keys-contents s = map-append (λ e. e.0) (map (λ (p : Part). (p.id, p.content)) s.parts)
    (map (λ (k : Keeping). (k.part, k.content)) s.keepings)
    ∙ ap₂ (λ (a b : List ℕ). a ++ b) (map-map (λ e. e.0) (λ (p : Part). (p.id, p.content)) s.parts)
    (map-map (λ e. e.0) (λ (k : Keeping). (k.part, k.content)) s.keepings)

pub keys-shared : (bs : List Sheet) → AllByRecursion IsBackgroundSheet bs → keys (flat_map contents_on bs) ≡ parts_on bs
keys-shared [] h = refl
keys-shared (b ∷ bs) h =
    map-append (λ e. e.0) (contents_on b) (flat_map contents_on bs)
    ∙ ap₂ (λ (x y : List ℕ). x ++ y)
    (keys-contents b ∙ ap (λ (ks : List Keeping). part_ids b.parts ++ keeping_ids ks) h.0.none
    ∙ append-nil (part_ids b.parts)) (keys-shared bs h.1)

ids-kept : (ps : List Part) (ks : List Keeping) → Pairs Keeps ps ks → keeping_ids ks ≡ part_ids ps
ids-kept [] [] h = refl
ids-kept (p ∷ ps) (k ∷ ks) h = ap₂ (λ (a : ℕ) (b : List ℕ). a ∷ b) h.0.0 (ids-kept ps ks h.1)
ids-kept ps ks h = absurd h

pub keys-card : (bs : List Sheet) (c : Sheet) → IsCardSheet bs c
    → keys (contents_on c) ≡ part_ids c.parts ++ part_ids (parts_of bs (background_or c.object.kind))
keys-card bs c h = keys-contents c
    ∙ ap (λ (ids : List ℕ). part_ids c.parts ++ ids)
    (ids-kept (parts_of bs (background_or c.object.kind)) c.keepings h.keepings)

-- the parts of one sheet are among those of all
within_one : (q : ℕ) (ss : List Sheet) (id : ℕ) → times q (part_ids (parts_of ss id)) ≤ times q (parts_on ss)
within_one q [] id = omega arith
within_one q (s ∷ ss) id = by (s.id == id) (within_one q ss id)
  where
    by : (t : Bool) → times q (part_ids (parts_of ss id)) ≤ times q (parts_on ss)
        → times q (part_ids
        (unwrap_or (option_map (λ (x : Sheet). x.parts) (cond t (Some s) (find (λ x. x.id == id) ss))) []))
        ≤ times q (parts_on (s ∷ ss))
    by true k = omega (arith, times-append q (part_ids s.parts) (parts_on ss))
    by false k = omega (arith, k, times-append q (part_ids s.parts) (parts_on ss))

abbrev IsWithin : List Sheet → Sheet → Type 0
IsWithin all s = (q : ℕ) → times q (part_ids s.parts) ≤ times q (parts_on all)

each_within : (all ss : List Sheet) → ((q : ℕ) → times q (parts_on ss) ≤ times q (parts_on all))
    → AllByRecursion (IsWithin all) ss
each_within all [] h = tt
each_within all (s ∷ ss) h = (
  λ q. omega (arith, h q, times-append q (part_ids s.parts) (parts_on ss)),
  each_within all
      ss (λ q. omega (arith, h q, times-append q (part_ids s.parts) (parts_on ss))),
)

cons_within : (q x : ℕ) (xs ys : List ℕ) → times q xs ≤ times q ys → times q (x ∷ xs) ≤ times q (x ∷ ys)
cons_within q x xs ys h = elim (x == q)
    as (λ b. cond b (ℕ.suc (times q xs)) (times q xs) ≤ cond b (ℕ.suc (times q ys)) (times q ys))
    [ true ↦ omega (arith, h) | false ↦ h ]

module _ (d : Document) (is : IsDocument d) where
  -- no card stands twice, and none is 0
  pub rows_once : IsDistinct nat_eq (keys (rows_of d))
  rows_once =
      subst (λ (ids : List ℕ). IsDistinct nat_eq (0 ∷ ids)) (sym (map-map (λ e. e.0) row_of d.cards))
      (once_times (0 ∷ sheet_ids d.cards)
      (λ q. omega (
        arith,
        times_once (0 ∷ ids_in d) (objects_once d is) q,
        cons_within q 0 (sheet_ids d.cards)
            (ids_in d) (omega (arith, times-ids q d)),
      )))

  card_once : (c : Sheet) → IsCardSheet d.backgrounds c → IsWithin d.cards c → IsDistinct nat_eq (keys (contents_on c))
  card_once c card within =
      subst (λ ids. IsDistinct nat_eq ids) (sym (keys-card d.backgrounds c card))
      (once_times (part_ids c.parts ++ part_ids (parts_of d.backgrounds (background_or c.object.kind)))
      (λ q. omega (
        arith,
        all_parts_once d is q,
        within q,
        within_one q d.backgrounds (background_or c.object.kind),
        times-append q (part_ids c.parts) (part_ids (parts_of d.backgrounds (background_or c.object.kind))),
      )))

  -- in each row each part stands once
  pub each_once : AllByRecursion (λ (r : ℕ × List (ℕ × PartContent)). IsDistinct nat_eq (keys r.1)) (rows_of d)
  each_once = (
    subst (λ ids. IsDistinct nat_eq ids) (sym (keys-shared d.backgrounds is.backgrounds)) (background_parts_once d is),
    each_map _ row_of d.cards (each_both card_once d.cards is.cards (each_within d.cards d.cards (λ q. omega arith))),
  )

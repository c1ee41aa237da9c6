-- The stack that a document lists is listed by this document.
use Rattle.std.proofs.Common.{◌≡◌, ℕ, Bool, true, false, cond, true≢false, List, [], ◌∷◌, map, Option, Some, refl, sym}
use Rattle.std.proofs.Common.{ap, ap₂, subst, ◌∙◌, nat_eq, ◌||◌, eqb, eqb-true}
use Rattle.std.specs.Prelude.{IsTrue, option_and_then, option_map, unwrap_or, ◌==◌}
use Rattle.std.specs.Ordering.{nat_cmp}
use Rattle.std.specs.Cmp.{nat_cmp_total}
use Rattle.std.specs.FinMap.{get, find, from_entries, get-from_entries}
use Rattle.std.specs.List.{AllByRecursion, IsDistinct, flat_map}
use Rattle.object_table.specs.Content.{Content}
use Rattle.object_table.specs.Objects.{parts_at}
use Rattle.object_table.specs.declared.object.Object.{Object}
use Rattle.object_table.specs.declared.object.Kind.{Kind}
use Rattle.object_table.specs.declared.object.Kind.TheVariants.{Stack, CardButton, BackgroundButton, CardField}
use Rattle.object_table.specs.declared.object.Kind.TheVariants.{BackgroundField}
use Rattle.object_table.specs.Pairs.{pair_cmp}
use Rattle.object_table.proofs.Pairs.{pair_cmp_total}
use Rattle.stack_text.specs.declared.sheets.PartContent.{PartContent}
use Rattle.stack_text.specs.declared.sheets.PartContent.TheVariants.{Nothing, Written, Lit}
use Rattle.stack_text.specs.declared.sheets.Part.{Part}
use Rattle.stack_text.specs.declared.sheets.Keeping.{Keeping}
use Rattle.stack_text.specs.Document.{Sheet, Document, contains_id, part_ids, sheet_ids, parts_of, background_or}
use Rattle.stack_text.specs.Listing.{content_by, content_at, part_of, keeping_of, background_sheet, card_sheet}
use Rattle.stack_text.specs.Listing.{document_of, part_entry, object_entries, parts_entry, contents_on, written, lit}
use Rattle.stack_text.specs.Listing.{all_objects, all_parts, all_contents, content_of}
use Rattle.stack_text.proofs.Elements.{each_so, each_both, each_parts, each_joined, each_mapped, each_part_of}
use Rattle.stack_text.proofs.Entries.{found}
use Rattle.stack_text.proofs.Forms.{Pairs}
use Rattle.stack_text.proofs.Listable.{IsBackgroundSheet, IsCardSheet, IsDocument, Suits, Keeps}
use Rattle.stack_text.proofs.DocumentIds.{keys-objects, keys-parts, objects_once, layers_once, rows_once, each_once}
use Rattle.stack_text.proofs.Rows.{row_of, rows_of, content-found}

-- what is kept under an id on a card, or as shared on card 0, is in the stack
abbrev pub IsContentIn : Content → ℕ → ℕ × PartContent → Type 0
IsContentIn s card e = (get s.texts (e.0, card) ≡ written e.1) × (get s.hilites (e.0, card) ≡ lit e.1)

module _ (d : Document) (is : IsDocument d) where
  -- each object of the document is in its stack
  pub objects_known : AllByRecursion (λ e. get (content_of d).objects e.0 ≡ Some e.1) (all_objects d)
  objects_known =
      let once : IsDistinct nat_eq _ =
      subst (λ ids. IsDistinct nat_eq ids) (sym (keys-objects d)) (objects_once d is) in
      each_so (λ e h. get-from_entries nat_cmp_total (all_objects d) e.0 ∙ h) (all_objects d)
      (found (all_objects d) once)

  -- each list of parts of the document is in its stack
  pub parts_known : AllByRecursion (λ e. get (content_of d).parts e.0 ≡ Some e.1) (all_parts d)
  parts_known =
      let once : IsDistinct nat_eq _ = subst (λ ids. IsDistinct nat_eq ids) (sym (keys-parts d)) (layers_once d is) in
      each_so (λ e h. get-from_entries nat_cmp_total (all_parts d) e.0 ∙ h) (all_parts d) (found (all_parts d) once)

  in_row : (r : ℕ × List (ℕ × PartContent)) → find nat_cmp r.0 (rows_of d) ≡ Some r.1
      → IsDistinct nat_eq (map (λ e. e.0) r.1) → AllByRecursion (IsContentIn (content_of d) r.0) r.1
  in_row r there once = each_so (λ e h. (kept written e h, kept lit e h)) r.1 (found r.1 once)
    where
      kept : {X : Type 0} (pick : PartContent → Option X) (e : ℕ × PartContent) → find nat_cmp e.0 r.1 ≡ Some e.1
          → get (from_entries {R = pair_cmp} (all_contents pick d)) (e.0, r.0) ≡ pick e.1
      kept pick e h =
          get-from_entries pair_cmp_total (all_contents pick d) (e.0, r.0)
          ∙ content-found pick d e.0 r.0 (rows_once d is) (each_once d is)
          ∙ ap (λ o. option_and_then (λ (row : List (ℕ × PartContent)). option_and_then pick (find nat_cmp e.0 row)) o)
          there
          ∙ ap (option_and_then pick) h

  -- what the document keeps is in its stack
  pub contents_known : AllByRecursion
      (λ (r : ℕ × List (ℕ × PartContent)). AllByRecursion (IsContentIn (content_of d) r.0) r.1) (rows_of d)
  contents_known = each_both in_row (rows_of d) (found (rows_of d) (rows_once d is)) (each_once d is)

-- what suits a kind is told by its text and its hilite
pub content_again : (k : Kind) (x : PartContent) → Suits k x
    → content_by k (unwrap_or (written x) []) (unwrap_or (lit x) false) ≡ x
content_again (BackgroundButton v s) (Lit b) h = refl
content_again (CardField v l) (Written t) h = refl
content_again (BackgroundField v l s) (Written t) h = refl
content_again (CardButton v b) Nothing h = refl
content_again k x h = absurd h

-- The sheets of a stack that has the entries are the sheets that these were made of.
module _ (s : Content) where
  abbrev HasObject : Part → Type 0
  HasObject p = get s.objects p.id ≡ Some p.object

  parts_again : (card : ℕ) (ps : List Part) → AllByRecursion HasObject ps
      → AllByRecursion (λ (p : Part). IsContentIn s card (p.id, p.content)) ps
      → AllByRecursion (λ (p : Part). Suits p.object.kind p.content) ps → map (part_of s card) (part_ids ps) ≡ ps
  parts_again card [] h k suits = refl
  parts_again card (p ∷ ps) h k suits = rw (h.0, k.0.0, k.0.1, content_again p.object.kind p.content suits.0)
      (ap (λ (qs : List Part). p ∷ qs) (parts_again card ps h.1 k.1 suits.1))

  keepings_again : (card : ℕ) (ps : List Part) (ks : List Keeping) → Pairs Keeps ps ks → AllByRecursion HasObject ps
      → AllByRecursion (λ (k : Keeping). IsContentIn s card (k.part, k.content)) ks
      → map (keeping_of s card) (part_ids ps) ≡ ks
  keepings_again card [] [] pairs h k = refl
  keepings_again card [] (x ∷ ks) pairs h k = absurd pairs
  keepings_again card (p ∷ ps) [] pairs h k = absurd pairs
  keepings_again card (p ∷ ps) (x ∷ ks) pairs h k =
      ap₂ (λ (y : Keeping) (ys : List Keeping). y ∷ ys) one (keepings_again card ps ks pairs.1 h.1 k.1)
    where
      same : content_at s card p.id ≡ x.content
      same =
          ap (λ (o : Option Object). content_by (unwrap_or o (record { name = []; script = []; kind = Stack })).kind
          (unwrap_or (get s.texts (p.id, card)) []) (unwrap_or (get s.hilites (p.id, card)) false)) h.0
          ∙ ap (λ (id : ℕ). content_by p.object.kind (unwrap_or (get s.texts (id, card)) [])
          (unwrap_or (get s.hilites (id, card)) false)) (sym pairs.0.0)
          ∙ ap₂ (λ (t : Option (List ℕ)) (b : Option Bool). content_by p.object.kind (unwrap_or t [])
          (unwrap_or b false)) k.0.0 k.0.1
          ∙ content_again p.object.kind x.content pairs.0.1

      one : keeping_of s card p.id ≡ x
      one = ap₂ (λ (a : ℕ) (b : PartContent). let y : Keeping = record { part = a; content = b } in y) (sym pairs.0.0)
          same

  -- the list of the parts of a background that is listed
  parts_there : (bs : List Sheet) (id : ℕ) → AllByRecursion (λ b. get s.parts b.id ≡ Some (part_ids b.parts)) bs
      → IsTrue (contains_id id (sheet_ids bs)) → parts_at s id ≡ part_ids (parts_of bs id)
  parts_there [] id h e = absurd (true≢false (sym e))
  parts_there (b ∷ bs) id h e = by (eqb b.id id) refl e (parts_there bs id h.1)
    where
      at : Bool → List Part
      at t = unwrap_or (option_map (λ (x : Sheet). x.parts)
          (cond t (Some b) (Rattle.std.specs.Prelude.find (λ x. x.id == id) bs))) []

      by : (t : Bool) → eqb b.id id ≡ t → IsTrue (t || contains_id id (sheet_ids bs))
          → (IsTrue (contains_id id (sheet_ids bs)) → parts_at s id ≡ part_ids (parts_of bs id))
          → parts_at s id ≡ part_ids (parts_of (b ∷ bs) id)
      by true same k others = ap (λ o. unwrap_or o []) (ap (get s.parts) (sym (eqb-true b.id id same)) ∙ h.0)
          ∙ sym (ap (λ t. part_ids (at t)) same)
      by false other k others = others k ∙ sym (ap (λ t. part_ids (at t)) other)

  abbrev HasObjects : Sheet → Type 0
  HasObjects x = AllByRecursion (λ e. get s.objects e.0 ≡ Some e.1) (object_entries x)

  own_objects : (x : Sheet) → HasObjects x → AllByRecursion HasObject x.parts
  own_objects x h = each_mapped _ part_entry x.parts h.1

  background_again : (b : Sheet) → IsBackgroundSheet b → HasObjects b → get s.parts b.id ≡ Some (part_ids b.parts)
      → AllByRecursion (IsContentIn s 0) (contents_on b) → background_sheet s b.id ≡ b
  background_again b is h k kept =
      let own = (each_parts _ (map (λ (p : Part). (p.id, p.content)) b.parts)
      (map (λ (x : Keeping). (x.part, x.content)) b.keepings) kept).0 in
      let parts = parts_again 0 b.parts (own_objects b h) (each_mapped _ (λ (p : Part). (p.id, p.content)) b.parts own)
      (each_so (λ p q. q.1.1) b.parts is.parts) in
      rw (h.0, k)
      (ap₂ (λ (ps : List Part) (ks : List Keeping). let x : Sheet =
      record { id = b.id; object = b.object; parts = ps; keepings = ks } in x) parts (sym is.none))

  backgrounds_again : (bs : List Sheet) → AllByRecursion IsBackgroundSheet bs → AllByRecursion HasObjects bs
      → AllByRecursion (λ b. get s.parts b.id ≡ Some (part_ids b.parts)) bs
      → AllByRecursion (λ b. AllByRecursion (IsContentIn s 0) (contents_on b)) bs
      → map (background_sheet s) (sheet_ids bs) ≡ bs
  backgrounds_again [] is h k kept = refl
  backgrounds_again (b ∷ bs) is h k kept = ap₂ (λ (c : Sheet) (cs : List Sheet). c ∷ cs)
      (background_again b is.0 h.0 k.0 kept.0) (backgrounds_again bs is.1 h.1 k.1 kept.1)

  module _ (bs : List Sheet) (objects : AllByRecursion HasObjects bs)
      (lists : AllByRecursion (λ b. get s.parts b.id ≡ Some (part_ids b.parts)) bs) where
    card_again : (c : Sheet) → IsCardSheet bs c → HasObjects c → get s.parts c.id ≡ Some (part_ids c.parts)
        → AllByRecursion (IsContentIn s c.id) (contents_on c) → card_sheet s c.id ≡ c
    card_again c is h k kept =
        let both = each_parts _ (map (λ (p : Part). (p.id, p.content)) c.parts)
        (map (λ (x : Keeping). (x.part, x.content)) c.keepings) kept in
        let parts = parts_again c.id c.parts (own_objects c h)
        (each_mapped _ (λ (p : Part). (p.id, p.content)) c.parts both.0)
        (each_so (λ p q. q.1.1) c.parts is.parts) in
        let of_background = each_part_of HasObject bs (background_or c.object.kind) (each_so own_objects bs objects) in
        let keepings = ap (map (keeping_of s c.id)) (parts_there bs (background_or c.object.kind) lists is.on)
        ∙ keepings_again c.id (parts_of bs (background_or c.object.kind)) c.keepings is.keepings of_background
        (each_mapped _ (λ (x : Keeping). (x.part, x.content)) c.keepings both.1) in
        rw (h.0, k)
        (ap₂ (λ (ps : List Part) (ks : List Keeping). let x : Sheet =
        record { id = c.id; object = c.object; parts = ps; keepings = ks } in x) parts keepings)

    cards_again : (cs : List Sheet) → AllByRecursion (IsCardSheet bs) cs → AllByRecursion HasObjects cs
        → AllByRecursion (λ c. get s.parts c.id ≡ Some (part_ids c.parts)) cs
        → AllByRecursion (λ c. AllByRecursion (IsContentIn s c.id) (contents_on c)) cs
        → map (card_sheet s) (sheet_ids cs) ≡ cs
    cards_again [] is h k kept = refl
    cards_again (c ∷ cs) is h k kept = ap₂ (λ (x : Sheet) (xs : List Sheet). x ∷ xs) (card_again c is.0 h.0 k.0 kept.0)
        (cards_again cs is.1 h.1 k.1 kept.1)

same_documents : (d e : Document) → e.next ≡ d.next → e.stack ≡ d.stack → e.backgrounds ≡ d.backgrounds
    → e.cards ≡ d.cards → e ≡ d
same_documents d e n m b c i = record { next = n i; stack = m i; backgrounds = b i; cards = c i }

-- what a document lists is listed by this document
pub listed_again : (d : Document) → IsDocument d → document_of (content_of d) ≡ d
listed_again d is =
    let s : Content = content_of d in
    let objects = objects_known d is in
    let layers = each_parts _ (flat_map object_entries d.backgrounds) (flat_map object_entries d.cards) objects.1 in
    let on_backgrounds = each_joined _ object_entries d.backgrounds layers.0 in
    let lists = each_parts _ (map parts_entry d.backgrounds) (map parts_entry d.cards) (parts_known d is) in
    let of_backgrounds = each_mapped _ parts_entry d.backgrounds lists.0 in
    let kept = contents_known d is in
    same_documents d (document_of s) refl (rw objects.0 refl)
    (backgrounds_again s d.backgrounds is.backgrounds on_backgrounds of_backgrounds
    (each_joined _ contents_on d.backgrounds kept.0))
    (cards_again s d.backgrounds on_backgrounds of_backgrounds d.cards is.cards
    (each_joined _ object_entries d.cards layers.1) (each_mapped _ parts_entry d.cards lists.1)
    (each_mapped _ row_of d.cards kept.1))

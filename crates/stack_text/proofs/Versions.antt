-- What a version can say, of a stack and of its document.
use Rattle.std.proofs.Common.{◌≡◌, ◌⊎◌, inl, inr, ℕ, Bool, false, true≢false, List, [], map, Option, Some, None}
use Rattle.std.proofs.Common.{IfSome, IsTrue, unwrap_or, refl, sym, subst, ◌∙◌}
use Rattle.std.specs.FinMap.{get}
use Rattle.std.specs.List.{AllByRecursion}
use Rattle.std.proofs.lemmas.Bool.{cases_eq}
use Rattle.std.proofs.lemmas.Option.{IfSome_then}
use Rattle.object_table.specs.Content.{Content}
use Rattle.object_table.specs.Objects.{is_stack, is_background, is_card, is_card_part, has_kind, parts_at}
use Rattle.object_table.specs.PartContents.{hilite_at}
use Rattle.object_table.specs.WellFormed.{IsWellFormed}
use Rattle.object_table.specs.declared.object.Object.{Object}
use Rattle.object_table.specs.declared.object.Kind.{Kind}
use Rattle.object_table.specs.declared.object.Kind.TheVariants.{Stack, BackgroundButton}
use Rattle.object_table.proofs.Slots.{tied_apart}
use Rattle.stack_text.specs.declared.sheets.PartContent.{PartContent}
use Rattle.stack_text.specs.declared.sheets.PartContent.TheVariants.{Lit}
use Rattle.stack_text.specs.declared.sheets.Part.{Part}
use Rattle.stack_text.specs.declared.sheets.Keeping.{Keeping}
use Rattle.stack_text.specs.Document.{Sheet, Document, background_or}
use Rattle.stack_text.specs.Spelling.{Version, first, second}
use Rattle.stack_text.specs.Listing.{object_or, content_by, part_of, keeping_of, background_sheet, card_sheet}
use Rattle.stack_text.specs.Listing.{document_of, contents_on, lit, content_of}
use Rattle.stack_text.specs.Laws.{SharesHilite, HasSharedHilites, IsSaidIn}
use Rattle.stack_text.proofs.Elements.{each_so, each_both, each_append, each_map, each_true}
use Rattle.stack_text.proofs.Listable.{IsCardSheet, IsDocument, SaysParts, SaysKeepings, Says, Suits, Unlit}
use Rattle.stack_text.proofs.Live.{cards_live, never_both, stack_or_card}
use Rattle.stack_text.proofs.Rows.{row_of, looked_up_each}
use Rattle.stack_text.proofs.Sorts.{OnSheet, each_object}
use Rattle.stack_text.proofs.Contents.{at_each, content-is}

-- ---- from a document

no_button : (p : Kind → Bool) → ((v s : Bool) → p (BackgroundButton v s) ≡ false) → (k : Kind) → IsTrue (p k)
    → SharesHilite k
no_button p never (BackgroundButton v s) h = absurd (true≢false (sym h ∙ never v s))
no_button p never k h = tt

-- a card's own part has no hilite beside it
own_unlit : (k : Kind) (x : PartContent) → IsTrue (is_card_part k) → Suits k x → Unlit x
own_unlit (BackgroundButton a b) (Lit l) is h = absurd (true≢false (sym is))
own_unlit k (Lit l) is h = absurd h
own_unlit k x is h = tt

abbrev AreUnlit : List (ℕ × PartContent) → Type 0
AreUnlit row = AllByRecursion (λ (e : ℕ × PartContent). Unlit e.1) row

card-unlit : (bs : List Sheet) (c : Sheet) → IsCardSheet bs c → SaysKeepings first c → AreUnlit (contents_on c)
card-unlit bs c is says =
    each_append _ (map (λ (p : Part). (p.id, p.content)) c.parts)
    (map (λ (x : Keeping). (x.part, x.content)) c.keepings)
    (each_map _ (λ (p : Part). (p.id, p.content)) c.parts
    (each_so {Q = λ (p : Part). Unlit p.content} (λ p h. own_unlit p.object.kind p.content h.0 h.1.1) c.parts
    is.parts))
    (each_map _ (λ (x : Keeping). (x.part, x.content)) c.keepings says)

either_way : (o : Option Bool) (A : Type 0) → IfSome o (λ b. b ≡ false) → IfSome o (λ b. A ⊎ (b ≡ false))
either_way o A h = IfSome_then o h (λ b e. inr e)

anyway : (o : Option Bool) (A : Type 0) → A → IfSome o (λ b. A ⊎ (b ≡ false))
anyway None A h = tt
anyway (Some b) A h = inl h

module _ (d : Document) (is : IsDocument d) where
  shared-said : Says first d → (id : ℕ) → IfSome (get (content_of d).objects id) (λ o. SharesHilite o.kind)
  shared-said says =
      at_each d is _ (each_object (λ o. SharesHilite o.kind) d (subst (λ k. SharesHilite k) (sym is.stack) tt)
      (each_both {R = OnSheet (λ o. SharesHilite o.kind)}
      (λ b h s. (no_button is_background (λ v t. refl) b.object.kind h.is, s)) d.backgrounds is.backgrounds says.0)
      (each_so {Q = OnSheet (λ o. SharesHilite o.kind)}
      (λ c h. (
        no_button is_card (λ v t. refl) c.object.kind h.is,
        each_so
            {Q = λ (x : Part). SharesHilite x.object.kind}
            (λ p q. no_button is_card_part (λ v t. refl) p.object.kind q.0)
            c.parts h.parts,
      )) d.cards is.cards))

  unlit-said : Says first d → (button card : ℕ)
      → IfSome (hilite_at (content_of d) button card) (λ b. (card ≡ 0) ⊎ (b ≡ false))
  unlit-said says button card = elim (cases_eq card 0) [
    | inl k ↦ anyway (hilite_at (content_of d) button card) (card ≡ 0) k
    | inr k ↦ either_way (hilite_at (content_of d) button card) (card ≡ 0)
        (subst (λ o. IfSome o (λ b. b ≡ false)) (sym (content-is d is lit button card))
        (rw (tied_apart card 0 k) (looked_up_each lit (λ b. b ≡ false) button card (map row_of d.cards) rows)))
  ]
    where
      rows : AllByRecursion (λ (r : ℕ × List (ℕ × PartContent)). AreUnlit r.1) (map row_of d.cards)
      rows = each_map _ row_of d.cards (each_both (card-unlit d.backgrounds) d.cards is.cards says.1)

  -- what a version says of a document it can say of its stack
  pub said_in_stack : (v : Version) → Says v d → IsSaidIn v (content_of d)
  said_in_stack first says = record { shared = shared-said says; unlit = unlit-said says }
  said_in_stack second says = tt

-- ---- from a stack

shares : (o : Option Object) → IfSome o (λ x. SharesHilite x.kind)
    → SharesHilite (unwrap_or o (record { name = []; script = []; kind = Stack })).kind
shares None h = tt
shares (Some o) h = h

is_unlit : (k : Kind) (t : List ℕ) (o : Option Bool) → IfSome o (λ b. b ≡ false)
    → Unlit (content_by k t (unwrap_or o false))
is_unlit (BackgroundButton a b) t None h = refl
is_unlit (BackgroundButton a b) t (Some x) h = h
is_unlit k t o h = tt

not_here : (o : Option Bool) (A : Type 0) → (A → ⊥) → IfSome o (λ b. A ⊎ (b ≡ false)) → IfSome o (λ b. b ≡ false)
not_here o A no' h = IfSome_then o h (λ b s. elim s [ inl a ↦ absurd (no' a) | inr e ↦ e ])

module _ (s : Content) (is : IsWellFormed s) where
  parts-said : HasSharedHilites s → (id : ℕ) → SaysParts first (background_sheet s id)
  parts-said says id = each_map _ (part_of s 0) (parts_at s id)
      (each_true _ (λ p. shares (get s.objects p) (says.shared p)) (parts_at s id))

  keepings-said : HasSharedHilites s → (card : ℕ) → IsTrue (has_kind is_card s card)
      → SaysKeepings first (card_sheet s card)
  keepings-said says card live =
      let no_zero : card ≡ 0 → ⊥ = λ e. never_both is_stack is_card stack_or_card (get s.objects 0)
      ((is.stack 0).1 refl) (subst (λ c. IsTrue (has_kind is_card s c)) e live) in
      let ids = parts_at s (background_or (object_or s card).kind) in
      each_map _ (keeping_of s card) ids
      (each_true _ (λ p. is_unlit (object_or s p).kind _ (hilite_at s p card)
      (not_here (hilite_at s p card) (card ≡ 0) no_zero (says.unlit p card))) ids)

  all_second : Says second (document_of s)
  all_second = (
    each_true _ (λ b. each_true _ (λ p. tt) b.parts) (document_of s).backgrounds,
    each_true _
        (λ c. each_true _ (λ k. tt) c.keepings) (document_of s).cards,
  )

  -- and what it can say of the stack, of its document
  pub said_in_document : (v : Version) → IsSaidIn v s → Says v (document_of s)
  said_in_document first says = (
    each_map _ (background_sheet s) s.backgrounds
        (each_true _ (parts-said says) s.backgrounds),
    each_map _ (card_sheet s) s.cards
        (each_so (keepings-said says) s.cards (cards_live s is)),
  )
  said_in_document second says = all_second

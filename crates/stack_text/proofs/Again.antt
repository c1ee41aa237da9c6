-- A well-formed stack is what its document lists.
use Rattle.std.proofs.Common.{◌≡◌, ◌↔◌, Bool, true, false, true≢false, cond, Option, Some, None, IsSome, IsTrue}
use Rattle.std.proofs.Common.{unwrap_or, refl, sym, ◌∙◌, []}
use Rattle.std.specs.FinMap.{same_map}
use Rattle.object_table.specs.Content.{Content}
use Rattle.object_table.specs.PartContents.{text_at, hilite_at, keeps_text, keeps_hilite}
use Rattle.object_table.specs.WellFormed.{IsWellFormed}
use Rattle.object_table.proofs.Pairs.{pair_cmp_total, pair_cmp-IsAntisymmetric}
use Rattle.stack_text.specs.Listing.{written, lit, document_of, content_of}
use Rattle.stack_text.proofs.Keepers.{HasLayers, text_listed, hilite_listed}
use Rattle.stack_text.proofs.Stacks.{document_listed, backgrounds-listed, cards-listed, same_objects, same_parts}
use Rattle.stack_text.proofs.Contents.{content-is}

-- where a value is there just where one is kept, it is that one
there_where_kept : {X : Type 0} (b : Bool) (x : X) (o : Option X) → IsSome o ↔ IsTrue b
    → cond b (Some (unwrap_or o x)) None ≡ o
there_where_kept true x None h = absurd (true≢false (sym (h.1 refl)))
there_where_kept true x (Some y) h = refl
there_where_kept false x None h = refl
there_where_kept false x (Some y) h = absurd (true≢false (sym (h.0 refl)))

module _ (s : Content) (is : IsWellFormed s) where
  layers_known : HasLayers s
  layers_known = record {
    backgrounds = is.backgrounds;
    cards = is.cards;
    layers = λ id h. (is.layers id).0 h;
    card_parts = is.card_parts;
    background_parts = is.background_parts;
    on_background = is.on_background;
    stack = (is.stack 0).1 refl;
  }

  same_texts : (content_of (document_of s)).texts ≡ s.texts
  same_texts = same_map pair_cmp_total pair_cmp-IsAntisymmetric _ _
      (λ q. content-is (document_of s) (document_listed s is) written q.0 q.1 ∙ text_listed s layers_known q.0 q.1
      ∙ there_where_kept (keeps_text s q.0 q.1) [] (text_at s q.0 q.1) (is.texts q.0 q.1))

  same_hilites : (content_of (document_of s)).hilites ≡ s.hilites
  same_hilites = same_map pair_cmp_total pair_cmp-IsAntisymmetric _ _
      (λ q. content-is (document_of s) (document_listed s is) lit q.0 q.1 ∙ hilite_listed s layers_known q.0 q.1
      ∙ there_where_kept (keeps_hilite s q.0 q.1) false (hilite_at s q.0 q.1) (is.hilites q.0 q.1))

same_contents : (s t : Content) → t.objects ≡ s.objects → t.backgrounds ≡ s.backgrounds → t.cards ≡ s.cards
    → t.parts ≡ s.parts → t.texts ≡ s.texts → t.hilites ≡ s.hilites → t.next ≡ s.next → t ≡ s
same_contents s t o b c p x h n =
    λ i. record { objects = o i; backgrounds = b i; cards = c i; parts = p i; texts = x i; hilites = h i; next = n i }

-- a well-formed stack is what its document lists
pub relisted_again : (s : Content) → IsWellFormed s → content_of (document_of s) ≡ s
relisted_again s is = same_contents s (content_of (document_of s)) (same_objects s is)
    (backgrounds-listed s s.backgrounds) (cards-listed s s.cards) (same_parts s is) (same_texts s is)
    (same_hilites s is) refl

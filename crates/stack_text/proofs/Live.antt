-- What a well-formed stack holds, kind by kind.
use Rattle.std.proofs.Common.{◌≡◌, ℕ, Bool, false, true≢false, List, [], ◌∷◌, Option, Some, None, IsSome, IsTrue}
use Rattle.std.proofs.Common.{unwrap_or, option_map, refl, sym, ◌∙◌, ◌==◌, ◌⊎◌, inl}
use Rattle.std.specs.FinMap.{get}
use Rattle.std.specs.List.{AllByRecursion, flat_map}
use Rattle.std.proofs.lemmas.Bool.{or_left, or_right, eq-eqb, or_cases}
use Rattle.object_table.specs.Content.{Content}
use Rattle.object_table.specs.Objects.{is_background, is_card, is_card_part, is_background_part, is_layer, has_kind}
use Rattle.object_table.specs.Objects.{parts_at, is_stack, background_of}
use Rattle.object_table.specs.WellFormed.{NamesEach, IsWellFormed}
use Rattle.object_table.specs.declared.object.Object.{Object}
use Rattle.object_table.specs.declared.object.Kind.{Kind}
use Rattle.object_table.specs.declared.object.Kind.TheVariants.{Stack, Card}
use Rattle.stack_text.specs.Document.{contains_id, background_or}
use Rattle.stack_text.proofs.Elements.{each_joined}

-- each id of a list is in it
pub each_member : (P : ℕ → Type 0) (ids : List ℕ) → ((id : ℕ) → IsTrue (contains_id id ids) → P id)
    → AllByRecursion P ids
each_member P [] h = tt
each_member P (id ∷ ids) h = (
  h id (or_left (id == id) (contains_id id ids) (eq-eqb id id refl)),
  each_member P ids
      (λ x k. h x (or_right (id == x) (contains_id x ids) k)),
)

pub each_named : (p : ℕ → Bool) (ids : List ℕ) → NamesEach p ids → AllByRecursion (λ id. IsTrue (p id)) ids
each_named p ids names = each_member (λ id. IsTrue (p id)) ids (λ id h. sym (names.each id) ∙ h)

-- whether an object has a kind that passes; none has
abbrev pub passes : (Kind → Bool) → Option Object → Bool
passes p o = unwrap_or (option_map (λ x. p x.kind) o) false

-- an object has one kind
pub never_both : (p q : Kind → Bool) → ((k : Kind) → IsTrue (p k) → IsTrue (q k) → ⊥) → (o : Option Object)
    → IsTrue (passes p o) → IsTrue (passes q o) → ⊥
never_both p q no' None h k = true≢false (sym h)
never_both p q no' (Some o) h k = no' o.kind h k

pub stack_or_card : (k : Kind) → IsTrue (is_stack k) → IsTrue (is_card k) → ⊥
stack_or_card Stack h k = true≢false (sym k)
stack_or_card kind h k = true≢false (sym h)

pub layer_cases : (o : Option Object) → IsTrue (passes is_layer o)
    → IsTrue (passes is_background o) ⊎ IsTrue (passes is_card o)
layer_cases None h = inl h
layer_cases (Some o) h = or_cases (is_background o.kind) (is_card o.kind) h

-- a card is on a background
pub card_background : (k : Kind) → IsTrue (is_card k) → background_of k ≡ Some (background_or k)
card_background (Card b c) h = refl
card_background k h = absurd (true≢false (sym h))

list_there : (o : Option (List ℕ)) → IsSome o → o ≡ Some (unwrap_or o [])
list_there None h = absurd (true≢false (sym h))
list_there (Some xs) h = refl

module _ (s : Content) (is : IsWellFormed s) where
  pub backgrounds_live : AllByRecursion (λ id. IsTrue (has_kind is_background s id)) s.backgrounds
  backgrounds_live = each_named (has_kind is_background s) s.backgrounds is.backgrounds

  pub cards_live : AllByRecursion (λ id. IsTrue (has_kind is_card s id)) s.cards
  cards_live = each_named (has_kind is_card s) s.cards is.cards

  -- the parts of a background, and of a card
  pub background_parts_live : AllByRecursion
      (λ b. AllByRecursion (λ id. IsTrue (has_kind is_background_part s id)) (parts_at s b)) s.backgrounds
  background_parts_live = each_joined _ (parts_at s) s.backgrounds
      (each_named (has_kind is_background_part s) (flat_map (parts_at s) s.backgrounds) is.background_parts)

  pub card_parts_live : AllByRecursion (λ c. AllByRecursion (λ id. IsTrue (has_kind is_card_part s id)) (parts_at s c))
      s.cards
  card_parts_live = each_joined _ (parts_at s) s.cards
      (each_named (has_kind is_card_part s) (flat_map (parts_at s) s.cards) is.card_parts)

  -- a layer has a list of parts
  pub list_of_layer : (id : ℕ) → IsTrue (has_kind is_layer s id) → get s.parts id ≡ Some (parts_at s id)
  list_of_layer id h = list_there (get s.parts id) ((is.layers id).1 h)

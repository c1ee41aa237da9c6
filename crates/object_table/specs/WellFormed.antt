-- When a stack is well formed.
use Rattle.std.specs.Prelude.{◌≡◌, ◌↔◌, ℕ, ◌<◌, ◌≤◌, Bool, IsTrue, List, length, flat_map, Some, IsSome, IfSome, nat_eq}
use Rattle.std.specs.List.{IsDistinct}
use Rattle.std.specs.FinMap.{get}
use Rattle.ht_values.specs.Text.{IsText}
use Rattle.object_table.specs.Content.{Content}
use Rattle.object_table.specs.PartContents.{text_at, hilite_at, keeps_text, keeps_hilite}
use Rattle.object_table.specs.Objects.{is_stack, is_background, is_card, is_card_part, is_background_part, is_layer}
use Rattle.object_table.specs.Objects.{has_kind, object_at, parts_at, contains_id, background_at, object_count}

-- the list has each id that passes, once, and no other
pub record NamesEach (p : ℕ → Bool) (ids : List ℕ) : Type 0 where
  pub once : IsDistinct nat_eq ids
  pub each : (id : ℕ) → contains_id id ids ≡ p id

pub record IsWellFormed (s : Content) : Type 0 where
  -- each order names each live object of its kind once and nothing else
  pub backgrounds : NamesEach (has_kind is_background s) s.backgrounds
  pub cards : NamesEach (has_kind is_card s) s.cards
  -- a layer, and nothing else, has a list of parts; together these name each part once and nothing else
  pub layers : (id : ℕ) → IsSome (get s.parts id) ↔ IsTrue (has_kind is_layer s id)
  pub card_parts : NamesEach (has_kind is_card_part s) (flat_map (parts_at s) s.cards)
  pub background_parts : NamesEach (has_kind is_background_part s) (flat_map (parts_at s) s.backgrounds)
  -- each card's background is live, there is a background, and each background has a card
  pub on_background : (card : ℕ) → IfSome (background_at s card) (λ b. IsTrue (has_kind is_background s b))
  pub some_background : 1 ≤ length s.backgrounds
  pub some_card : (id : ℕ) → IsTrue (has_kind is_background s id) → (card : ℕ) × (background_at s card ≡ Some id)
  -- id 0 is the stack, and it alone
  pub stack : (id : ℕ) → IsTrue (has_kind is_stack s id) ↔ (id ≡ 0)
  -- ids and their number
  pub ids : (id : ℕ) → IsSome (object_at s id) → id < s.next
  pub next_low : 3 ≤ s.next
  pub next_high : s.next ≤ 1000001
  pub few : object_count s ≤ 10000
  -- every name and every script is a text
  pub names : (id : ℕ) → IfSome (object_at s id) (λ o. IsText o.name × IsText o.script)
  -- a text stands for just the fields and cards that keep one, and is a text
  pub texts : (field card : ℕ) → IsSome (text_at s field card) ↔ IsTrue (keeps_text s field card)
  pub field_texts : (field card : ℕ) → IfSome (text_at s field card) IsText
  -- a hilite stands for just the buttons and cards that keep one
  pub hilites : (button card : ℕ) → IsSome (hilite_at s button card) ↔ IsTrue (keeps_hilite s button card)

-- A stack that is well formed but for backgrounds that have no card yet.
use Rattle.std.proofs.Common.{◌≡◌, ℕ, ◌<◌, ◌≤◌, IsSome, IsTrue, IfSome, Some, flat_map, length, ◌↔◌}
use Rattle.std.specs.FinMap.{get}
use Rattle.ht_values.specs.Text.{IsText}
use Rattle.object_table.specs.Content.{Content}
use Rattle.object_table.specs.PartContents.{text_at, hilite_at, keeps_text, keeps_hilite}
use Rattle.object_table.specs.Objects.{is_stack, is_background, is_card, is_card_part, is_background_part, is_layer}
use Rattle.object_table.specs.Objects.{has_kind, object_at, parts_at, background_at, object_count}
use Rattle.object_table.specs.WellFormed.{NamesEach, IsWellFormed}

pub record IsFormed (s : Content) : Type 0 where
  pub backgrounds : NamesEach (has_kind is_background s) s.backgrounds
  pub cards : NamesEach (has_kind is_card s) s.cards
  pub layers : (id : ℕ) → IsSome (get s.parts id) ↔ IsTrue (has_kind is_layer s id)
  pub card_parts : NamesEach (has_kind is_card_part s) (flat_map (parts_at s) s.cards)
  pub background_parts : NamesEach (has_kind is_background_part s) (flat_map (parts_at s) s.backgrounds)
  pub on_background : (card : ℕ) → IfSome (background_at s card) (λ b. IsTrue (has_kind is_background s b))
  pub some_background : 1 ≤ length s.backgrounds
  pub stack : (id : ℕ) → IsTrue (has_kind is_stack s id) ↔ (id ≡ 0)
  pub ids : (id : ℕ) → IsSome (object_at s id) → id < s.next
  pub next_low : 3 ≤ s.next
  pub next_high : s.next ≤ 1000001
  pub few : object_count s ≤ 10000
  pub names : (id : ℕ) → IfSome (object_at s id) (λ o. IsText o.name × IsText o.script)
  pub texts : (field card : ℕ) → IsSome (text_at s field card) ↔ IsTrue (keeps_text s field card)
  pub field_texts : (field card : ℕ) → IfSome (text_at s field card) IsText
  pub hilites : (button card : ℕ) → IsSome (hilite_at s button card) ↔ IsTrue (keeps_hilite s button card)

abbrev pub HasCards : Content → Type 0
HasCards s = (id : ℕ) → IsTrue (has_kind is_background s id) → (card : ℕ) × (background_at s card ≡ Some id)

pub formed : (s : Content) → IsWellFormed s → IsFormed s
formed s w = record {
  backgrounds = w.backgrounds;
  cards = w.cards;
  layers = w.layers;
  card_parts = w.card_parts;
  background_parts = w.background_parts;
  on_background = w.on_background;
  some_background = w.some_background;
  stack = w.stack;
  ids = w.ids;
  next_low = w.next_low;
  next_high = w.next_high;
  few = w.few;
  names = w.names;
  texts = w.texts;
  field_texts = w.field_texts;
  hilites = w.hilites;
}

pub whole : (s : Content) → IsFormed s → HasCards s → IsWellFormed s
whole s f cards = record {
  backgrounds = f.backgrounds;
  cards = f.cards;
  layers = f.layers;
  card_parts = f.card_parts;
  background_parts = f.background_parts;
  on_background = f.on_background;
  some_background = f.some_background;
  some_card = cards;
  stack = f.stack;
  ids = f.ids;
  next_low = f.next_low;
  next_high = f.next_high;
  few = f.few;
  names = f.names;
  texts = f.texts;
  field_texts = f.field_texts;
  hilites = f.hilites;
}

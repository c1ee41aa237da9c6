-- A stack in the order in which its text lists it.
use Rattle.std.specs.Prelude.{ℕ, List, [], ◌∷◌, ◌++◌, map, flat_map, find, unwrap_or, option_map, ◌==◌}
use Rattle.object_table.specs.Objects.{background_of}
use Rattle.object_table.specs.declared.object.Kind.{Kind}
use Rattle.object_table.specs.declared.object.Object.{Object}
use Rattle.stack_text.specs.declared.sheets.Part.{Part}
use Rattle.stack_text.specs.declared.sheets.Keeping.{Keeping}
pub use Rattle.object_table.specs.Objects.{contains_id}

-- a background or a card, with its parts and, of a card, what it keeps for the parts of its background
pub record Sheet : Type 0 where
  pub id : ℕ
  pub object : Object
  pub parts : List Part
  pub keepings : List Keeping

pub record Document : Type 0 where
  pub next : ℕ
  pub stack : Object
  pub backgrounds : List Sheet
  pub cards : List Sheet

abbrev pub part_ids : List Part → List ℕ
part_ids parts = map (λ p. p.id) parts

abbrev pub sheet_ids : List Sheet → List ℕ
sheet_ids sheets = map (λ s. s.id) sheets

-- the ids of a sheet and of its parts
abbrev pub ids_on : Sheet → List ℕ
ids_on sheet = sheet.id ∷ part_ids sheet.parts

-- every id in the order of the text
abbrev pub ids_in : Document → List ℕ
ids_in d = flat_map ids_on d.backgrounds ++ flat_map ids_on d.cards

-- the background that a card is on
abbrev pub background_or : Kind → ℕ
background_or kind = unwrap_or (background_of kind) 0

-- the backgrounds that the cards are on, a card each
abbrev pub backgrounds_of : List Sheet → List ℕ
backgrounds_of cards = map (λ c. background_or c.object.kind) cards

-- the parts of the sheet of this id, in their order
abbrev pub parts_of : List Sheet → ℕ → List Part
parts_of sheets id = unwrap_or (option_map (λ s. s.parts) (find (λ s. s.id == id) sheets)) []

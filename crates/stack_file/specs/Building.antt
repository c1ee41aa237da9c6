-- A stack with more in it, from the last that a document lists to the first.
use Rattle.std.specs.Prelude.{ℕ, Bool, true, false, List, [], ◌∷◌, map, flat_map}
use Rattle.std.specs.declared.cmp.Ordering.{Ordering}
use Rattle.std.specs.FinMap.{FinMap, insert}
use Rattle.object_table.specs.Content.{Content}
use Rattle.object_table.specs.declared.object.Object.{Object}
use Rattle.stack_text.specs.declared.sheets.PartContent.{PartContent}
use Rattle.stack_text.specs.declared.sheets.Part.{Part}
use Rattle.stack_text.specs.declared.sheets.Keeping.{Keeping}
use Rattle.stack_text.specs.Document.{Sheet, Document, part_ids, sheet_ids}
use Rattle.stack_text.specs.Listing.{part_entry, object_entries, parts_entry, contents_on, written, lit}
use Rattle.stack_text.specs.Listing.{content_entries}

-- the map with these entries, where the first of a key counts
abbrev pub inserted : {K X : Type 0} {R : K → K → Ordering} → FinMap R X → List (K × X) → FinMap R X
inserted m [] = m
inserted m (e ∷ es) = insert (inserted m es) e.0 e.1

-- with what is kept on a card, or on card 0 for what is shared
abbrev pub with_contents : ℕ → List (ℕ × PartContent) → Content → Content
with_contents card contents s = record s {
  texts = inserted s.texts (content_entries written card contents);
  hilites = inserted s.hilites
      (content_entries lit card contents);
}

abbrev pub own_contents : List Part → List (ℕ × PartContent)
own_contents parts = map (λ p. (p.id, p.content)) parts

abbrev pub with_parts : ℕ → List Part → Content → Content
with_parts card parts s = record s {
  objects = inserted s.objects (map part_entry parts);
  texts = inserted s.texts (content_entries written card (own_contents parts));
  hilites = inserted s.hilites (content_entries lit card (own_contents parts));
}

abbrev pub with_keepings : ℕ → List Keeping → Content → Content
with_keepings card keepings s = with_contents card (map (λ k. (k.part, k.content)) keepings) s

-- with the list of a sheet's parts
abbrev pub with_list : ℕ → List Part → Content → Content
with_list id parts s = record s { parts = insert s.parts id (part_ids parts) }

-- with that list, what is kept for the parts, and the parts
abbrev pub with_rows : ℕ → ℕ → List Part → List Keeping → Content → Content
with_rows id card parts keepings s = with_parts card parts (with_keepings card keepings (with_list id parts s))

abbrev pub with_sheet : ℕ → Sheet → Content → Content
with_sheet card x s = record s {
  objects = inserted s.objects (object_entries x);
  parts = inserted s.parts (parts_entry x ∷ []);
  texts = inserted s.texts (content_entries written card (contents_on x));
  hilites = inserted s.hilites (content_entries lit card (contents_on x));
}

-- the card for which a sheet's parts are kept
abbrev pub card_for : Bool → ℕ → ℕ
card_for true id = 0
card_for false id = id

abbrev pub with_sheets : Bool → List Sheet → Content → Content
with_sheets shared xs s = record s {
  objects = inserted s.objects (flat_map object_entries xs);
  parts = inserted s.parts (map parts_entry xs);
  texts = inserted s.texts (flat_map (λ x. content_entries written (card_for shared x.id) (contents_on x)) xs);
  hilites = inserted s.hilites (flat_map (λ x. content_entries lit (card_for shared x.id) (contents_on x)) xs);
}

-- with the stack itself
abbrev pub with_stack : Object → Content → Content
with_stack o s = record s { objects = insert s.objects 0 o }

abbrev pub with_orders : List Sheet → List Sheet → Content → Content
with_orders backgrounds cards s = record s { backgrounds = sheet_ids backgrounds; cards = sheet_ids cards }

abbrev pub with_all_sheets : List Sheet → List Sheet → Content → Content
with_all_sheets backgrounds cards s =
    with_sheets true backgrounds (with_sheets false cards (with_orders backgrounds cards s))

-- with all that a document lists
abbrev pub with_document : Document → Content → Content
with_document d s = with_stack d.stack (with_all_sheets d.backgrounds d.cards (record s { next = d.next }))

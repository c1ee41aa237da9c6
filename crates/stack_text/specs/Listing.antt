-- A stack as the document that lists it, and the stack that a document lists.
use Rattle.std.specs.Prelude.{ℕ, Bool, false, List, [], ◌∷◌, ◌++◌, map, flat_map, filter_map, Option, Some, None}
use Rattle.std.specs.Prelude.{unwrap_or, option_map}
use Rattle.std.specs.FinMap.{from_entries}
use Rattle.object_table.specs.Content.{Content}
use Rattle.object_table.specs.Pairs.{Pair}
use Rattle.object_table.specs.Objects.{object_at, parts_at}
use Rattle.object_table.specs.PartContents.{text_at, hilite_at}
use Rattle.object_table.specs.declared.object.Object.{Object}
use Rattle.object_table.specs.declared.object.Kind.{Kind}
use Rattle.object_table.specs.declared.object.Kind.TheVariants.{Stack, Background, Card, CardButton, BackgroundButton}
use Rattle.object_table.specs.declared.object.Kind.TheVariants.{CardField, BackgroundField}
use Rattle.stack_text.specs.declared.sheets.PartContent.{PartContent}
use Rattle.stack_text.specs.declared.sheets.PartContent.TheVariants.{Nothing, Written, Lit}
use Rattle.stack_text.specs.declared.sheets.Part.{Part}
use Rattle.stack_text.specs.declared.sheets.Keeping.{Keeping}
use Rattle.stack_text.specs.Document.{Sheet, Document, part_ids, sheet_ids, background_or}
use Rattle.stack_text.specs.Spelling.{Version, document_text}

-- the object of an id, or one that stands for none
abbrev pub object_or : Content → ℕ → Object
object_or s id = unwrap_or (object_at s id) (record { name = []; script = []; kind = Stack })

-- what is kept beside a part of a kind, of a text and a hilite
abbrev pub content_by : Kind → List ℕ → Bool → PartContent
content_by (BackgroundButton v s) text lit = Lit lit
content_by (CardField v l) text lit = Written text
content_by (BackgroundField v l s) text lit = Written text
content_by (CardButton v h) text lit = Nothing
content_by Stack text lit = Nothing
content_by (Background c) text lit = Nothing
content_by (Card b c) text lit = Nothing

-- what is kept for a part on a card, or on card 0 what is shared
abbrev pub content_at : Content → ℕ → ℕ → PartContent
content_at s card part =
    content_by (object_or s part).kind (unwrap_or (text_at s part card) []) (unwrap_or (hilite_at s part card) false)

abbrev pub part_of : Content → ℕ → ℕ → Part
part_of s card id = record { id = id; object = object_or s id; content = content_at s card id }

abbrev pub keeping_of : Content → ℕ → ℕ → Keeping
keeping_of s card id = record { part = id; content = content_at s card id }

abbrev pub background_sheet : Content → ℕ → Sheet
background_sheet s id =
    record { id = id; object = object_or s id; parts = map (part_of s 0) (parts_at s id); keepings = [] }

abbrev pub card_sheet : Content → ℕ → Sheet
card_sheet s id = record {
  id = id;
  object = object_or s id;
  parts = map (part_of s id) (parts_at s id);
  keepings = map (keeping_of s id) (parts_at s (background_or (object_or s id).kind));
}

-- the document that lists a stack
abbrev pub document_of : Content → Document
document_of s = record {
  next = s.next;
  stack = object_or s 0;
  backgrounds = map (background_sheet s) s.backgrounds;
  cards = map (card_sheet s) s.cards;
}

-- The way back: the stack that a document lists.

abbrev pub part_entry : Part → ℕ × Object
part_entry p = (p.id, p.object)

abbrev pub object_entries : Sheet → List (ℕ × Object)
object_entries s = (s.id, s.object) ∷ map part_entry s.parts

abbrev pub parts_entry : Sheet → ℕ × List ℕ
parts_entry s = (s.id, part_ids s.parts)

-- what a sheet keeps for its parts and for those of its background
abbrev pub contents_on : Sheet → List (ℕ × PartContent)
contents_on s = map (λ p. (p.id, p.content)) s.parts ++ map (λ k. (k.part, k.content)) s.keepings

abbrev pub written : PartContent → Option (List ℕ)
written (Written t) = Some t
written (Lit b) = None
written Nothing = None

abbrev pub lit : PartContent → Option Bool
lit (Lit b) = Some b
lit (Written t) = None
lit Nothing = None

-- the entry of what a card keeps, or card 0 for what is shared
abbrev pub content_entry : {X : Type 0} → (PartContent → Option X) → ℕ → ℕ × PartContent → Option (Pair × X)
content_entry pick card e = option_map (λ x. ((e.0, card), x)) (pick e.1)

abbrev pub content_entries : {X : Type 0} → (PartContent → Option X) → ℕ → List (ℕ × PartContent) → List (Pair × X)
content_entries pick card contents = filter_map (content_entry pick card) contents

abbrev pub all_contents : {X : Type 0} → (PartContent → Option X) → Document → List (Pair × X)
all_contents pick d = content_entries pick 0 (flat_map contents_on d.backgrounds)
    ++ flat_map (λ c. content_entries pick c.id (contents_on c)) d.cards

abbrev pub all_objects : Document → List (ℕ × Object)
all_objects d = (0, d.stack) ∷ flat_map object_entries d.backgrounds ++ flat_map object_entries d.cards

abbrev pub all_parts : Document → List (ℕ × List ℕ)
all_parts d = map parts_entry d.backgrounds ++ map parts_entry d.cards

abbrev pub content_of : Document → Content
content_of d = record {
  objects = from_entries (all_objects d);
  backgrounds = sheet_ids d.backgrounds;
  cards = sheet_ids d.cards;
  parts = from_entries (all_parts d);
  texts = from_entries (all_contents written d);
  hilites = from_entries (all_contents lit d);
  next = d.next;
}

-- the text of a stack
abbrev pub spelling : Version → Content → List ℕ
spelling v s = document_text v (document_of s)

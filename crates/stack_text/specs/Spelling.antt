-- The text of a document, in two versions.
use Rattle.std.specs.Prelude.{ℕ, Bool, false, List, [], ◌∷◌, ◌++◌, length, flat_map, codes}
use Rattle.object_table.specs.declared.object.Kind.{Kind}
use Rattle.object_table.specs.declared.object.Kind.TheVariants.{Stack, Background, Card, CardButton, BackgroundButton}
use Rattle.object_table.specs.declared.object.Kind.TheVariants.{CardField, BackgroundField}
use Rattle.stack_text.specs.declared.sheets.PartContent.{PartContent}
use Rattle.stack_text.specs.declared.sheets.PartContent.TheVariants.{Nothing, Written, Lit}
use Rattle.stack_text.specs.declared.sheets.Part.{Part}
pub use Rattle.stack_text.specs.declared.sheets.Version.{Version}
pub use Rattle.stack_text.specs.declared.sheets.Version.TheVariants.{First as first, Second as second}
use Rattle.stack_text.specs.declared.sheets.Keeping.{Keeping}
use Rattle.ht_values.specs.Delimited.{ended_lines}
use Rattle.stack_text.specs.Words.{numbered, flagged, barred, block}
use Rattle.stack_text.specs.Document.{Sheet, Document, background_or}

abbrev pub header : Version → List ℕ
header first = codes "htstack 1"
header second = codes "htstack 2"

-- lines that version 2 alone has
abbrev pub in_second : Version → List (List ℕ) → List (List ℕ)
in_second first lines = []
in_second second lines = lines

abbrev pub name_line : List ℕ → List ℕ
name_line name = codes "name " ++ barred name

abbrev pub script_lines : List ℕ → List (List ℕ)
script_lines script = block (codes "script") script

-- the text and the hilite that are kept, where they are
abbrev pub text_or_none : PartContent → List ℕ
text_or_none (Written t) = t
text_or_none (Lit b) = []
text_or_none Nothing = []

abbrev pub lit_or_not : PartContent → Bool
lit_or_not (Lit b) = b
lit_or_not (Written t) = false
lit_or_not Nothing = false

-- a part by its kind, with its name, its script and what is kept
abbrev pub lines_by : Version → ℕ → List ℕ → List ℕ → PartContent → Kind → List (List ℕ)
lines_by v id name script content (CardButton visible lit) = numbered (codes "button") id ∷ name_line name
    ∷ flagged (codes "visible") visible ∷ flagged (codes "hilite") lit ∷ script_lines script
lines_by v id name script content (BackgroundButton visible shared) = numbered (codes "button") id ∷ name_line name
    ∷ flagged (codes "visible") visible ∷ in_second v (flagged (codes "sharedHilite") shared ∷ [])
    ++ flagged (codes "hilite") (lit_or_not content) ∷ script_lines script
lines_by v id name script content (CardField visible locked) = numbered (codes "field") id ∷ name_line name
    ∷ flagged (codes "visible") visible ∷ flagged (codes "lockText") locked ∷ script_lines script
    ++ block (codes "text") (text_or_none content)
lines_by v id name script content (BackgroundField visible locked shared) = numbered (codes "field") id ∷ name_line name
    ∷ flagged (codes "visible") visible ∷ flagged (codes "lockText") locked ∷ flagged (codes "sharedText") shared
    ∷ script_lines script ++ block (codes "shared") (text_or_none content)
lines_by v id name script content Stack = []
lines_by v id name script content (Background c) = []
lines_by v id name script content (Card b c) = []

abbrev pub part_lines : Version → Part → List (List ℕ)
part_lines v p = lines_by v p.id p.object.name p.object.script p.content p.object.kind

-- what a card keeps for a part of its background
abbrev pub content_lines : Version → ℕ → PartContent → List (List ℕ)
content_lines v part (Written t) = block (numbered (codes "text") part) t
content_lines v part (Lit b) = in_second v (flagged (numbered (codes "hilite") part) b ∷ [])
content_lines v part Nothing = []

abbrev pub keeping_lines : Version → Keeping → List (List ℕ)
keeping_lines v k = content_lines v k.part k.content

-- the name of a background or a card, whether it can't be deleted, and its script
abbrev pub cant_delete_of : Kind → Bool
cant_delete_of (Background c) = c
cant_delete_of (Card b c) = c
cant_delete_of _ = false

abbrev pub layer_lines : List ℕ → List ℕ → Bool → List (List ℕ)
layer_lines name script cant_delete = name_line name ∷ flagged (codes "cantDelete") cant_delete ∷ script_lines script

abbrev pub parts_lines : Version → List Part → List (List ℕ)
parts_lines v parts = numbered (codes "parts") (length parts) ∷ flat_map (part_lines v) parts

abbrev pub background_lines : Version → Sheet → List (List ℕ)
background_lines v s = numbered (codes "background") s.id
    ∷ layer_lines s.object.name s.object.script (cant_delete_of s.object.kind) ++ parts_lines v s.parts

abbrev pub card_lines : Version → Sheet → List (List ℕ)
card_lines v s = numbered (numbered (codes "card") s.id) (background_or s.object.kind)
    ∷ layer_lines s.object.name s.object.script (cant_delete_of s.object.kind)
    ++ (parts_lines v s.parts ++ flat_map (keeping_lines v) s.keepings)

-- so many sheets, and the lines of each
abbrev pub sheets_lines : List ℕ → (Sheet → List (List ℕ)) → List Sheet → List (List ℕ)
sheets_lines key lines sheets = numbered key (length sheets) ∷ flat_map lines sheets

abbrev pub document_lines : Version → Document → List (List ℕ)
document_lines v d = header v ∷ numbered (codes "next") d.next ∷ name_line d.stack.name ∷ script_lines d.stack.script
    ++ (sheets_lines (codes "backgrounds") (background_lines v) d.backgrounds
    ++ (sheets_lines (codes "cards") (card_lines v) d.cards ++ codes "end" ∷ []))

abbrev pub document_text : Version → Document → List ℕ
document_text v d = ended_lines (document_lines v d)

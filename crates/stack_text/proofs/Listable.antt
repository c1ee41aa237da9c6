-- When a document lists a stack, and what each version can say of it.
use Rattle.std.proofs.Common.{◌≡◌, false, ℕ, ◌<◌, ◌≤◌, List, [], length, nat_eq, IsTrue, IfSome}
use Rattle.std.specs.List.{AllByRecursion, IsDistinct, flat_map}
use Rattle.ht_values.specs.Text.{IsText}
use Rattle.object_table.specs.Objects.{is_background_part, is_card_part, is_background, is_card}
use Rattle.object_table.specs.declared.object.Object.{Object}
use Rattle.object_table.specs.declared.object.Kind.{Kind}
use Rattle.object_table.specs.declared.object.Kind.TheVariants.{CardButton, BackgroundButton, CardField}
use Rattle.object_table.specs.declared.object.Kind.TheVariants.{BackgroundField, Stack}
use Rattle.stack_text.specs.declared.sheets.PartContent.{PartContent}
use Rattle.stack_text.specs.declared.sheets.PartContent.TheVariants.{Nothing, Written, Lit}
use Rattle.stack_text.specs.declared.sheets.Part.{Part}
use Rattle.stack_text.specs.declared.sheets.Keeping.{Keeping}
use Rattle.stack_text.specs.Spelling.{Version, first, second}
use Rattle.stack_text.specs.Laws.{SharesHilite}
use Rattle.stack_text.specs.Listing.{lit}
use Rattle.stack_text.specs.Document.{Sheet, Document, contains_id, sheet_ids, part_ids, parts_of, background_or}
use Rattle.stack_text.specs.Document.{backgrounds_of, ids_in}
use Rattle.stack_text.proofs.Forms.{Pairs}

-- a name and a script that are texts
abbrev pub IsNamed : Object → Type 0
IsNamed o = IsText o.name × IsText o.script

-- what may be kept beside a part of a kind
abbrev pub Suits : Kind → PartContent → Type 0
Suits (BackgroundButton v s) (Lit b) = Unit {0}
Suits (CardField v l) (Written t) = IsText t
Suits (BackgroundField v l s) (Written t) = IsText t
Suits (CardButton v h) Nothing = Unit {0}
Suits k x = ⊥

abbrev pub IsBackgroundPart : Part → Type 0
IsBackgroundPart p = IsTrue (is_background_part p.object.kind) × (IsNamed p.object × Suits p.object.kind p.content)

abbrev pub IsCardPart : Part → Type 0
IsCardPart p = IsTrue (is_card_part p.object.kind) × (IsNamed p.object × Suits p.object.kind p.content)

-- what a card keeps for a part of its background
abbrev pub Keeps : Part → Keeping → Type 0
Keeps p k = (k.part ≡ p.id) × Suits p.object.kind k.content

-- what a version can say of a kind, and of what a card keeps
abbrev pub SaysKind : Version → Kind → Type 0
SaysKind first kind = SharesHilite kind
SaysKind second kind = Unit {0}

abbrev pub Unlit : PartContent → Type 0
Unlit x = IfSome (lit x) (λ b. b ≡ false)

abbrev pub SaysContent : Version → PartContent → Type 0
SaysContent first content = Unlit content
SaysContent second content = Unit {0}

pub record IsBackgroundSheet (b : Sheet) : Type 0 where
  pub is : IsTrue (is_background b.object.kind)
  pub named : IsNamed b.object
  pub parts : AllByRecursion IsBackgroundPart b.parts
  pub none : b.keepings ≡ []

pub record IsCardSheet (backgrounds : List Sheet) (c : Sheet) : Type 0 where
  pub is : IsTrue (is_card c.object.kind)
  pub named : IsNamed c.object
  pub parts : AllByRecursion IsCardPart c.parts
  pub on : IsTrue (contains_id (background_or c.object.kind) (sheet_ids backgrounds))
  pub keepings : Pairs Keeps (parts_of backgrounds (background_or c.object.kind)) c.keepings

-- a document that lists a stack
pub record IsDocument (d : Document) : Type 0 where
  pub next_low : 3 ≤ d.next
  pub next_high : d.next ≤ 1000001
  -- each id is used once, and 10,000 at most are
  pub ids : AllByRecursion (λ id. (0 < id) × (id < d.next)) (ids_in d)
  pub once : IsDistinct nat_eq (ids_in d)
  pub few : length (ids_in d) ≤ 10000
  pub stack : d.stack.kind ≡ Stack
  pub named : IsNamed d.stack
  -- there is a background, and each has a card
  pub some_background : 1 ≤ length d.backgrounds
  pub backgrounds : AllByRecursion IsBackgroundSheet d.backgrounds
  pub cards : AllByRecursion (IsCardSheet d.backgrounds) d.cards
  pub some_card : AllByRecursion (λ b. IsTrue (contains_id b.id (backgrounds_of d.cards))) d.backgrounds

abbrev pub SaysParts : Version → Sheet → Type 0
SaysParts v s = AllByRecursion (λ (p : Part). SaysKind v p.object.kind) s.parts

abbrev pub SaysKeepings : Version → Sheet → Type 0
SaysKeepings v s = AllByRecursion (λ (k : Keeping). SaysContent v k.content) s.keepings

-- a version can say the document
abbrev pub Says : Version → Document → Type 0
Says v d = AllByRecursion (SaysParts v) d.backgrounds × AllByRecursion (SaysKeepings v) d.cards

-- the ids of the parts of all sheets
abbrev pub parts_on : List Sheet → List ℕ
parts_on sheets = flat_map (λ s. part_ids s.parts) sheets

-- Reading line by line, with the first fault that is met.
use Rattle.std.specs.Prelude.{true, false, ◌≡◌, ℕ, zero, suc, ◌+◌, ◌-◌, ◌&&◌, ◌||◌, not, Bool, List, [], ◌∷◌, ◌++◌}
use Rattle.std.specs.Prelude.{length, take, drop, codes, position, Option, Some, None, Result, Ok, Err, nat_lt, nat_le}
use Rattle.std.specs.Prelude.{nat_eq, ◌==◌, if◌then◌else◌, option_map, option_and_then, refl}
use Rattle.std.specs.Coded.{Coded, code_by, coded×, coded_ℕ, coded_list}
use Rattle.std.specs.List.{list_all, list_any, join_with_byte}
use Rattle.ht_values.specs.declared.word.PartKind.{PartKind}
use Rattle.ht_values.specs.declared.word.PartKind.TheVariants.{Button, Field}
use Rattle.object_table.specs.declared.object.Object.{Object}
use Rattle.object_table.specs.declared.object.Kind.{Kind}
use Rattle.object_table.specs.declared.object.Kind.TheVariants.{Stack, Background, Card, CardButton, BackgroundButton}
use Rattle.object_table.specs.declared.object.Kind.TheVariants.{CardField, BackgroundField}
use Rattle.stack_text.specs.declared.sheets.PartContent.TheVariants.{Nothing, Written, Lit}
use Rattle.stack_text.specs.declared.sheets.Part.{Part}
use Rattle.stack_text.specs.declared.sheets.Keeping.{Keeping}
use Rattle.std.specs.Cmp.Lexicographic.{pointwise}
use Rattle.stack_text.specs.Words.{number_at, unspelled}
use Rattle.stack_text.specs.Document.{Sheet, Document, contains_id, sheet_ids, backgrounds_of, parts_of}
use Rattle.stack_text.specs.Spelling.{Version, first, second}
use Rattle.stack_text.specs.declared.fault.FileError.{FileError}
use Rattle.stack_text.specs.declared.fault.FileError.TheVariants.{Truncated, BadLine, TooMany, BadId}
use Rattle.stack_text.specs.declared.fault.ReadError.{ReadError}
use Rattle.stack_text.specs.declared.fault.ReadError.TheVariants as errors

-- the bytes that are left, the number of the line that was read last, and the ids so far
pub record Position : Type 0 where
  pub bytes : List ℕ
  pub number : ℕ
  pub used : List ℕ

abbrev pub coded_position : Coded Position
coded_position = code_by (List ℕ × (ℕ × List ℕ)) (coded× (coded_list coded_ℕ) (coded× coded_ℕ (coded_list coded_ℕ)))
    (λ s. (s.bytes, (s.number, s.used))) (λ p. record { bytes = p.0; number = p.1.0; used = p.1.1 }) (λ _. refl)

-- a reading of the next lines: a value and what is left, or the first fault
abbrev pub Reader : Type 0 → Type 0
Reader A = Position → Result (A × Position) FileError

abbrev pub chain : {A B : Type 0} → Result (A × Position) FileError → (A → Reader B) → Result (B × Position) FileError
chain (Ok x) f = f x.0 x.1
chain (Err e) f = Err e

infixl 10 ◌>>=◌
abbrev pub ◌>>=◌ : {A B : Type 0} → Reader A → (A → Reader B) → Reader B
(r >>= f) start = chain (r start) f

abbrev pub give : {A : Type 0} → A → Reader A
give x start = Ok (x, start)

-- the four faults, in the order in which they count within a line
abbrev pub cut_at : Position → Option ℕ → Result (List ℕ × Position) FileError
cut_at start None = Err Truncated
cut_at start (Some i) =
    Ok (take i start.bytes, record start { bytes = drop (i + 1) start.bytes; number = start.number + 1 })

unfoldable pub next_line : Reader (List ℕ)
next_line start = cut_at start (position (λ b. b == 10) start.bytes)

abbrev pub or_bad_line : {A : Type 0} → Option A → Reader A
or_bad_line None start = Err (BadLine start.number)
or_bad_line (Some x) start = Ok (x, start)

abbrev pub bad_line_if : Bool → Reader (Unit {0})
bad_line_if true start = Err (BadLine start.number)
bad_line_if false start = Ok (tt, start)

abbrev pub too_many_if : Bool → Reader (Unit {0})
too_many_if true start = Err TooMany
too_many_if false start = Ok (tt, start)

abbrev pub bad_id_if : Bool → Reader (Unit {0})
bad_id_if true start = Err (BadId start.number)
bad_id_if false start = Ok (tt, start)

-- so many readings in a row
abbrev pub times : {A : Type 0} → ℕ → Reader A → Reader (List A)
times zero r = give []
times (suc n) r = do
  x ← r
  xs ← times n r
  give (x ∷ xs)

-- one reading for each member
abbrev pub for_each : {A B : Type 0} → List A → (A → Reader B) → Reader (List B)
for_each [] r = give []
for_each (a ∷ as') r = do
  x ← r a
  xs ← for_each as' r
  give (x ∷ xs)

-- ---- words of a line

-- what follows a prefix
abbrev pub after_prefix : List ℕ → List ℕ → Option (List ℕ)
after_prefix prefix xs =
    if pointwise nat_eq (take (length prefix) xs) prefix then Some (drop (length prefix) xs) else None

-- the text that is spelled, if it has at most 30,000 bytes
abbrev pub short_text : List ℕ → Option (List ℕ)
short_text bytes = option_and_then (λ t. if nat_lt 30000 (length t) then None else Some t) (unspelled bytes)

-- a number that is no less than this
abbrev pub at_least : ℕ → List ℕ → Option ℕ
at_least least line = option_and_then (λ n. if nat_lt n least then None else Some n) (number_at line)

-- the flag that is spelled
abbrev pub flag_at : List ℕ → Option Bool
flag_at line = if pointwise nat_eq line (codes "true") then Some true else
    (if pointwise nat_eq line (codes "false") then Some false else None)

-- a number of pieces: at most 30,001
abbrev pub count_at : List ℕ → Option ℕ
count_at line = option_and_then (λ n. if nat_le n 30001 then Some n else None) (number_at line)

-- A piece of a text: no return is in it, it is shorter than the room, and it isn't empty where it is alone.
abbrev pub is_piece : Bool → ℕ → List ℕ → Bool
is_piece alone room piece =
    not (list_any (λ b. b == 13) piece) && (nat_lt (length piece) room && not (alone && (length piece == 0)))

abbrev pub piece_at : Bool → ℕ → List ℕ → Option (List ℕ)
piece_at alone room line = option_and_then (λ p. if is_piece alone room p then Some p else None) (unspelled line)

-- what stands before and after the first space
abbrev pub around_space : List ℕ → Option (List ℕ × List ℕ)
around_space line = option_map (λ i. (take i line, drop (i + 1) line)) (position (λ b. b == 32) line)

-- two values, where both are there
abbrev pub both : {A B : Type 0} → Option A → Option B → Option (A × B)
both (Some x) (Some y) = Some (x, y)
both (Some x) None = None
both None y = None

-- two words with a space between them, read apart
abbrev pub pair_at : {A B : Type 0} → (List ℕ → Option A) → (List ℕ → Option B) → List ℕ → Option (A × B)
pair_at f g line = option_and_then (λ p. both (f p.0) (g p.1)) (around_space line)

-- ---- lines

-- the next line, which begins so, as this form reads the rest of it
abbrev pub line_after : {A : Type 0} → List ℕ → (List ℕ → Option A) → Reader A
line_after prefix form = do
  line ← next_line
  or_bad_line (option_and_then form (after_prefix prefix line))

-- a line that has these bytes and no others
unfoldable pub exactly : List ℕ → Reader (Unit {0})
exactly form = do
  line ← next_line
  bad_line_if (not (pointwise nat_eq line form))

-- a name after a bar
unfoldable pub name_at : Reader (List ℕ)
name_at = line_after (codes "name |") short_text

-- a number behind a key
unfoldable pub number_after : List ℕ → Reader ℕ
number_after prefix = line_after prefix number_at

-- a flag behind a key
unfoldable pub flag_after : List ℕ → Reader Bool
flag_after prefix = line_after prefix flag_at

-- a number that is no less than the least; one over the most is too many
unfoldable pub count_after : List ℕ → ℕ → ℕ → Reader ℕ
count_after prefix least most = do
  n ← line_after prefix (at_least least)
  few ← too_many_if (nat_lt most n)
  give n

-- the ids so far, and one more
abbrev pub take_id : ℕ → Reader (Unit {0})
take_id id start = Ok (tt, record start { used = start.used ++ id ∷ [] })

-- The header of the next of at most 10,000 objects: its id is new and below next, and nothing else in it is wrong.
unfoldable pub new_id : ℕ → ℕ → Bool → Reader (Unit {0})
new_id next id else_right start = (do
  few ← too_many_if (nat_le 10000 (length start.used))
  done ← bad_id_if (not else_right || ((id == 0) || (nat_le next id || contains_id id start.used)))
  take_id id) start

-- ---- texts of many lines

-- So many pieces. Each takes its bytes and one more of the room.
abbrev pub pieces_at : Bool → ℕ → ℕ → Reader (List (List ℕ))
pieces_at alone zero room = give []
pieces_at alone (suc n) room = do
  piece ← line_after (codes "|") (piece_at alone room)
  others ← pieces_at alone n (room - (length piece + 1))
  give (piece ∷ others)

-- the text of so many pieces, of at most 30,000 bytes
unfoldable pub text_of_pieces : ℕ → Reader (List ℕ)
text_of_pieces count = do
  pieces ← pieces_at (count == 1) count 30001
  give (join_with_byte 13 pieces)

-- a text behind a key and the number of its pieces
unfoldable pub block_after : List ℕ → Reader (List ℕ)
block_after prefix = do
  count ← line_after prefix count_at
  text_of_pieces count

unfoldable pub script_at : Reader (List ℕ)
script_at = block_after (codes "script ")

-- ---- parts

-- the id of a button, or else that of a field
abbrev pub first_of : Option ℕ → Option ℕ → Option (PartKind × ℕ)
first_of (Some id) other = Some (Button, id)
first_of None other = option_map (λ id. (Field, id)) other

-- the kind and the id of a part
abbrev pub part_header : List ℕ → Option (PartKind × ℕ)
part_header line = first_of (option_and_then number_at (after_prefix (codes "button ") line))
    (option_and_then number_at (after_prefix (codes "field ") line))

-- version 1 has no such line, and this stands for it
abbrev pub in_second_or : Version → Bool → Reader Bool → Reader Bool
in_second_or first b r = give b
in_second_or second b r = r

-- the lines of a background's part behind its header
unfoldable pub background_button_at : Version → ℕ → Reader Part
background_button_at v id = do
  name ← name_at
  visible ← flag_after (codes "visible ")
  shared ← in_second_or v true (flag_after (codes "sharedHilite "))
  lit ← flag_after (codes "hilite ")
  script ← script_at
  give (record {
    id = id;
    object = record { name = name; script = script; kind = BackgroundButton visible shared };
    content = Lit lit;
  })

unfoldable pub background_field_at : ℕ → Reader Part
background_field_at id = do
  name ← name_at
  visible ← flag_after (codes "visible ")
  locked ← flag_after (codes "lockText ")
  shared ← flag_after (codes "sharedText ")
  script ← script_at
  text ← block_after (codes "shared ")
  give (record {
    id = id;
    object =
        record { name = name; script = script; kind = BackgroundField visible locked shared };
    content = Written text;
  })

unfoldable pub background_part_at : Version → PartKind × ℕ → Reader Part
background_part_at v (Button, id) = background_button_at v id
background_part_at v (Field, id) = background_field_at id

-- the lines of a card's part behind its header
unfoldable pub card_button_at : ℕ → Reader Part
card_button_at id = do
  name ← name_at
  visible ← flag_after (codes "visible ")
  lit ← flag_after (codes "hilite ")
  script ← script_at
  give (record {
    id = id;
    object = record { name = name; script = script; kind = CardButton visible lit };
    content =
        Nothing;
  })

unfoldable pub card_field_at : ℕ → Reader Part
card_field_at id = do
  name ← name_at
  visible ← flag_after (codes "visible ")
  locked ← flag_after (codes "lockText ")
  script ← script_at
  text ← block_after (codes "text ")
  give (record {
    id = id;
    object = record { name = name; script = script; kind = CardField visible locked };
    content =
        Written text;
  })

unfoldable pub card_part_at : PartKind × ℕ → Reader Part
card_part_at (Button, id) = card_button_at id
card_part_at (Field, id) = card_field_at id

-- a part: its kind and its new id, and the rest of its lines
unfoldable pub part_at : ℕ → (PartKind × ℕ → Reader Part) → Reader Part
part_at next rest = do
  head ← line_after [] part_header
  new ← new_id next head.1 true
  rest head

-- the parts, and how many there are
unfoldable pub parts_at : ℕ → (PartKind × ℕ → Reader Part) → Reader (List Part)
parts_at next rest = do
  count ← count_after (codes "parts ") 0 10000
  times count (part_at next rest)

-- ---- backgrounds and cards

-- the name of a background or a card, whether it can't be deleted, and its script
unfoldable pub layer_at : Reader (List ℕ × Bool × List ℕ)
layer_at = do
  name ← name_at
  cant_delete ← flag_after (codes "cantDelete ")
  script ← script_at
  give (name, cant_delete, script)

-- the header of a background; next bounds its id
unfoldable pub background_header_at : ℕ → Reader ℕ
background_header_at next = do
  id ← number_after (codes "background ")
  new ← new_id next id true
  give id

-- a background with its parts
unfoldable pub background_at : Version → ℕ → Reader Sheet
background_at v next = do
  id ← background_header_at next
  layer ← layer_at
  parts ← parts_at next (background_part_at v)
  give (record {
    id = id;
    object = record { name = layer.0; script = layer.2; kind = Background layer.1 };
    parts =
        parts;
    keepings = [];
  })

-- the text that a card keeps for a field that is due, and the hilite for a button that is due
unfoldable pub own_text_at : ℕ → Reader Keeping
own_text_at due = do
  head ← line_after (codes "text ") (pair_at number_at count_at)
  right ← bad_id_if (not (head.0 == due))
  text ← text_of_pieces head.1
  give (record { part = due; content = Written text })

unfoldable pub own_hilite_at : ℕ → Reader Keeping
own_hilite_at due = do
  head ← line_after (codes "hilite ") (pair_at number_at flag_at)
  right ← bad_id_if (not (head.0 == due))
  give (record { part = due; content = Lit head.1 })

-- what a card keeps for a part of its background; in version 1 no button is lit
abbrev pub keeping_by : Version → ℕ → Kind → Reader Keeping
keeping_by v id (BackgroundField l t s) = own_text_at id
keeping_by second id (BackgroundButton l s) = own_hilite_at id
keeping_by first id (BackgroundButton l s) = give (record { part = id; content = Lit false })
keeping_by v id other = give (record { part = id; content = Nothing })

abbrev pub keeping_at : Version → Part → Reader Keeping
keeping_at v part = keeping_by v part.id part.object.kind

-- the header of a card: its id and that of its background
unfoldable pub card_header_at : ℕ → List Sheet → Reader (ℕ × ℕ)
card_header_at next backgrounds = do
  head ← line_after (codes "card ") (pair_at number_at number_at)
  new ← new_id next head.0 (contains_id head.1 (sheet_ids backgrounds))
  give head

-- a card with its parts, and what it keeps for each part of its background
unfoldable pub card_at : Version → ℕ → List Sheet → Reader Sheet
card_at v next backgrounds = do
  head ← card_header_at next backgrounds
  layer ← layer_at
  parts ← parts_at next card_part_at
  keepings ← for_each (parts_of backgrounds head.1) (keeping_at v)
  give (record {
    id = head.0;
    object = record { name = layer.0; script = layer.2; kind = Card head.1 layer.1 };
    parts =
        parts;
    keepings = keepings;
  })

-- ---- the whole

-- one of the versions that are read
abbrev pub version_at : List ℕ → Option Version
version_at line = if pointwise nat_eq line (codes "1") then Some first else
    (if pointwise nat_eq line (codes "2") then Some second else None)

-- the end: each background has a card by then, and nothing stands after it
abbrev pub nothing_left : Reader (Unit {0})
nothing_left start = if length start.bytes == 0 then Ok (tt, start) else Err (BadLine (start.number + 1))

unfoldable pub end_at : List Sheet → List Sheet → Reader (Unit {0})
end_at backgrounds cards = do
  done ← exactly (codes "end")
  each ← bad_id_if (not (list_all (λ b. contains_id b.id (backgrounds_of cards)) backgrounds))
  nothing_left

-- the limit of ids, and the stack's name and script
unfoldable pub stack_at : Reader (ℕ × Object)
stack_at = do
  next ← count_after (codes "next ") 3 1000001
  name ← name_at
  script ← script_at
  give (next, record { name = name; script = script; kind = Stack })

-- the backgrounds, and how many there are
unfoldable pub backgrounds_at : Version → ℕ → Reader (List Sheet)
backgrounds_at v next = do
  count ← count_after (codes "backgrounds ") 1 10000
  times count (background_at v next)

-- the cards, and how many there are
unfoldable pub cards_at : Version → ℕ → List Sheet → Reader (List Sheet)
cards_at v next backgrounds = do
  count ← count_after (codes "cards ") 1 10000
  times count (card_at v next backgrounds)

-- all lines behind the version
unfoldable pub body_at : Version → Reader Document
body_at v = do
  head ← stack_at
  backgrounds ← backgrounds_at v head.0
  cards ← cards_at v head.0 backgrounds
  done ← end_at backgrounds cards
  give (record { next = head.0; stack = head.1; backgrounds = backgrounds; cards = cards })

unfoldable pub all_lines : Reader Document
all_lines = do
  version ← line_after (codes "htstack ") version_at
  body_at version

abbrev pub value_of : {A : Type 0} → Result (A × Position) FileError → Result A FileError
value_of (Ok x) = Ok x.0
value_of (Err e) = Err e

-- the document of a text, or the fault of its first line at fault
unfoldable pub document_at : List ℕ → Result Document FileError
document_at bytes = value_of (all_lines (record { bytes = bytes; number = 0; used = [] }))

-- What a function returned, seen by view, is what reading gives, unless memory ran out.
abbrev pub Fails : {Y : Type 0} → ReadError → Result Y FileError → Type 0
Fails errors.Memory read = Unit {0}
Fails (errors.File f) read = read ≡ Err f

abbrev pub Gives : {X Y : Type 0} → (X → Y) → Result X ReadError → Result Y FileError → Type 0
Gives view (Ok x) read = read ≡ Ok (view x)
Gives view (Err e) read = Fails e read

-- what is read, seen otherwise
abbrev pub read_as : {A B : Type 0} → (A → B) → Result A FileError → Result B FileError
read_as view (Ok x) = Ok (view x)
read_as view (Err e) = Err e

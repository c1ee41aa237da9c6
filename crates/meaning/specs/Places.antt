-- Chunks, containers and fields as the rules use them.
use Rattle.std.specs.Prelude.{◌≡◌, ℕ, ℤ, pos, Bool, true, false, List, [], ◌∷◌, ◌++◌, codes, Option, Some, None}
use Rattle.std.specs.Prelude.{Result, Ok, Err}
use Rattle.ht_values.specs.declared.fault.Fault.{Fault}
use Rattle.ht_values.specs.declared.fault.Fault.TheVariants.{TooMany}
use Rattle.ht_values.specs.declared.word.ChunkKind.{ChunkKind}
use Rattle.ht_values.specs.declared.word.Prop.{Prop}
use Rattle.ht_values.specs.Outcome.{and_then}
use Rattle.ht_lex.specs.declared.key.Ordinal.{Ordinal}
use Rattle.ht_lex.specs.Ordinals.{from_first}
use Rattle.chunks.specs.declared.chunk.Chunk.{Chunk}
use Rattle.chunks.specs.declared.chunk.Index.{Index}
use Rattle.chunks.specs.declared.chunk.Index.TheVariants.{At, Last}
use Rattle.journal_entries.specs.Changes.{fits}
use Rattle.journal_entries.specs.declared.change.Change.{Change}
use Rattle.change_journal.specs.History.{History}
use Rattle.change_journal.specs.Rising.{Made}
use Rattle.journal_entries.specs.State.{State}
use Rattle.ht_grammar.specs.declared.vocabulary.Layer.{Layer}
use Rattle.ht_grammar.specs.declared.vocabulary.Layer.TheVariants as layer
use Rattle.object_references.specs.declared.referent.Referent.{Referent}
use Rattle.object_references.specs.References.{field_named}
use Rattle.object_references.specs.Settings.{setting}
use Rattle.containers.specs.Places.{PlaceView, StorageView, text_met, named, whole}
use Rattle.containers.specs.Edits.{due, read_at}
use Rattle.containers.specs.Variables.{VariablesView}
use Rattle.containers.specs.Writes.{Writes, Declares}
use Rattle.containers.specs.declared.edit.Edit.{Edit}
use Rattle.meaning.specs.declared.end.Stop.{Stop}
use Rattle.meaning.specs.declared.end.Stop.TheVariants as stop
use Rattle.meaning.specs.declared.frame.Frame.{Frame}

-- the pieces from one number to another
abbrev pub pieces_at : ChunkKind → ℤ → ℤ → Chunk
pieces_at kind a b = record { kind = kind; from = At a; to = At b }

-- the index of a number, or the last
abbrev pub index_by : Option ℕ → Index
index_by (Some n) = At (pos n)
index_by None = Last

-- the one piece of an ordinal
abbrev pub nth_piece : Ordinal → ChunkKind → Chunk
nth_piece o kind = record { kind = kind; from = index_by (from_first o); to = index_by (from_first o) }

-- the place of a variable, whole
abbrev pub variable_place : VariablesView → List ℕ → PlaceView
variable_place v name = record { storage = named v name; chunks = [] }

-- the place of a field's text; a field that keeps no text for the card isn't found
abbrev pub field_place : State → Referent → Result PlaceView Fault
field_place s m = and_then (text_met s.stack m.object m.card) (λ h. Ok (record { storage = h; chunks = [] }))

-- what a field reads
abbrev pub field_text : State → VariablesView → ℕ → Referent → Result (List ℕ) Fault
field_text s v delimiter m = and_then (field_place s m) (λ p. read_at s v delimiter p)

-- the variable of `get`
abbrev pub it_name : List ℕ
it_name = codes "it"

abbrev pub layer_of_field : Bool → Layer
layer_of_field true = layer.Card
layer_of_field false = layer.Background

-- the place of the first field of a name, on the current card or on its background, where its text stands
abbrev pub field_named_place : State → VariablesView → Bool → List ℕ → Result PlaceView Fault
field_named_place s v on_card name =
    and_then (field_named s.stack s.current (layer_of_field on_card) name) (λ m. and_then (field_place s m)
    (λ p. and_then (whole s v p.storage) (λ t. Ok p)))

-- a chunk of a place
abbrev pub chunk_of_place : PlaceView → Chunk → PlaceView
chunk_of_place p c = record p { chunks = p.chunks ++ c ∷ [] }

-- An edit of a container, whose outcome is a fault or is written. After a fault nothing has changed.
pub data Edits : History → Frame → ℕ → PlaceView → Edit → Result (Unit {0}) Stop → History → Frame → Type 0 where
  edit_memory : {w w1 : History} {f f1 : Frame} {delimiter : ℕ} {p : PlaceView} {e : Edit} →
      Edits w f delimiter p e (Err stop.Memory) w1 f1
  edit_faults : {w w1 : History} {f f1 : Frame} {delimiter : ℕ} {p : PlaceView} {e : Edit} {n : Fault} →
      due w.now f.variables delimiter p e ≡ Err n → w1 ≡ w → f1 ≡ f → Edits w f delimiter p e (Err (stop.Fault n)) w1 f1
  edited : {w w1 : History} {f f1 : Frame} {delimiter : ℕ} {p : PlaceView} {e : Edit} {v : VariablesView} →
      Writes w f.variables p.storage (due w.now f.variables delimiter p e) w1 v → f1 ≡ record f { variables = v } →
      Edits w f delimiter p e (Ok tt) w1 f1

-- A value takes the place of the text that stands in a storage. It fits there, as no value is too long.
pub data Stores : History → Frame → StorageView → List ℕ → History → Frame → Type 0 where
  stores : {w w1 : History} {f f1 : Frame} {h : StorageView} {t t1 : List ℕ} {v : VariablesView} →
      whole w.now f.variables h ≡ Ok t1 → Writes w f.variables h (Ok (Some t)) w1 v →
      f1 ≡ record f { variables = v } → Stores w f h t w1 f1

-- the number of a turn is put into the variable of a repeat, where it has one
pub data Assigns : History → Frame → Option (List ℕ) → List ℕ → History → Frame → Type 0 where
  no_variable : {w : History} {f : Frame} {variable : Option (List ℕ)} {t : List ℕ} →
      variable ≡ None → Assigns w f variable t w f
  assigns : {w w1 : History} {f f1 : Frame} {variable : Option (List ℕ)} {name t : List ℕ} →
      variable ≡ Some name → Stores w f (named f.variables name) t w1 f1 → Assigns w f variable t w1 f1

-- names mean globals from here on, from left to right
pub data DeclaresAll : History → Frame → List (List ℕ) → History → Frame → Type 0 where
  none_declared : {w : History} {f : Frame} {names : List (List ℕ)} → names ≡ [] → DeclaresAll w f names w f
  declared : {w w1 w2 : History} {f f1 f2 : Frame} {names names1 : List (List ℕ)} {name : List ℕ} {v : VariablesView} →
      names ≡ name ∷ names1 → Declares w f.variables name w1 v → f1 ≡ record f { variables = v } →
      DeclaresAll w1 f1 names1 w2 f2 → DeclaresAll w f names w2 f2

-- a property of an object is set; after a fault nothing has changed
pub data Sets : History → Referent → Prop → List ℕ → Result (Unit {0}) Stop → History → Type 0 where
  set_memory : {w w1 : History} {m : Referent} {prop : Prop} {t : List ℕ} → Sets w m prop t (Err stop.Memory) w1
  set_faults : {w w1 : History} {m : Referent} {prop : Prop} {t : List ℕ} {n : Fault} →
      setting w.now.stack m prop t ≡ Err n → w1 ≡ w → Sets w m prop t (Err (stop.Fault n)) w1
  set_made : {w w1 : History} {m : Referent} {prop : Prop} {t : List ℕ} {c : Change} →
      setting w.now.stack m prop t ≡ Ok c → Made w w1 c → Sets w m prop t (Ok tt) w1

-- objects are made, unless their ids would pass the greatest one or too many would live; after a fault nothing has
-- changed
pub data Adds : History → Change → Result (Unit {0}) Stop → History → Type 0 where
  add_memory : {w w1 : History} {c : Change} → Adds w c (Err stop.Memory) w1
  too_many : {w : History} {c : Change} → fits w.now c ≡ false → Adds w c (Err (stop.Fault TooMany)) w
  adds : {w w1 : History} {c : Change} → fits w.now c ≡ true → Made w w1 c → Adds w c (Ok tt) w1

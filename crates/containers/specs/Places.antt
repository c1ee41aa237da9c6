-- Places that hold a text, and the text that stands there.
use Rattle.std.specs.Prelude.{ℕ, Bool, false, not, ◌&&◌, ◌==◌, List, [], is_some, Option, unwrap_or}
use Rattle.std.specs.Prelude.{Result, Ok, Err, if◌then◌else◌}
use Rattle.std.specs.Option.{ok_or}
use Rattle.std.specs.FinMap.{get}
use Rattle.ht_values.specs.declared.fault.Fault.{Fault}
use Rattle.ht_values.specs.declared.fault.Fault.TheVariants.{NoSuchObject}
use Rattle.ht_values.specs.Outcome.{and_then}
use Rattle.ht_values.specs.Text.{folded}
use Rattle.chunks.specs.declared.chunk.Chunk.{Chunk}
use Rattle.object_table.specs.Content.{Content}
use Rattle.object_table.specs.Flags.{shared_text_of}
use Rattle.object_table.specs.Objects.{has_kind}
use Rattle.object_table.specs.PartContents.{text_at}
use Rattle.journal_entries.specs.State.{State}
use Rattle.containers.specs.declared.place.Container.{Container}
use Rattle.containers.specs.declared.place.Container.TheVariants as container
use Rattle.containers.specs.declared.place.Storage.{Storage}
use Rattle.containers.specs.declared.place.Storage.TheVariants as storage
use Rattle.containers.specs.Variables.{VariablesView, is_global, own_value}

-- What holds a text: a global by its folded name, a variable of the handler's own by its name, or a field by its id and
-- that of the card for which it keeps the text, where 0 stands for the text that the cards share.
pub data StorageView : Type 0 where
  global : List ℕ → StorageView
  own : List ℕ → StorageView
  field_text : ℕ → ℕ → StorageView

-- what holds a text, and chunks of it, the nearest to it first
pub record PlaceView : Type 0 where
  pub storage : StorageView
  pub chunks : List Chunk

abbrev pub storage_view : Storage → StorageView
storage_view (storage.Global name) = global (folded name.now)
storage_view (storage.Own name) = own name.now
storage_view (storage.Field field card) = field_text field card

-- whether the cards share the text of a field
abbrev pub is_shared : Content → ℕ → Bool
is_shared s field = has_kind (λ kind. unwrap_or (shared_text_of kind) false) s field

-- whether a field keeps a text for a card; 0 is no card
abbrev pub keeps_for : Content → ℕ → ℕ → Bool
keeps_for s field card = not (card == 0) && is_some (text_at s field card)

-- Which text of a field is meant that is met with a card: the shared one where the cards share it, else that of the
-- card. A field that keeps no text for the card isn't found, also where its text is shared.
abbrev pub text_met : Content → ℕ → ℕ → Result StorageView Fault
text_met s field card =
    if keeps_for s field card then Ok (field_text field (if is_shared s field then 0 else card)) else Err NoSuchObject

-- what a name means
abbrev pub named : VariablesView → List ℕ → StorageView
named v name = if is_global v name then global (folded name) else own name

-- what holds the text of a container
abbrev pub storage_of : Content → VariablesView → Container → Result StorageView Fault
storage_of s v (container.Variable name) = Ok (named v name.now)
storage_of s v (container.Field field card) = text_met s field card

-- the place of a container, without chunks
abbrev pub place_of : Content → VariablesView → Container → Result PlaceView Fault
place_of s v c = and_then (storage_of s v c) (λ h. Ok (record { storage = h; chunks = [] }))

-- the text that a storage has, if it has one
abbrev pub text_in : State → VariablesView → StorageView → Option (List ℕ)
text_in s v (global name) = get s.globals name
text_in s v (own name) = own_value v name
text_in s v (field_text field card) = text_at s.stack field card

-- as a container a variable without a value is empty; a text of a field that isn't there isn't found
abbrev pub as_container : StorageView → Option (List ℕ) → Result (List ℕ) Fault
as_container (field_text field card) t = ok_or t NoSuchObject
as_container _ t = Ok (unwrap_or t [])

-- the whole text of a container
abbrev pub whole : State → VariablesView → StorageView → Result (List ℕ) Fault
whole s v h = as_container h (text_in s v h)

-- what a name reads as an expression: its value, or its spelling where it has none
abbrev pub read_name : State → VariablesView → List ℕ → List ℕ
read_name s v name = unwrap_or (text_in s v (named v name)) name

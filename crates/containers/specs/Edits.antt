-- What becomes of the text of a container.
use Rattle.std.specs.Prelude.{ℕ, List, Option, Some, Result, Ok}
use Rattle.ht_values.specs.declared.fault.Fault.{Fault}
use Rattle.ht_values.specs.declared.word.Where.TheVariants.{Into}
use Rattle.ht_values.specs.Operators.{binary}
use Rattle.ht_values.specs.Outcome.{and_then}
use Rattle.chunks.specs.declared.chunk.Chunk.{Chunk}
use Rattle.chunks.specs.Nested.{read_within, put_within, deleted_within}
use Rattle.journal_entries.specs.State.{State}
use Rattle.containers.specs.declared.edit.Edit.{Edit}
use Rattle.containers.specs.declared.edit.Edit.TheVariants.{Put, Alter, Delete}
use Rattle.containers.specs.Places.{PlaceView, whole}
use Rattle.containers.specs.Variables.{VariablesView}

-- The text that an edit makes of a whole text, or nothing where it changes nothing. Arithmetic computes with what the
-- chunks read, and puts the outcome into them.
abbrev pub edited : ℕ → List Chunk → Edit → List ℕ → Result (Option (List ℕ)) Fault
edited delimiter chunks (Put place new) t = and_then (put_within delimiter chunks place new t) (λ u. Ok (Some u))
edited delimiter chunks (Alter op operand) t = and_then (binary op (read_within delimiter chunks t) operand)
    (λ v. and_then (put_within delimiter chunks Into v t) (λ u. Ok (Some u)))
edited delimiter chunks Delete t = deleted_within delimiter chunks t

-- what a container's text becomes; a container that isn't found comes before any fault of the edit
abbrev pub due : State → VariablesView → ℕ → PlaceView → Edit → Result (Option (List ℕ)) Fault
due s v delimiter p edit = and_then (whole s v p.storage) (λ t. edited delimiter p.chunks edit t)

-- what the chunks of a container read
abbrev pub read_at : State → VariablesView → ℕ → PlaceView → Result (List ℕ) Fault
read_at s v delimiter p = and_then (whole s v p.storage) (λ t. Ok (read_within delimiter p.chunks t))

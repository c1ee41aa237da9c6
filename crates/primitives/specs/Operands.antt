-- The text of an operand.
use Rattle.std.specs.Prelude.{ℕ, List, Ok, Result}
use Rattle.ht_values.specs.declared.fault.Fault.{Fault}
use Rattle.journal_entries.specs.State.{State}
use Rattle.containers.specs.Places.{read_name}
use Rattle.containers.specs.Variables.{VariablesView}
use Rattle.meaning.specs.Places.{field_text}
use Rattle.primitives.specs.declared.operands.Operand.{Operand}
use Rattle.primitives.specs.declared.operands.Operand.TheVariants as operand

-- what an operand reads, a field for the card with which it was met
abbrev pub operand_text : State → VariablesView → ℕ → Operand → Result (List ℕ) Fault
operand_text s v delimiter (operand.Value value) = Ok value
operand_text s v delimiter (operand.Name name) = Ok (read_name s v name.now)
operand_text s v delimiter (operand.Field field) = field_text s v delimiter field

-- The status and the line on standard error of each fault that ends the program.
use Rattle.std.specs.Prelude.{ℕ, List, ◌++◌, take, codes, decimal}
use Rattle.devices.specs.declared.all_bytes.BytesFault.{BytesFault}
use Rattle.devices.specs.declared.all_bytes.BytesFault.TheVariants as bytes
use Rattle.stack_text.specs.declared.fault.FileError.{FileError}
use Rattle.stack_text.specs.declared.fault.FileError.TheVariants.{BadLine, BadId, Truncated, TooMany}
use Rattle.command_line.specs.declared.fault.TheConstants.{MOST_OF_NAME}
use Rattle.command_line.specs.declared.fault.CliFault.{CliFault}
use Rattle.command_line.specs.declared.fault.CliFault.TheVariants.{Usage, CannotRead, Refused, Read, Write}
use Rattle.command_line.specs.declared.fault.CliFault.TheVariants.{TooManyLines, Memory}

-- what words that aren't taken end the program by
abbrev pub IsFaultOfWords : CliFault → Type 0
IsFaultOfWords (Usage text) = Unit {0}
IsFaultOfWords Memory = Unit {0}
IsFaultOfWords _ = ⊥

-- what the program tells of a stack whose bytes aren't to be had
abbrev pub fault_of_bytes : BytesFault → CliFault
fault_of_bytes bytes.TooMany = CannotRead
fault_of_bytes bytes.Device = CannotRead
fault_of_bytes bytes.Memory = Memory

-- 2 where the words or the stack are wrong, else 1
abbrev pub status_of : CliFault → ℕ
status_of (Usage text) = 2
status_of (Refused fault) = 2
status_of _ = 1

-- the number of the fault, and the line where it has one
abbrev pub refusal_of : FileError → List ℕ
refusal_of (BadLine n) = codes "card_cli: stack refused 1 at line " ++ decimal n
refusal_of (BadId n) = codes "card_cli: stack refused 2 at line " ++ decimal n
refusal_of Truncated = codes "card_cli: stack refused 3"
refusal_of TooMany = codes "card_cli: stack refused 4"

-- the line of a fault, by the name of the stack
abbrev pub message_of : CliFault → List ℕ → List ℕ
message_of (Usage text) stack = text
message_of CannotRead stack = codes "card_cli: cannot read " ++ take MOST_OF_NAME stack
message_of (Refused fault) stack = refusal_of fault
message_of Read stack = codes "card_cli: read fault"
message_of Write stack = codes "card_cli: write fault"
message_of TooManyLines stack = codes "card_cli: too many lines"
message_of Memory stack = codes "card_cli: no memory"

-- The numbers of the faults of a stack text.
use Rattle.std.specs.Prelude.{ℕ}
use Rattle.stack_text.specs.declared.fault.FileError.{FileError}
use Rattle.stack_text.specs.declared.fault.FileError.TheVariants.{BadLine, BadId, Truncated, TooMany}

abbrev pub number_of_fault : FileError → ℕ
number_of_fault (BadLine line) = 1
number_of_fault (BadId line) = 2
number_of_fault Truncated = 3
number_of_fault TooMany = 4

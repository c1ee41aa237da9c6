-- What a text that isn't read is in a command.
use Rattle.ht_values.specs.declared.failure.Failure.{Failure}
use Rattle.ht_values.specs.declared.failure.Failure.TheVariants as failure
use Rattle.ht_values.specs.declared.fault.Fault.TheVariants as fault
use Rattle.ht_parse.specs.declared.error.ParseError.{ParseError}
use Rattle.ht_parse.specs.declared.error.ParseError.TheVariants as error

-- a text that isn't in the grammar is a fault of syntax, wherever reading stopped
abbrev pub failure_of : ParseError → Failure
failure_of (error.Syntax place) = failure.Fault fault.Syntax
failure_of error.Memory = failure.Memory

-- The numbers of the faults.
use Rattle.std.specs.Prelude.{ℕ}
use Rattle.ht_values.specs.declared.fault.Fault.{Fault}
use Rattle.ht_values.specs.declared.fault.Fault.TheVariants.{Syntax, CantUnderstand, NoSuchObject, NotANumber}
use Rattle.ht_values.specs.declared.fault.Fault.TheVariants.{OutOfRange, DivideByZero, NotExact, TooLong, NotLogical}
use Rattle.ht_values.specs.declared.fault.Fault.TheVariants.{NoSuchProperty, StepLimit, TooDeep, ExternalFault}
use Rattle.ht_values.specs.declared.fault.Fault.TheVariants.{CantDelete, TooMany, BadArgument}

abbrev pub number_of_fault : Fault → ℕ
number_of_fault Syntax = 1
number_of_fault CantUnderstand = 2
number_of_fault NoSuchObject = 3
number_of_fault NotANumber = 4
number_of_fault OutOfRange = 5
number_of_fault DivideByZero = 6
number_of_fault NotExact = 7
number_of_fault TooLong = 8
number_of_fault NotLogical = 9
number_of_fault NoSuchProperty = 10
number_of_fault StepLimit = 11
number_of_fault TooDeep = 12
number_of_fault ExternalFault = 13
number_of_fault CantDelete = 14
number_of_fault TooMany = 15
number_of_fault BadArgument = 16

-- How a command ends, as the rules have it: `exit to HyperCard` stops it, and is no fault.
use Rattle.std.specs.Prelude.{ℕ, Option, Some, None, Result, Ok, Err}
use Rattle.meaning.specs.declared.end.Ended.{Ended}
use Rattle.meaning.specs.declared.end.Ended.TheVariants.{Done, Exited as ExitedEnd}
use Rattle.meaning.specs.declared.end.Stop.{Stop}
use Rattle.meaning.specs.declared.end.Stop.TheVariants.{Exited}

-- a command that ended so
abbrev pub end_of : Result Ended Stop → Result (Unit {0}) Stop
end_of (Ok Done) = Ok tt
end_of (Ok ExitedEnd) = Err Exited
end_of (Err z) = Err z

-- a reference of a dot line that led there
abbrev pub led_to : Result (Option ℕ) Stop → Result ℕ Stop
led_to (Ok (Some i)) = Ok i
led_to (Ok None) = Err Exited
led_to (Err z) = Err z

-- What a call gives that writes it in a place of its caller's.
use Rattle.std.specs.Prelude.{ℕ, List, Result, Ok, Err}
use Rattle.meaning.specs.declared.end.Way.{Way}
use Rattle.meaning.specs.declared.end.Way.TheVariants as way
use Rattle.meaning.specs.declared.end.How.{How}
use Rattle.meaning.specs.declared.end.How.TheVariants as how
use Rattle.meaning.specs.declared.end.Stop.{Stop}

-- what stands in the place, or why there is nothing
abbrev pub given : {A : Type 0} → Result (Unit {0}) Stop → A → Result A Stop
given (Ok u) written = Ok written
given (Err z) written = Err z

-- how a statement ends, where what it returns stands in the place
abbrev pub how_of : Way → List ℕ → How
how_of way.Next written = how.Next
how_of way.ExitRepeat written = how.ExitRepeat
how_of way.NextRepeat written = how.NextRepeat
how_of way.Exit written = how.Exit
how_of way.Pass written = how.Pass
how_of way.Returns written = how.Returns written

-- the same, or why the run stops
abbrev pub how_given : Result Way Stop → List ℕ → Result How Stop
how_given (Ok e) written = Ok (how_of e written)
how_given (Err z) written = Err z

-- how a statement ends that never ends its block but by a stop
abbrev pub then_next : Result (Unit {0}) Stop → Result How Stop
then_next (Ok u) = Ok how.Next
then_next (Err z) = Err z

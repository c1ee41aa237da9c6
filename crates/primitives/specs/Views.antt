-- What the parsers answer, as the rules see it.
use Rattle.std.specs.Prelude.{Result, Ok, Err}
use Rattle.meaning.specs.declared.end.Stop.{Stop}

-- a tree in memory as the plain tree
abbrev pub read_as : {C T : Type 0} → (C → T) → Result C Stop → Result T Stop
read_as view (Ok x) = Ok (view x)
read_as view (Err z) = Err z

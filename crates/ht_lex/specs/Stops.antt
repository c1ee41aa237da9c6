-- What a reader gives that may be refused memory.
use Rattle.std.specs.Prelude.{◌≡◌, Result, Ok, Err}
use Rattle.ht_lex.specs.declared.stop.Stop.{Stop}
use Rattle.ht_lex.specs.declared.stop.Stop.TheVariants as stop

-- this value, unless memory is refused
abbrev pub Gives : {A : Type 0} → A → Result A Stop → Type 0
Gives x (Ok y) = y ≡ x
Gives x (Err stop.Memory) = Unit {0}
Gives x (Err stop.Syntax) = ⊥

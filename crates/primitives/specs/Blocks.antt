-- How a block takes the end of a statement, and a repeat the end of its lines.
use Rattle.std.specs.Prelude.{◌≡◌, ◌≢◌, Bool, true, false, Some, None, Result, Ok, Err}
use Rattle.meaning.specs.declared.end.How.{How}
use Rattle.meaning.specs.declared.end.How.TheVariants.{Next}
use Rattle.meaning.specs.declared.end.Stop.{Stop}
use Rattle.meaning.specs.Repeats.{leaves_repeat}

-- whether the block ends by the end of a statement
pub data EndsBlock : Result How Stop → Bool → Type 0 where
  goes_on : EndsBlock (Ok Next) false
  leaves : {h : How} → h ≢ Next → EndsBlock (Ok h) true
  stops : {z : Stop} → EndsBlock (Err z) true

-- whether the repeat ends by the end of its lines, and how it then ends
pub data EndsRepeat : Result How Stop → Bool → Result How Stop → Type 0 where
  turns : {h : How} → leaves_repeat h ≡ None → EndsRepeat (Ok h) false (Ok h)
  leaves : {h h1 : How} → leaves_repeat h ≡ Some h1 → EndsRepeat (Ok h) true (Ok h1)
  stops : {z : Stop} → EndsRepeat (Err z) true (Err z)

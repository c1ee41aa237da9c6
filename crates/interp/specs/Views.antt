-- What externals answer, as the rules see it.
use Rattle.std.specs.Prelude.{Bool, true, false}
use Rattle.externals.specs.declared.external.Ask.{Ask}
use Rattle.externals.specs.declared.external.Ask.TheVariants as ask

-- whether an external asks for something, and its conversation goes on
abbrev pub asks_back : Ask → Bool
asks_back (ask.Done v b) = false
asks_back ask.Fail = false
asks_back _ = true

-- What an external may ask for, and whether it is a call-back.
use Rattle.externals.specs.declared.external.Ask.{Ask}
use Rattle.externals.specs.declared.external.Ask.TheVariants.{Done, Fail}

-- Done and Fail are no call-backs
abbrev pub IsCall : Ask → Type 0
IsCall (Done v passes) = ⊥
IsCall Fail = ⊥
IsCall _ = Unit {0}

-- What a replacement of each occurrence gives.
use Rattle.std.specs.Prelude.{ℕ, zero, suc, ◌-◌, false, nat_eq, List, [], ◌∷◌, ◌++◌, length, if◌then◌else◌, Result, Ok}
use Rattle.std.specs.Prelude.{Err}
use Rattle.std.specs.List.{starts_with}
use Rattle.ht_values.specs.Outcome.{within_limit}
use Rattle.ht_values.specs.declared.fault.Fault.{Fault}
use Rattle.externals.specs.declared.external.Input.{Input}
use Rattle.externals.specs.declared.external.Input.TheVariants.{Start}
use Rattle.externals.specs.declared.external.Ask.{Ask}
use Rattle.externals.specs.declared.external.Ask.TheVariants.{Done, Fail}

-- Each occurrence is replaced, from left to right; the first bytes of the text, so many, are the rest of an occurrence.
unfoldable pub replaced_after : List ℕ → List ℕ → ℕ → List ℕ → List ℕ
replaced_after old new k [] = []
replaced_after old new (suc k) (b ∷ bs) = replaced_after old new k bs
replaced_after old new zero (b ∷ bs) = if starts_with nat_eq (b ∷ bs) old then new
    ++ replaced_after old new (length old - 1) bs else b ∷ replaced_after old new zero bs

-- an empty run occurs nowhere
abbrev pub replaced : List ℕ → List ℕ → List ℕ → List ℕ
replaced old new text = if nat_eq (length old) 0 then text else replaced_after old new 0 text

-- a text, or the fault of an external where it is too long
abbrev pub told : Result (List ℕ) Fault → Ask
told (Ok text) = Done text false
told (Err fault) = Fail

-- what Replace asks
abbrev pub replace_turn : Input → Ask
replace_turn (Start (text ∷ old ∷ new ∷ [])) = told (within_limit (replaced old new text))
replace_turn _ = Fail

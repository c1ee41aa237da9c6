-- Numerals, and the texts that spell one.
use Rattle.std.proofs.Common.{refl, Bool, true, false, ◌&&◌, Ok, Err, List, ℕ, Result, ℤ}
use Rattle.std.specs.Prelude.{IsTrue, if◌then◌else◌, SomeIff}
use Rattle.std.specs.Result.{result_ok}
use Rattle.std.proofs.lemmas.Bool.{false≢true}
use Rattle.ht_values.specs.declared.fault.Fault.{Fault}
use Rattle.ht_values.specs.declared.fault.Fault.TheVariants.{NotANumber, OutOfRange}
use Rattle.ht_values.specs.Number.{is_in_range, is_numeral, is_signed, signed_value, spelled, trimmed, value_of}

-- a number if both are true, and else a fault
abbrev number_if : Bool → Bool → ℤ → Result ℤ Fault
number_if s r z = if s then (if r then Ok z else Err OutOfRange) else Err NotANumber

by_cases : (s r : Bool) (z : ℤ) → SomeIff (result_ok (number_if s r z)) (IsTrue (s && r)) z
by_cases true true z = (refl, refl)
by_cases true false z = λ e. false≢true e
by_cases false r z = λ e. false≢true e

-- a text has a number where it is a numeral
pub numeral_spelled : (t : List ℕ) → SomeIff (result_ok (spelled (trimmed t))) (IsTrue (is_numeral t)) (value_of t)
numeral_spelled t = by_cases (is_signed (trimmed t)) (is_in_range (signed_value (trimmed t))) (signed_value (trimmed t))

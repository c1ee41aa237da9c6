-- What the functions of texts alone give.
use Rattle.std.specs.Prelude.{ℕ, ◌+◌, List, [], ◌∷◌, codes, length, nat_lt, ℤ, pos, negsuc, unsigned_abs}
use Rattle.std.specs.Prelude.{if◌then◌else◌, Option, Some, None, Ok, Err, Result}
use Rattle.std.specs.Int.{int_max, int_min}
use Rattle.ht_values.specs.declared.fault.Fault.{Fault}
use Rattle.ht_values.specs.declared.fault.Fault.TheVariants.{BadArgument}
use Rattle.ht_values.specs.declared.operator.Func.{Func}
use Rattle.ht_values.specs.declared.operator.Func.TheVariants as func
use Rattle.ht_values.specs.Number.{number_of, ranged}
use Rattle.ht_values.specs.Operators.{in_numerals}
use Rattle.ht_values.specs.Outcome.{and_then}
use Rattle.ht_values.specs.Search.{place_of}
use Rattle.ht_values.specs.Text.{entry}

-- the best of a number and those of the texts after it, each converted in turn
abbrev pub best_of : (ℤ → ℤ → ℤ) → ℤ → List (List ℕ) → Result ℤ Fault
best_of f x [] = Ok x
best_of f x (t ∷ ts) = and_then (number_of t) (λ y. best_of f (f x y) ts)

-- the best of the numbers of one text or more
abbrev pub best : (ℤ → ℤ → ℤ) → List ℕ → List (List ℕ) → Result ℤ Fault
best f t ts = and_then (number_of t) (λ x. best_of f x ts)

-- the number of the first byte
abbrev pub first_byte : List ℕ → Result ℤ Fault
first_byte [] = Err BadArgument
first_byte (b ∷ bs) = Ok (pos b)

-- the text of one byte, 0 to 255
abbrev pub character : ℤ → Result (List ℕ) Fault
character (pos n) = if nat_lt n 256 then Ok (n ∷ []) else Err BadArgument
character (negsuc n) = Err BadArgument

-- a place counted from 1, or 0 for none
abbrev pub place_number : Option ℕ → ℕ
place_number None = 0
place_number (Some k) = k + 1

-- the first place at which a run of the text is the same as the other; an empty run stands nowhere
abbrev pub offset : List ℕ → List ℕ → ℕ
offset [] t = 0
offset (b ∷ bs) t = place_number (place_of (b ∷ bs) t)

-- the functions by their names
abbrev pub function_names : List (List ℕ × Func)
function_names =
    (codes "abs", func.Abs) ∷ (codes "max", func.Max) ∷ (codes "min", func.Min) ∷ (codes "length", func.Length)
    ∷ (codes "charToNum", func.CharToNum) ∷ (codes "numToChar", func.NumToChar)
    ∷ (codes "offset", func.Offset) ∷ []

-- the function that a name calls; case is ignored
unfoldable pub function_named : List ℕ → Option Func
function_named name = entry function_names name

-- what a function gives of its arguments; another number of them is a bad argument
unfoldable pub built_in : Func → List (List ℕ) → Result (List ℕ) Fault
built_in func.Abs (a ∷ []) = in_numerals (and_then (number_of a) (λ x. ranged (pos (unsigned_abs x))))
built_in func.Max (a ∷ rest) = in_numerals (best int_max a rest)
built_in func.Min (a ∷ rest) = in_numerals (best int_min a rest)
built_in func.Length (a ∷ []) = in_numerals (Ok (pos (length a)))
built_in func.CharToNum (a ∷ []) = in_numerals (first_byte a)
built_in func.NumToChar (a ∷ []) = and_then (number_of a) character
built_in func.Offset (a ∷ b ∷ []) = in_numerals (Ok (pos (offset a b)))
built_in func arguments = Err BadArgument

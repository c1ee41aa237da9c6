-- Numbers: whole, of 64 bits with a sign, and spelled as numerals.
use Rattle.std.specs.Prelude.{ℕ, ◌-◌, ◌^◌, Bool, not, ◌&&◌, List, length, take, drop, nat_lt, ◌==◌, ℤ, pos, negsuc}
use Rattle.std.specs.Prelude.{neg_ℤ, if◌then◌else◌, Ok, Err, Result}
use Rattle.std.specs.List.{list_all, prefix_len, suffix_len}
use Rattle.std.specs.Char.{is_ascii_digit}
use Rattle.std.specs.Str.Parse.{starts_with_minus, digits_value}
use Rattle.ht_values.specs.declared.fault.Fault.{Fault}
use Rattle.ht_values.specs.declared.fault.Fault.TheVariants.{NotANumber, OutOfRange}

abbrev pub is_space : ℕ → Bool
is_space b = b == 32

-- the text without the spaces at its front, and at both ends
abbrev pub without_front_spaces : List ℕ → List ℕ
without_front_spaces t = drop (prefix_len is_space t) t

abbrev pub trimmed : List ℕ → List ℕ
trimmed t = let rest = without_front_spaces t in take (length rest - suffix_len is_space rest) rest

-- one digit or more, and nothing else
abbrev pub are_digits : List ℕ → Bool
are_digits ds = not (length ds == 0) && list_all is_ascii_digit ds

-- an optional `-`, and digits
abbrev pub is_signed : List ℕ → Bool
is_signed t = are_digits (if starts_with_minus t then drop 1 t else t)

-- the number that an optional `-` and digits spell
abbrev pub signed_value : List ℕ → ℤ
signed_value t = if starts_with_minus t then neg_ℤ (pos (digits_value 10 (drop 1 t))) else pos (digits_value 10 t)

-- from -9223372036854775808 to 9223372036854775807
abbrev pub is_in_range : ℤ → Bool
is_in_range (pos n) = nat_lt n (2 ^ 63)
is_in_range (negsuc n) = nat_lt n (2 ^ 63)

-- the whole number, unless it is out of range
abbrev pub ranged : ℤ → Result ℤ Fault
ranged z = if is_in_range z then Ok z else Err OutOfRange

-- the number that an optional `-` and digits spell, in range
abbrev pub spelled : List ℕ → Result ℤ Fault
spelled t = if is_signed t then ranged (signed_value t) else Err NotANumber

-- the number of a text: nothing but spaces is 0
unfoldable pub number_of : List ℕ → Result ℤ Fault
number_of t = let inner = trimmed t in if length inner == 0 then Ok (pos 0) else spelled inner

-- whether the text spells a number: an optional `-` and digits between spaces, in range
abbrev pub is_numeral : List ℕ → Bool
is_numeral t = is_signed (trimmed t) && is_in_range (signed_value (trimmed t))

-- the number of a numeral
abbrev pub value_of : List ℕ → ℤ
value_of t = signed_value (trimmed t)

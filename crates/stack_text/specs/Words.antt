-- How texts, numbers and flags are spelled on a line.
use Rattle.std.specs.Prelude.{ℕ, zero, suc, ◌+◌, ◌*◌, ◌-◌, ◌/◌, ◌%◌, ◌&&◌, ◌||◌, not, Bool, true, false, List, [], ◌∷◌}
use Rattle.std.specs.Prelude.{◌++◌, length, Option, Some, None, decimal, codes, map, flat_map, nat_lt, nat_le, ◌==◌}
use Rattle.std.specs.Prelude.{if◌then◌else◌}
use Rattle.std.specs.Option.{option_map, option_and_then}
use Rattle.ht_values.specs.Delimited.{delimited}

-- a lower-case hexadecimal digit
abbrev pub hex_digit : ℕ → ℕ
hex_digit d = if nat_lt d 10 then 48 + d else 87 + d

-- bytes 32 to 126 but the backslash stand for themselves
abbrev pub is_plain : ℕ → Bool
is_plain b = nat_le 32 b && (nat_le b 126 && not (b == 92))

-- every other byte is a backslash and two digits
abbrev pub spelled_byte : ℕ → List ℕ
spelled_byte b = if is_plain b then b ∷ [] else 92 ∷ hex_digit (b / 16) ∷ hex_digit (b % 16) ∷ []

abbrev pub spelled : List ℕ → List ℕ
spelled text = flat_map spelled_byte text

abbrev pub spelled_flag : Bool → List ℕ
spelled_flag true = codes "true"
spelled_flag false = codes "false"

-- a key, a space and a number
abbrev pub numbered : List ℕ → ℕ → List ℕ
numbered key n = key ++ 32 ∷ decimal n

-- a key, a space and a flag
abbrev pub flagged : List ℕ → Bool → List ℕ
flagged key b = key ++ 32 ∷ spelled_flag b

-- a bar and a text
abbrev pub barred : List ℕ → List ℕ
barred text = 124 ∷ spelled text

-- a key with the number of pieces between returns, and a line for each
abbrev pub block : List ℕ → List ℕ → List (List ℕ)
block key text = numbered key (length (delimited 13 text)) ∷ map barred (delimited 13 text)

-- the value of a lower-case hexadecimal digit
abbrev pub hex_value : ℕ → Option ℕ
hex_value d =
    if nat_le 48 d && nat_le d 57 then Some (d - 48) else (if nat_le 97 d && nat_le d 102 then Some (d - 87) else None)

-- a byte that does not stand for itself, by the values of its two digits
abbrev pub escape_of : Option ℕ → Option ℕ → Option ℕ
escape_of (Some high) (Some low) = if is_plain (high * 16 + low) then None else Some (high * 16 + low)
escape_of (Some high) None = None
escape_of None low = None

-- the first byte of a text, and the spelling of the others
abbrev pub char_at : List ℕ → Option (ℕ × List ℕ)
char_at [] = None
char_at (b ∷ []) = if is_plain b then Some (b, []) else None
char_at (b ∷ c ∷ []) = if is_plain b then Some (b, c ∷ []) else None
char_at (b ∷ c ∷ d ∷ rest) = if is_plain b then Some (b, c ∷ d ∷ rest) else
    (if b == 92 then option_map (λ x. (x, rest)) (escape_of (hex_value c) (hex_value d)) else None)

-- the text of a spelling, where it has no more than so many bytes
unfoldable pub unspelled_within : ℕ → List ℕ → Option (List ℕ)
unspelled_within n [] = Some []
unspelled_within zero (b ∷ bs) = None
unspelled_within (suc n) (b ∷ bs) =
    option_and_then (λ x. option_map (λ t. x.0 ∷ t) (unspelled_within n x.1)) (char_at (b ∷ bs))

-- the text that is spelled
abbrev pub unspelled : List ℕ → Option (List ℕ)
unspelled bs = unspelled_within (length bs) bs

-- the digits after those of n
abbrev pub digits_after : ℕ → List ℕ → Option ℕ
digits_after n [] = Some n
digits_after n (d ∷ ds) = if nat_le 48 d && nat_le d 57 then digits_after (n * 10 + (d - 48)) ds else None

-- no digit, more than seven, or a zero before others
abbrev pub is_misspelled : List ℕ → Bool
is_misspelled [] = true
is_misspelled (d ∷ ds) = nat_lt 6 (length ds) || ((d == 48) && not (length ds == 0))

-- the number that is spelled: `0`, or a digit 1 to 9 and at most six digits more
abbrev pub number_at : List ℕ → Option ℕ
number_at ds = if is_misspelled ds then None else digits_after 0 ds

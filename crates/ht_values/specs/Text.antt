-- Texts as lists of bytes, and when two are the same.
use Rattle.std.specs.Prelude.{◌≡◌, ℕ, ℤ, Bool, not, List, [], ◌∷◌, length, All, if◌then◌else◌, Option, Some, None, ◌<◌}
use Rattle.std.specs.Prelude.{◌≤◌}
use Rattle.std.specs.Char.{is_ascii_uppercase}
use Rattle.std.specs.List.{list_all}
use Rattle.std.specs.Str.{str_to_ascii_lowercase, bytes_eq}
use Rattle.std.specs.Fmt.{signed_decimal}
use Rattle.ht_values.specs.declared.text.TheConstants.{LIMIT}

-- at most 30,000 bytes
pub record IsText (t : List ℕ) : Type 0 where
  pub short : length t ≤ LIMIT
  pub bytes : All (λ b. b < 256) t

-- A-Z folded to a-z
abbrev pub folded : List ℕ → List ℕ
folded t = str_to_ascii_lowercase t

-- whether no byte is one of A-Z
abbrev pub is_folded : List ℕ → Bool
is_folded t = list_all (λ b. not (is_ascii_uppercase b)) t

-- two texts are the same
abbrev pub Same : List ℕ → List ℕ → Type 0
Same a b = folded a ≡ folded b

-- whether two texts are the same
abbrev pub same : List ℕ → List ℕ → Bool
same a b = bytes_eq (folded a) (folded b)

-- the entry of a word in a table; case is ignored
abbrev pub entry : {A : Type 0} → List (List ℕ × A) → List ℕ → Option A
entry [] w = None
entry (row ∷ rows) w = if same row.0 w then Some row.1 else entry rows w

-- the numeral of a number
abbrev pub numeral : ℤ → List ℕ
numeral z = signed_decimal z

-- How a text keeps its bytes.
use Rattle.std.specs.Prelude.{◌≤◌, ◌<◌, ℕ, List, length}
use Rattle.ht_values.specs.declared.text.Held.{Held}
use Rattle.ht_values.specs.declared.text.Held.TheVariants as held
use Rattle.ht_values.specs.declared.few_bytes.TheConstants.{IN_PLACE}
use Rattle.ht_values.specs.declared.text.TheConstants.{LIMIT}

-- the bytes, wherever they stand
abbrev pub bytes_in : Held → List ℕ
bytes_in (held.InPlace few) = few
bytes_in (held.Boxed bytes) = bytes.value.items

-- a box has more bytes than stand in a text's own place, and no more than a text may have
abbrev pub IsHeld : Held → Type 0
IsHeld (held.InPlace _) = Unit {0}
IsHeld (held.Boxed bytes) = (IN_PLACE < length bytes.value.items) × (length bytes.value.items ≤ LIMIT)

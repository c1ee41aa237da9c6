-- Reading all the bytes of a reader, up to a limit.
use Rattle.std.specs.Prelude.{◌≡◌, ℕ, ◌+◌, ◌≤◌, List, Option, length}
use Rattle.std.specs.Io.KnownBytes.{Consumes, IsAtEnd}
use Rattle.devices.specs.declared.all_bytes.BytesFault.{BytesFault}
use Rattle.devices.specs.declared.all_bytes.BytesFault.TheVariants.{TooMany}

-- these are the bytes that were left, all of them, and no more than the limit
abbrev pub ReadsAll : ℕ → Option (List ℕ) → Option (List ℕ) → List ℕ → Type 0
ReadsAll limit old new bytes = (length bytes ≤ limit) × Consumes old new bytes × IsAtEnd new

-- what is gone where reading stopped: at most one byte past the limit, and exactly so many where there are too many
abbrev pub StopsAfter : ℕ → Option (List ℕ) → Option (List ℕ) → BytesFault → Type 0
StopsAfter limit old new fault =
    (gone : List ℕ) × Consumes old new gone × (length gone ≤ limit + 1) × (fault ≡ TooMany → length gone ≡ limit + 1)

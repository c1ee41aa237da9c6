-- How bytes go out to a writer.
use Rattle.std.specs.Prelude.{◌≡◌, ◌≢◌, ℕ, List, [], ◌++◌, Option, Result, Ok, Err}
use Rattle.std.specs.Io.KnownBytes.{Appends}
use Rattle.devices.specs.Watching.{device_of, failures_of, Rose}
use Rattle.devices.specs.declared.watched.Watched.{Watched}

-- these are bytes from the front, and not all
abbrev pub IsCut : List ℕ → List ℕ → Type 0
IsCut whole sent = (unsent : List ℕ) × (unsent ≢ []) × (whole ≡ sent ++ unsent)

-- All of these bytes go out to a writer, none of whose calls fails; or one does, and not all of them go out.
abbrev pub WritesOut : {D E : Type 0} → (D → Option (List ℕ)) → List ℕ → Watched D → Result (Unit {0}) E → Watched D
    → Type 0
WritesOut contents whole old (Ok done) new =
    Appends (contents (device_of old)) (contents (device_of new)) whole × (failures_of new ≡ failures_of old)
WritesOut contents whole old (Err cut) new = (sent : List ℕ) × IsCut whole sent
    × Appends (contents (device_of old)) (contents (device_of new)) sent × Rose (failures_of old) (failures_of new)

-- A desk over a file.
use Rattle.std.specs.Prelude.{ℕ, None}
use Rattle.devices.specs.Desks.{SeenDesk}
use Rattle.file_desk.specs.declared.desk.FileDesk.{FileDesk}

-- how many times the file could not be replaced
abbrev pub failures_of : {R : Type 0} → FileDesk R → ℕ
failures_of d = d.failures

-- What it keeps isn't told, since anyone may write the file, and neither is what it heard, which is logged.
abbrev pub seen_file : {R : Type 0} → FileDesk R → SeenDesk
seen_file d = record { kept = None; heard = None; failures = failures_of d }

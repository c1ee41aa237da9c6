use Rattle.std.specs.Io.KnownBytes.{Keeps}
use Rattle.devices.proofs.patient.PatientRead.read.Given as goal

-- the calls so far kept what is known
abbrev pub invariant-loop : goal.invariant-loop
invariant-loop g l = record { kept : Keeps (g.R.Read.remaining l.fn.self.device) (g.R.Read.remaining l.self.device) }

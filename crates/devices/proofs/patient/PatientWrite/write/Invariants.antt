use Rattle.std.specs.Io.KnownBytes.{Keeps}
use Rattle.devices.proofs.patient.PatientWrite.write.Given as goal

-- the calls so far kept what is known
abbrev pub invariant-loop : goal.invariant-loop
invariant-loop g l = record { kept : Keeps (g.W.Write.contents l.fn.self.device) (g.W.Write.contents l.self.device) }

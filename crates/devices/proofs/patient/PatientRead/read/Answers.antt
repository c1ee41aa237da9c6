use Rattle.devices.proofs.Known.{Keeps-same, Keeps-Keeps, Keeps-Reads}
use Rattle.devices.proofs.patient.PatientRead.read.Goals as goal

pub loop-init : goal.loop-init
loop-init g c = record { kept = Keeps-same _ }

pub returns-in_default-clause-bytes : goal.returns-in_default-clause-bytes
returns-in_default-clause-bytes g c = Keeps-Keeps _ _ _ c.loop.invariant.kept c.in-Err.ensures.bytes

pub returns-in_default-2-clause-bytes : goal.returns-in_default-2-clause-bytes
returns-in_default-2-clause-bytes g c = Keeps-Reads _ _ _ _ _ c.loop.invariant.kept c.read.ensures.bytes

pub loop-preserved : goal.loop-preserved
loop-preserved g c = record { kept = Keeps-Keeps _ _ _ c.loop.invariant.kept c.in-Err.ensures.bytes }

pub returns-clause-bytes : goal.returns-clause-bytes
returns-clause-bytes g c = c.loop.invariant.kept

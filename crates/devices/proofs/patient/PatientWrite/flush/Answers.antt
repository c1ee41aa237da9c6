use Rattle.devices.proofs.Known.{Keeps-same, Keeps-Keeps}
use Rattle.devices.proofs.patient.PatientWrite.flush.Goals as goal

pub loop-init : goal.loop-init
loop-init g c = record { kept = Keeps-same _ }

pub returns-in_default : goal.returns-in_default
returns-in_default g c = record { bytes = Keeps-Keeps _ _ _ c.loop.invariant.kept c.in-Err.ensures.bytes }

pub returns-in_default-2 : goal.returns-in_default-2
returns-in_default-2 g c = record { bytes = Keeps-Keeps _ _ _ c.loop.invariant.kept c.flush.ensures.bytes }

pub loop-preserved : goal.loop-preserved
loop-preserved g c = record { kept = Keeps-Keeps _ _ _ c.loop.invariant.kept c.in-Err.ensures.bytes }

pub returns : goal.returns
returns g c = record { bytes = c.loop.invariant.kept }

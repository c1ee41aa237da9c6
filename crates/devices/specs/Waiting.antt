-- Devices that are waited for.
use Rattle.devices.specs.declared.patient.Patient.{Patient}

-- the device
abbrev pub waited_for : {C D : Type 0} → Patient C D → D
waited_for p = p.device

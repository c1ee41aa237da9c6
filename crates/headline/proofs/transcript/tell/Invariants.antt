use Rattle.std.proofs.Common.{take}
use Rattle.devices.specs.Desks.{HearsOrForgets}
use Rattle.headline.specs.Saving.{as_heard}
use Rattle.headline.proofs.transcript.tell.Given as goal

-- the desk has heard of the messages up to here
abbrev pub invariant-loop-i : goal.invariant-loop-i
invariant-loop-i g l = HearsOrForgets (as_heard (take l.i l.sent)) (g.D.Desk.seen l.fn.desk) (g.D.Desk.seen l.desk)

use Rattle.std.proofs.Common.{◌≡◌, ℕ, List, ◌++◌, take}
use Rattle.std.specs.Io.KnownBytes.{Appends}
use Rattle.devices.specs.Desks.{SeenDesk}
use Rattle.session.specs.SessionView.{SessionView}
use Rattle.headline.specs.Intake.{Reached}
use Rattle.headline.proofs.transcript.take_block.Given as goal

-- the front of the block is taken, and no call failed
abbrev pub invariant-loop-byte : goal.invariant-loop-byte
invariant-loop-byte g l = record {
  taken : (text : List ℕ) × Appends (g.W.Write.contents l.fn.writer.device) (g.W.Write.contents l.writer.device) text
      × ((start : SessionView × SeenDesk) (read written : List ℕ)
      → Reached start read written (l.fn.session, g.D.Desk.seen l.fn.desk) l.fn.intake.pending.items
      l.fn.intake.lines l.fn.intake.bytes
      → Reached start (read ++ take l.byte-index l.block) (written ++ text) (l.session, g.D.Desk.seen l.desk)
      l.intake.pending.items l.intake.lines l.intake.bytes);
  sound : l.writer.failures ≡ l.fn.writer.failures;
}

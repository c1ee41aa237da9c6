use Rattle.std.proofs.Common.{◌≡◌, ◌≤◌, ℕ, List, length}
use Rattle.std.specs.Io.KnownBytes.{Appends, Consumes}
use Rattle.headline.specs.Intake.{Reached}
use Rattle.headline.proofs.transcript.run.Given as goal

-- what is read so far is answered, each read gave some byte, and no call failed
abbrev pub invariant-loop : goal.invariant-loop
invariant-loop g l = record {
  reached : (read : List ℕ) × (written : List ℕ)
      × Consumes (g.R.Read.remaining l.fn.reader.device) (g.R.Read.remaining l.reader.device) read
      × Appends (g.W.Write.contents l.fn.writer.device) (g.W.Write.contents l.writer.device) written
      × Reached (l.fn.session, g.D.Desk.seen l.fn.desk) read written (l.session, g.D.Desk.seen l.desk)
      l.intake.pending.items l.intake.lines l.intake.bytes × (l.counter ≤ length read);
  read_sound : l.reader.failures ≡ l.fn.reader.failures;
  write_sound : l.writer.failures ≡ l.fn.writer.failures;
}

use Rattle.std.proofs.Common.{◌≡◌, ◌≤◌, ◌+◌, ◌-◌, length}
use Rattle.std.specs.Io.KnownBytes.{Consumes}
use Rattle.devices.proofs.all_bytes.bytes_of.Given as goal

-- what was read is there, at most one byte past the limit, and no call failed
abbrev pub invariant-loop-block : goal.invariant-loop-block
invariant-loop-block g l = record {
  consumed : Consumes (g.R.Read.remaining l.fn.reader.device) (g.R.Read.remaining l.reader.device) l.bytes.items;
  few : length l.bytes.items ≤ l.limit + 1;
  sound : l.reader.failures ≡ l.fn.reader.failures;
}

abbrev pub decreases-loop-block : goal.decreases-loop-block
decreases-loop-block g l = (l.limit + 1) - length l.bytes.items

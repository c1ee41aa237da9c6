use Rattle.std.proofs.Common.{◌≡◌, ◌-◌, ◌≤◌, take, length, count_by}
use Rattle.chunks.specs.Scan.{is_delimiter}
use Rattle.chunks.proofs.delimited.delimiters.Given as goal

abbrev pub invariant-loop-at : goal.invariant-loop-at
invariant-loop-at l = record {
  counted : l.many ≡ count_by (is_delimiter l.delimiter) (take l.at l.text);
  few : l.many
      ≤ l.at;
  within : l.at ≤ length l.text;
}

abbrev pub decreases-loop-at : goal.decreases-loop-at
decreases-loop-at l = length l.text - l.at

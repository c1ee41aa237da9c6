use Rattle.std.proofs.Common.{◌≡◌, ◌-◌, ◌≤◌, drop, length, slice_get}
use Rattle.chunks.specs.Scan.{all_kept, is_delimiter, scan}
use Rattle.chunks.proofs.delimited.part_at.Given as goal

abbrev pub invariant-rest : goal.invariant-rest
invariant-rest l = record {
  same : slice_get (scan (is_delimiter l.delimiter) all_kept 0 0 l.text) l.before
      ≡ slice_get (scan (is_delimiter l.delimiter) all_kept l.start l.at (drop l.at l.text)) l.left;
  within : l.at ≤ length l.text;
}

abbrev pub decreases-rest : goal.decreases-rest
decreases-rest l = length l.text - l.at

abbrev pub invariant-loop-i : goal.invariant-loop-i
invariant-loop-i l = slice_get (scan (is_delimiter l.delimiter) all_kept 0 0 l.text) l.before
    ≡ slice_get (scan (is_delimiter l.delimiter) all_kept l.start l.i (drop l.i l.text)) l.left

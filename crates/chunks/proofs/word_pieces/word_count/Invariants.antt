use Rattle.std.proofs.Common.{◌≡◌, ◌+◌, ◌≤◌, drop, length}
use Rattle.chunks.specs.Pieces.{is_gap, is_wide}
use Rattle.chunks.specs.Scan.{scan}
use Rattle.chunks.proofs.word_pieces.word_count.Given as goal

abbrev pub invariant-loop-i : goal.invariant-loop-i
invariant-loop-i l = record {
  same : l.count + length (scan is_gap is_wide l.start l.i (drop l.i l.text)) ≡ length (scan is_gap is_wide 0 0 l.text);
  few : l.count ≤ l.i;
}

use Rattle.std.proofs.Common.{◌≡◌, drop, slice_get}
use Rattle.chunks.specs.Pieces.{is_gap, is_wide}
use Rattle.chunks.specs.Scan.{scan}
use Rattle.chunks.proofs.word_pieces.word_at.Given as goal

abbrev pub invariant-loop-i : goal.invariant-loop-i
invariant-loop-i l = slice_get (scan is_gap is_wide 0 0 l.text) l.before
    ≡ slice_get (scan is_gap is_wide l.start l.i (drop l.i l.text)) l.left

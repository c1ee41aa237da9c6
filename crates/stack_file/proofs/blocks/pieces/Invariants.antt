use Rattle.std.proofs.Common.{◌≡◌, ◌-◌, ◌≤◌, length, ◌==◌}
use Rattle.stack_text.specs.Reading.{pieces_at}
use Rattle.stack_file.specs.Pieces.{ended_at}
use Rattle.stack_file.proofs.PieceTexts.{with_text}
use Rattle.stack_file.proofs.blocks.pieces.Given as goal

-- the pieces so far, and then those that are left
abbrev pub invariant-loop : goal.invariant-loop
invariant-loop l = record {
  left : with_text l.text.items (pieces_at (l.count == 1) (l.count - l.counter) (30001 - length l.text.items) l.lines)
      ≡ ended_at l.count l.fn.lines;
  short : length l.text.items ≤ 30001;
}

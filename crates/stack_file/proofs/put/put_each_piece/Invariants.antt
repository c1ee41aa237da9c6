use Rattle.std.proofs.Common.{◌≡◌, ◌-◌, ◌≤◌, length, map, ◌==◌}
use Rattle.std.specs.List.{slice_split}
use Rattle.stack_text.specs.Words.{barred}
use Rattle.stack_file.specs.Lines.{with_lines}
use Rattle.stack_file.proofs.put.put_each_piece.Given as goal

-- what is written, and then the lines of what is left
abbrev pub invariant-loop : goal.invariant-loop
invariant-loop l = record {
  left : with_lines l.out.items (map barred (slice_split (λ b. b == 13) l.rest)) ≡ with_lines l.fn.out.items
      (map barred (slice_split (λ b. b == 13) l.text));
  short : length l.rest ≤ length l.text - l.counter;
}

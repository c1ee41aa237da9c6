use Rattle.std.proofs.Common.{◌≡◌, ◌≤◌, count_by, take, ◌==◌}
use Rattle.stack_file.proofs.put.returns_in.Given as goal

-- how many there are so far
abbrev pub invariant-loop-byte : goal.invariant-loop-byte
invariant-loop-byte l = record {
  counted : l.returns ≡ count_by (λ b. b == 13) (take l.byte-index l.text);
  few : l.returns ≤ l.byte-index;
}

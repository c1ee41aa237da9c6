use Rattle.std.proofs.Common.{◌≡◌, ◌≤◌, take, count_by}
use Rattle.chunks.specs.Scan.{is_delimiter}
use Rattle.chunks.proofs.delimited.delimiters_in.Given as goal

abbrev pub invariant-loop-byte : goal.invariant-loop-byte
invariant-loop-byte l = record {
  counted : l.many
      ≡ count_by (is_delimiter l.delimiter) (take l.byte-index l.block);
  few : l.many ≤ l.byte-index;
}

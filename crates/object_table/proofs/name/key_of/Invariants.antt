use Rattle.std.proofs.Common.{◌≡◌, take}
use Rattle.object_table.specs.Keys.{key_of}
use Rattle.object_table.proofs.name.key_of.Given as goal

-- the key of the bytes so far
abbrev pub invariant-loop-byte : goal.invariant-loop-byte
invariant-loop-byte l = record {
  items : l.byte-items ≡ l.fn.name;
  key : l.key ≡ key_of (take l.byte-index l.byte-items);
}

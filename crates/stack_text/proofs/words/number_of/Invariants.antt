use Rattle.std.proofs.Common.{◌≡◌, ◌<◌, ◌^◌, drop}
use Rattle.stack_text.specs.Words.{digits_after}
use Rattle.stack_text.proofs.words.number_of.Given as goal

-- the digits that are left follow those of the number
abbrev pub invariant-loop-byte : goal.invariant-loop-byte
invariant-loop-byte l = record {
  left : digits_after l.number (drop l.byte-index l.bytes) ≡ digits_after 0 l.bytes;
  small : l.number < 10 ^ l.byte-index;
}

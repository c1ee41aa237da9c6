use Rattle.std.proofs.Common.{◌≡◌, take}
use Rattle.std.specs.List.{list_all}
use Rattle.stack_text.specs.Words.{is_plain}
use Rattle.stack_text.proofs.words.is_all_plain.Given as goal

-- whether each byte so far stands for itself
abbrev pub invariant-loop-byte : goal.invariant-loop-byte
invariant-loop-byte l = l.plain ≡ list_all is_plain (take l.byte-index l.bytes)

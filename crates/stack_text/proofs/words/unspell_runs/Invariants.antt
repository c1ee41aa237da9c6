use Rattle.std.proofs.Common.{◌≡◌, ◌-◌, ◌++◌, ◌≤◌, length}
use Rattle.std.specs.Option.{option_map}
use Rattle.stack_text.specs.Words.{unspelled}
use Rattle.stack_text.proofs.words.unspell_runs.Given as goal

-- what is written, and then the text of what is left
abbrev pub invariant-loop : goal.invariant-loop
invariant-loop l = record {
  left : option_map (λ t. l.out.items ++ t) (unspelled l.rest)
      ≡ option_map (λ t. l.fn.out.items ++ t) (unspelled l.bytes);
  short : length l.rest ≤ length l.bytes - l.counter;
}

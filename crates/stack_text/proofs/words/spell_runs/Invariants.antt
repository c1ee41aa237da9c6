use Rattle.std.proofs.Common.{◌≡◌, ◌-◌, ◌≤◌, ◌++◌, length}
use Rattle.stack_text.specs.Words.{spelled}
use Rattle.stack_text.proofs.words.spell_runs.Given as goal

-- what is written, and then the spelling of what is left
abbrev pub invariant-loop : goal.invariant-loop
invariant-loop l = record {
  left : l.out.items ++ spelled l.rest ≡ l.fn.out.items ++ spelled l.text;
  short : length l.rest ≤ length l.text - l.counter;
}

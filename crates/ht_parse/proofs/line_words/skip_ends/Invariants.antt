use Rattle.std.proofs.Common.{◌≡◌, ◌≤◌, ◌-◌, length}
use Rattle.ht_grammar.specs.Ends.{past_ends}
use Rattle.ht_parse.proofs.line_words.skip_ends.Given as goal

abbrev pub invariant-loop-turn : goal.invariant-loop-turn
invariant-loop-turn l = (past_ends l.tokens ≡ past_ends l.fn.tokens) × (length l.tokens ≤ l._turn-end - l._turn)

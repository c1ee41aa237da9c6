use Rattle.std.proofs.Common.{ℕ, ◌-◌, ◌≤◌, List, ◌++◌, length}
use Rattle.ht_lex.specs.declared.tokens.Span.{Span}
use Rattle.ht_lex.specs.Tokens.{Cuts, InOrder}
use Rattle.ht_lex.proofs.cut.lex.Given as goal

abbrev pub invariant-loop-place : goal.invariant-loop-place
invariant-loop-place l = record {
  grown : (rest : List Span) (stop : ℕ) → Cuts l.text l.place rest stop → Cuts l.text 0 (l.spans.items ++ rest) stop;
  ordered : InOrder 0 l.spans.items l.place;
  within : l.place ≤ length l.text;
}

abbrev pub decreases-loop-place : goal.decreases-loop-place
decreases-loop-place l = length l.text - l.place

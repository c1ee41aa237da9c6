use Rattle.std.proofs.Common.{◌≡◌, ◌≤◌, ◌+◌, Some}
use Rattle.ht_grammar.specs.Depth.{depth}
use Rattle.ht_grammar.specs.Fronts.{leading_operator}
use Rattle.ht_grammar.specs.Reading as spec
use Rattle.ht_expressions.specs.Fronts.{rank_of}
use Rattle.ht_expressions.proofs.grammar.Grammar.rank.Given as goal

abbrev pub invariant-loop-below : goal.invariant-loop-below
invariant-loop-below g l = record {
  same : spec.rank_at (spec.read l.self.depth) l.self.depth l.below l.fn.tokens ≡ Some (l.left, l.tokens);
  fits : depth l.left ≤ l.self.depth + 1;
  next : l.next ≡ rank_of (leading_operator l.tokens);
}

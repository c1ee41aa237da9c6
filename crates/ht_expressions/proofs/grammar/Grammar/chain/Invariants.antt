use Rattle.std.proofs.Common.{◌≡◌, ◌≤◌, ◌+◌, ◌-◌}
use Rattle.ht_grammar.specs.Depth.{depth}
use Rattle.ht_grammar.specs.Reading as spec
use Rattle.ht_expressions.proofs.grammar.Grammar.chain.Given as goal

abbrev pub invariant-loop-turn : goal.invariant-loop-turn
invariant-loop-turn g l = record {
  same : spec.chain_at (spec.read l.self.depth) l.self.depth l.below (l.self.depth + 2) l.fn.first l.fn.tokens
      ≡ spec.chain_at (spec.read l.self.depth) l.self.depth l.below (l._turn-end - l._turn) l.left l.tokens;
  fits : depth l.left ≤ l.self.depth + 1;
}

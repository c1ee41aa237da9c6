use Rattle.std.proofs.Common.{◌≡◌, ◌≤◌, ◌-◌}
use Rattle.ht_grammar.specs.Trees as t
use Rattle.ht_grammar.specs.Depth.{depths}
use Rattle.ht_grammar.specs.Reading as spec
use Rattle.ht_tree.specs.View.{exprs_of}
use Rattle.ht_expressions.proofs.grammar.Grammar.list.Given as goal

abbrev pub invariant-loop-turn : goal.invariant-loop-turn
invariant-loop-turn g l = record {
  same : spec.list_at (spec.read l.self.depth) l.self.depth l.turns t.none l.fn.tokens
      ≡ spec.list_at (spec.read l.self.depth) l.self.depth (l.turns - l._turn) (exprs_of l.found.items.items) l.tokens;
  fits : depths (exprs_of l.found.items.items) ≤ l.self.depth;
}

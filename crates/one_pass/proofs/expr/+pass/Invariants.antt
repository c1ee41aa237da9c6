-- What falls in each call of the cycle, and what its loop keeps.
use Rattle.std.proofs.Common.{◌≡◌, ◌+◌, ◌*◌, ◌≤◌}
use Rattle.ht_grammar.specs.Expressions as e
use Rattle.one_pass.specs.Computed.{Computed, ComputedList}
use Rattle.one_pass.proofs.expr.+pass.Given as goal

abbrev pub decreases-in_parens : goal.decreases-in_parens
decreases-in_parens g l = 10 * l.room + 9

abbrev pub decreases-operand : goal.decreases-operand
decreases-operand g l = 10 * l.room + 5

abbrev pub decreases-right_operand : goal.decreases-right_operand
decreases-right_operand g l = 10 * l.room + 4

abbrev pub decreases-power : goal.decreases-power
decreases-power g l = 10 * l.room + 3

abbrev pub decreases-exponent : goal.decreases-exponent
decreases-exponent g l = 10 * l.room + 2

abbrev pub decreases-prefixed : goal.decreases-prefixed
decreases-prefixed g l = 10 * l.room + 2

abbrev pub decreases-behind_prefix : goal.decreases-behind_prefix
decreases-behind_prefix g l = 10 * l.room + 1

abbrev pub decreases-primary : goal.decreases-primary
decreases-primary g l = 10 * l.room + 1

abbrev pub invariant-operand-loop-turn : goal.invariant-operand-loop-turn
invariant-operand-loop-turn g l = record {
  same : l.world ≡ l.fn.world;
  level : l.level ≤ l.below;
  computed : Computed l.fn.world.history l.frame (e.rank l.level) l.fn.tokens l.fn.calls.items l.value l.depth l.tokens
      l.calls.items;
}

abbrev pub decreases-list : goal.decreases-list
decreases-list g l = 10 * l.room + 6

abbrev pub decreases-call : goal.decreases-call
decreases-call g l = 10 * l.room + 7

abbrev pub invariant-list-loop-turn : goal.invariant-list-loop-turn
invariant-list-loop-turn g l = record {
  same : l.world ≡ l.fn.world;
  computed : ComputedList l.fn.world.history l.frame l.fn.tokens l.fn.calls.items l.fn.values l.values l.deepest l.tokens
      l.calls.items;
}

abbrev pub decreases-first_operand : goal.decreases-first_operand
decreases-first_operand g l = 10 * l.room + 4

use Rattle.std.proofs.Common.{◌≡◌, ◌≤◌, ◌-◌, ◌+◌, length}
use Rattle.ht_grammar.specs.Depth.{handlers_depth, max_depth}
use Rattle.ht_grammar.specs.Ends.{past_ends}
use Rattle.ht_grammar.specs.Reading.{made}
use Rattle.ht_grammar.specs.Whole.{handlers_at}
use Rattle.ht_tree.specs.ScriptView.{script_of}
use Rattle.ht_parse.specs.Lists.{append_handlers}
use Rattle.ht_parse.proofs.whole.script.Given as goal

abbrev pub invariant-loop-turn : goal.invariant-loop-turn
invariant-loop-turn l = record {
  same : handlers_at (length l.fn.tokens + 1) (past_ends l.fn.tokens)
      ≡ made (append_handlers (script_of l.found)) (handlers_at (l.turns - l._turn) l.tokens);
  fits : handlers_depth (script_of l.found) ≤ max_depth;
}

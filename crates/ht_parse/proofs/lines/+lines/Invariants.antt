use Rattle.std.proofs.Common.{◌≡◌, ◌≤◌, ◌-◌}
use Rattle.ht_grammar.specs.Depth.{stmts_depth}
use Rattle.ht_grammar.specs.Reading.{made}
use Rattle.ht_grammar.specs.Lines.{blocks, lines, lines_at}
use Rattle.ht_tree.specs.StatementView.{stmts_of}
use Rattle.ht_parse.specs.Contexts.{context_of}
use Rattle.ht_parse.specs.Blocks.{statement_of, else_if_of}
use Rattle.ht_parse.specs.Lists.{append}
use Rattle.ht_parse.proofs.Ranks.{rank}
use Rattle.ht_parse.proofs.lines.+lines.Given as goal

abbrev pub decreases-lines : goal.decreases-lines
decreases-lines l = rank l.depth 8

abbrev pub decreases-statement : goal.decreases-statement
decreases-statement l = rank l.depth 7

abbrev pub decreases-when : goal.decreases-when
decreases-when l = rank l.rules.depth 15

abbrev pub decreases-then_part : goal.decreases-then_part
decreases-then_part l = rank l.rules.depth 14

abbrev pub decreases-long : goal.decreases-long
decreases-long l = rank l.rules.depth 13

abbrev pub decreases-repeat : goal.decreases-repeat
decreases-repeat l = rank l.rules.depth 13

abbrev pub decreases-otherwise : goal.decreases-otherwise
decreases-otherwise l = rank l.depth 10

abbrev pub decreases-else_part : goal.decreases-else_part
decreases-else_part l = rank l.depth 9

abbrev pub decreases-else_if : goal.decreases-else_if
decreases-else_if l = rank l.depth 7

abbrev pub invariant-lines-loop-turn : goal.invariant-lines-loop-turn
invariant-lines-loop-turn l = record {
  same : blocks l.depth lines (context_of l.context) l.fn.tokens
      ≡ made (append (stmts_of l.found.items.items))
      (lines_at (statement_of l.depth) (else_if_of l.depth) (l._turn-end - l._turn) (context_of l.context) l.tokens);
  fits : stmts_depth (stmts_of l.found.items.items) ≤ l.depth;
}

use Rattle.ht_grammar.specs.Reads.{ReadsLines}
use Rattle.ht_tree.specs.StatementView.{stmts_of}
use Rattle.ht_parse.proofs.Kept.{shared-parses}
use Rattle.ht_parse.proofs.recent.RecentTexts.lines.Goals as goal

pub returns-in_ok-parse_lines-in-None : goal.returns-in_ok-parse_lines-in-None
returns-in_ok-parse_lines-in-None c =
    shared-parses (λ x. x.value) (λ x. stmts_of x.items.items) ReadsLines _ _ _ c.in_ok-parse_lines-in-None.ensures
    c.kept.ensures.shared c.kept.ensures.memory

use Rattle.ht_grammar.specs.Reads.{ReadsExpr}
use Rattle.ht_parse.proofs.Kept.{shared-parses}
use Rattle.ht_parse.proofs.recent.RecentTexts.expression.Goals as goal

pub returns-in_ok-parse_expr-in-None : goal.returns-in_ok-parse_expr-in-None
returns-in_ok-parse_expr-in-None c =
    shared-parses (λ x. x.value) (λ x. x) ReadsExpr _ _ _ c.in_ok-parse_expr-in-None.ensures c.kept.ensures.shared
    c.kept.ensures.memory

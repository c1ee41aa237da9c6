-- The expression that says which of several is meant.
use Rattle.ht_grammar.specs.Trees as tree

abbrev pub expr_in : tree.Which → tree.Expr
expr_in (tree.by_id x) = x
expr_in (tree.by_text x) = x

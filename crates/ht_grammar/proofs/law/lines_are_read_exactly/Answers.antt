use Rattle.ht_grammar.proofs.Exactly.{lines_exact, one_tree, one_tree_per_text}
use Rattle.ht_grammar.proofs.law.lines_are_read_exactly.Goals as goal

pub returns-clause-exact : goal.returns-clause-exact
returns-clause-exact c = lines_exact

pub returns-clause-one : goal.returns-clause-one
returns-clause-one c = one_tree lines_exact

pub returns-clause-text : goal.returns-clause-text
returns-clause-text c = one_tree_per_text lines_exact

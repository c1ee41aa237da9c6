use Rattle.ht_expressions.proofs.parser.+read.Given as goal

abbrev pub decreases-read : goal.decreases-read
decreases-read l = l.depth

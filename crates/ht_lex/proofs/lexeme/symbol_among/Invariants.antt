use Rattle.std.proofs.Common.{◌≡◌, length, map}
use Rattle.ht_lex.specs.Lexemes.{symbol_among}
use Rattle.ht_lex.proofs.lexeme.symbol_among.Given as goal

abbrev pub invariant-loop-rows : goal.invariant-loop-rows
invariant-loop-rows l = symbol_among (map (λ row. (row.0.now, row.1)) l.rows) l.text
    ≡ symbol_among (map (λ row. (row.0.now, row.1)) l.initial.rows) l.text

abbrev pub decreases-loop-rows : goal.decreases-loop-rows
decreases-loop-rows l = length l.rows

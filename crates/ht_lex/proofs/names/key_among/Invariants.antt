use Rattle.std.proofs.Common.{◌≡◌, length, map}
use Rattle.ht_values.specs.Text.{entry}
use Rattle.ht_lex.proofs.names.key_among.Given as goal

abbrev pub invariant-loop-rows : goal.invariant-loop-rows
invariant-loop-rows l = entry (map (λ row. (row.0.now, row.1)) l.rows) l.word
    ≡ entry (map (λ row. (row.0.now, row.1)) l.initial.rows) l.word

abbrev pub decreases-loop-rows : goal.decreases-loop-rows
decreases-loop-rows l = length l.rows

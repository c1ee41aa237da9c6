use Rattle.std.proofs.Common.{◌≡◌, ◌-◌, ◌≤◌, length}
use Rattle.ht_lex.specs.Lexemes.{past}
use Rattle.ht_lex.proofs.lexeme.past.Given as goal

abbrev pub invariant-loop-end : goal.invariant-loop-end
invariant-loop-end l =
    (past l.class l.text l.end ≡ past l.class l.text l.place) × (l.place ≤ l.end) × (l.end ≤ length l.text)

abbrev pub decreases-loop-end : goal.decreases-loop-end
decreases-loop-end l = length l.text - l.end

use Rattle.std.proofs.Common.{◌≡◌, ◌-◌, ◌++◌}
use Rattle.ht_grammar.specs.Reading.{made}
use Rattle.ht_grammar.specs.Lines.{names_at}
use Rattle.ht_parse.proofs.container.names.Given as goal

abbrev pub invariant-loop-turn : goal.invariant-loop-turn
invariant-loop-turn l =
    names_at l.turns l.fn.tokens ≡ made (λ ws. l.found.items ++ ws) (names_at (l.turns - l._turn) l.tokens)

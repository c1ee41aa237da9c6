-- Reading at one depth or rank more.
use Rattle.std.proofs.Common.{◌≡◌, ℕ, zero, suc, ◌-◌, ◌<◌, List, None, refl, ap, arith}
use Rattle.ht_lex.specs.Token.{Token}
use Rattle.ht_grammar.specs.Expressions.{Level}
use Rattle.ht_grammar.specs.Reading.{read, level_at, rank_at, power_at}

pub none_read : (d : ℕ) (p : Level) (ts : List Token) → d ≡ 0 → read d p ts ≡ None
unfolding read
none_read zero p ts e = refl
none_read (suc d) p ts e = absurd (omega arith)

pub read_deeper : (d : ℕ) (p : Level) (ts : List Token) → 0 < d → read d p ts ≡ level_at (read (d - 1)) (d - 1) p ts
unfolding read
read_deeper zero p ts e = absurd (omega arith)
read_deeper (suc d) p ts e = let n : d ≡ suc d - 1 = omega arith in ap (λ n. level_at (read n) n p ts) n

pub rank_zero : (d r : ℕ) (ts : List Token) → r ≡ 0 → rank_at (read d) d r ts ≡ power_at (read d) d ts
unfolding rank_at
rank_zero d zero ts e = refl
rank_zero d (suc r) ts e = absurd (omega arith)

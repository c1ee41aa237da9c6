-- Reading at one depth more.
use Rattle.std.proofs.Common.{◌≡◌, ℕ, zero, suc, ◌-◌, ◌<◌, List, None, refl, ap, length, arith}
use Rattle.ht_lex.specs.Token.{Token, first_kind}
use Rattle.ht_grammar.specs.Grammar.{Context}
use Rattle.ht_grammar.specs.Lines.{container, container_by, blocks, stmt_at, else_if_at, lines, otherwise, lines_at}
use Rattle.ht_grammar.specs.Lines.{otherwise_by, block_at}
use Rattle.ht_parse.specs.Blocks.{statement_of, else_if_of}

pub no_container : (d : ℕ) (ts : List Token) → d ≡ 0 → container d ts ≡ None
unfolding container
no_container zero ts e = refl
no_container (suc d) ts e = absurd (omega arith)

pub container_deeper : (d : ℕ) (ts : List Token) → 0 < d
    → container d ts ≡ container_by (container (d - 1)) (d - 1) (first_kind ts) ts
unfolding container
container_deeper zero ts e = absurd (omega arith)
container_deeper (suc d) ts e =
    let n : d ≡ suc d - 1 = omega arith in ap (λ n. container_by (container n) n (first_kind ts) ts) n

pub no_statement : (d : ℕ) (x : Context) (ts : List Token) → d ≡ 0 → statement_of d x ts ≡ None
unfolding statement_of
no_statement zero x ts e = refl
no_statement (suc d) x ts e = absurd (omega arith)

pub statement_deeper : (d : ℕ) (x : Context) (ts : List Token) → 0 < d
    → statement_of d x ts ≡ stmt_at (blocks (d - 1)) (d - 1) x ts
unfolding statement_of
statement_deeper zero x ts e = absurd (omega arith)
statement_deeper (suc d) x ts e = let n : d ≡ suc d - 1 = omega arith in ap (λ n. stmt_at (blocks n) n x ts) n

pub no_else_if : (d : ℕ) (x : Context) (ts : List Token) → d ≡ 0 → else_if_of d x ts ≡ None
unfolding else_if_of
no_else_if zero x ts e = refl
no_else_if (suc d) x ts e = absurd (omega arith)

pub else_if_deeper : (d : ℕ) (x : Context) (ts : List Token) → 0 < d
    → else_if_of d x ts ≡ else_if_at (blocks (d - 1)) (d - 1) x ts
unfolding else_if_of
else_if_deeper zero x ts e = absurd (omega arith)
else_if_deeper (suc d) x ts e = let n : d ≡ suc d - 1 = omega arith in ap (λ n. else_if_at (blocks n) n x ts) n

pub lines_of : (d : ℕ) (x : Context) (ts : List Token)
    → blocks d lines x ts ≡ lines_at (statement_of d) (else_if_of d) (suc (length ts)) x ts
unfolding blocks block_at statement_of else_if_of
lines_of zero x ts = refl
lines_of (suc d) x ts = refl

pub otherwise_of : (d : ℕ) (x : Context) (ts : List Token)
    → blocks d otherwise x ts ≡ otherwise_by (statement_of d) (else_if_of d) (first_kind ts) x ts
unfolding blocks block_at statement_of else_if_of
otherwise_of zero x ts = refl
otherwise_of (suc d) x ts = refl

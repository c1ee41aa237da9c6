-- How deep a list is with one expression more.
use Rattle.std.proofs.Common.{◌≡◌, ◌≤◌, ℕ, max, arith}
use Rattle.ht_grammar.specs.Trees as t
use Rattle.ht_grammar.specs.Depth.{depth, depths}
use Rattle.ht_grammar.specs.Reading.{snoc}

pub depths_snoc : (xs : t.Exprs) (x : t.Expr) → depths (snoc xs x) ≡ max (depths xs) (depth x)
depths_snoc t.none x = omega arith
depths_snoc (t.more y ys) x = omega (arith, depths_snoc ys x)

pub snoc_fits : {d : ℕ} (xs : t.Exprs) (x : t.Expr) → depths xs ≤ d → depth x ≤ d → depths (snoc xs x) ≤ d
snoc_fits xs x a b = omega (arith, depths_snoc xs x, a, b)

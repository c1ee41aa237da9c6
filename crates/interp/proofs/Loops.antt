-- The list that is left in a loop.
use Rattle.ht_grammar.specs.Depth.{depth, depths, stmt_depth, stmts_depth}
use Rattle.std.proofs.Common.{arith, zero, ◌≡◌, ◌≤◌, ℕ, suc, ◌+◌, ◌<◌, List, [], ◌∷◌, length, drop, get_or, ap}
use Rattle.std.proofs.Common.{drop_of_length-le}
use Rattle.primitives.proofs.Lists.{cut}
use Rattle.ht_grammar.specs.Trees as tree
use Rattle.ht_grammar.specs.Statements as stm
use Rattle.ht_tree.specs.View.{exprs_of}
use Rattle.ht_tree.specs.StatementView.{stmts_of}

pub cut_exprs : (xs : List tree.Expr) (i : ℕ) (x : tree.Expr) → i < length xs → x ≡ get_or xs i x
    → exprs_of (drop i xs) ≡ tree.more x (exprs_of (drop (i + 1) xs))
cut_exprs xs i x h e = ap exprs_of (cut xs i x h e)

pub no_exprs : (xs : List tree.Expr) (i : ℕ) → length xs ≤ i → exprs_of (drop i xs) ≡ tree.none
no_exprs xs i h = ap exprs_of (drop_of_length-le xs h)

pub cut_stmts : (xs : List stm.Stmt) (i : ℕ) (x : stm.Stmt) → i < length xs → x ≡ get_or xs i x
    → stmts_of (drop i xs) ≡ stm.also x (stmts_of (drop (i + 1) xs))
cut_stmts xs i x h e = ap stmts_of (cut xs i x h e)

pub no_stmts : (xs : List stm.Stmt) (i : ℕ) → length xs ≤ i → stmts_of (drop i xs) ≡ stm.stop
no_stmts xs i h = ap stmts_of (drop_of_length-le xs h)

pub deep_expr : (xs : List tree.Expr) (i : ℕ) (x : tree.Expr) → i < length xs → x ≡ get_or xs i x
    → depth x ≤ depths (exprs_of xs)
deep_expr [] i x h e = absurd (omega arith)
deep_expr (y ∷ ys) zero x h e = let q : depth x ≡ depth y = ap depth e in omega arith
deep_expr (y ∷ ys) (suc i) x h e = let q = deep_expr ys i x (omega arith) e in omega arith

pub deep_stmt : (xs : List stm.Stmt) (i : ℕ) (x : stm.Stmt) → i < length xs → x ≡ get_or xs i x
    → stmt_depth x ≤ stmts_depth (stmts_of xs)
deep_stmt [] i x h e = absurd (omega arith)
deep_stmt (y ∷ ys) zero x h e = let q : stmt_depth x ≡ stmt_depth y = ap stmt_depth e in omega arith
deep_stmt (y ∷ ys) (suc i) x h e = let q = deep_stmt ys i x (omega arith) e in omega arith

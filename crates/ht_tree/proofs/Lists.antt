-- Lists of trees.
use Rattle.std.proofs.Common.{◌≡◌, List, [], ◌∷◌, ◌++◌, refl, ap}
use Rattle.ht_grammar.specs.Trees as t
use Rattle.ht_grammar.specs.Statements as s
use Rattle.ht_grammar.specs.Reading.{snoc}
use Rattle.ht_tree.specs.declared.script.Handler.{Handler}
use Rattle.ht_tree.specs.View.{exprs_of}
use Rattle.ht_tree.specs.StatementView.{stmts_of, with_stmt}
use Rattle.ht_tree.specs.ScriptView.{handler_of, handlers_of, with_handler}

pub exprs_snoc : (xs : List t.Expr) (x : t.Expr) → exprs_of (xs ++ x ∷ []) ≡ snoc (exprs_of xs) x
exprs_snoc [] x = refl
exprs_snoc (y ∷ ys) x = ap (t.more y) (exprs_snoc ys x)

pub stmts_with : (xs : List s.Stmt) (x : s.Stmt) → stmts_of (xs ++ x ∷ []) ≡ with_stmt (stmts_of xs) x
stmts_with [] x = refl
stmts_with (y ∷ ys) x = ap (s.also y) (stmts_with ys x)

pub handlers_with : (hs : List Handler) (h : Handler)
    → handlers_of (hs ++ h ∷ []) ≡ with_handler (handlers_of hs) (handler_of h)
handlers_with [] h = refl
handlers_with (g ∷ gs) h = ap (s.and_handler (handler_of g)) (handlers_with gs h)

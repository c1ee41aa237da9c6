-- Lists that a loop makes from the front, beside rules that make them from the back.
use Rattle.std.proofs.Common.{◌≡◌, ◌≤◌, ℕ, List, [], ◌∷◌, ◌++◌, Some, None, refl, ap, sym, append_assoc, arith}
use Rattle.ht_grammar.specs.Statements.{Stmt, Stmts, stop, also, Handler, handler, Handlers, no_handlers, and_handler}
use Rattle.ht_grammar.specs.Depth.{stmt_depth, stmts_depth, handlers_depth}
use Rattle.ht_grammar.specs.Reading.{Outcome, made}
use Rattle.ht_tree.specs.StatementView.{with_stmt}
use Rattle.ht_tree.specs.ScriptView.{with_handler}
use Rattle.ht_parse.specs.Lists.{append, append_handlers, handler_depth}

pub made_names : (found : List (List ℕ)) (w : List ℕ) (o : Outcome (List (List ℕ)))
    → made (λ ws. found ++ ws) (made (λ ws. w ∷ ws) o) ≡ made (λ ws. (found ++ w ∷ []) ++ ws) o
made_names found w None = refl
made_names found w (Some p) = ap (λ ws. Some (ws, p.1)) (sym (append_assoc found (w ∷ []) p.0))

append_with : (xs : Stmts) (x : Stmt) (ys : Stmts) → append (with_stmt xs x) ys ≡ append xs (also x ys)
append_with stop x ys = refl
append_with (also z zs) x ys = ap (also z) (append_with zs x ys)

pub append_stop : (xs : Stmts) → append xs stop ≡ xs
append_stop stop = refl
append_stop (also x xs) = ap (also x) (append_stop xs)

pub made_lines : (found : Stmts) (x : Stmt) (o : Outcome Stmts)
    → made (append found) (made (also x) o) ≡ made (append (with_stmt found x)) o
made_lines found x None = refl
made_lines found x (Some p) = ap (λ ss. Some (ss, p.1)) (sym (append_with found x p.0))

pub made_nothing : (o : Outcome Stmts) → made (append stop) o ≡ o
made_nothing None = refl
made_nothing (Some p) = refl

pub with_fits : {d : ℕ} (xs : Stmts) (x : Stmt) → stmts_depth xs ≤ d → stmt_depth x ≤ d
    → stmts_depth (with_stmt xs x) ≤ d
with_fits stop x a b = omega (arith, a, b)
with_fits {d = d} (also y ys) x a b =
    let rest = with_fits {d = d} ys x (omega (arith, a)) b in omega (arith, a, b, rest)

append_with_handler : (xs : Handlers) (x : Handler) (ys : Handlers)
    → append_handlers (with_handler xs x) ys ≡ append_handlers xs (and_handler x ys)
append_with_handler no_handlers x ys = refl
append_with_handler (and_handler z zs) x ys = ap (and_handler z) (append_with_handler zs x ys)

pub append_none : (xs : Handlers) → append_handlers xs no_handlers ≡ xs
append_none no_handlers = refl
append_none (and_handler x xs) = ap (and_handler x) (append_none xs)

pub made_handlers : (found : Handlers) (x : Handler) (o : Outcome Handlers)
    → made (append_handlers found) (made (and_handler x) o) ≡ made (append_handlers (with_handler found x)) o
made_handlers found x None = refl
made_handlers found x (Some p) = ap (λ hs. Some (hs, p.1)) (sym (append_with_handler found x p.0))

pub handlers_fit : {d : ℕ} (xs : Handlers) (x : Handler) → handlers_depth xs ≤ d → handler_depth x ≤ d
    → handlers_depth (with_handler xs x) ≤ d
handlers_fit no_handlers (handler k w ps ss) a b = omega (arith, a, b)
handlers_fit {d = d} (and_handler (handler k w ps ss) ys) x a b =
    let rest = handlers_fit {d = d} ys x (omega (arith, a)) b in omega (arith, a, b, rest)

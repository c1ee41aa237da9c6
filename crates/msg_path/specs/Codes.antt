-- Codes of what was found.
use Rattle.std.specs.Prelude.{ℕ, Bool, true, false, List, [], ◌∷◌, ◌≡◌, refl}
use Rattle.std.specs.Coded.{Coded, code_by, coded×, coded_ℕ, coded_bool, coded_list}
use Rattle.std.proofs.Common.{ap}
use Rattle.ht_grammar.specs.declared.vocabulary.HandlerKind.{HandlerKind}
use Rattle.ht_grammar.specs.declared.vocabulary.HandlerKind.TheVariants.{Command, Function}
use Rattle.ht_grammar.specs.Statements.{Stmt, Stmts, stop, also, Handler, handler}
use Rattle.ht_tree.specs.StatementView.{stmts_of}
use Rattle.msg_path.specs.Handlers.{HandlerFound}

abbrev pub kind_of : Bool → HandlerKind
kind_of true = Function
kind_of false = Command

abbrev pub stmt_list : Stmts → List Stmt
stmt_list stop = []
stmt_list (also x xs) = x ∷ stmt_list xs

pub stmts_back : (ss : Stmts) → stmts_of (stmt_list ss) ≡ ss
stmts_back stop = refl
stmts_back (also x xs) = ap (λ ys. also x ys) (stmts_back xs)

-- a handler in parts
abbrev pub Parts : Type 0
Parts = Bool × (List ℕ × (List (List ℕ) × List Stmt))

abbrev pub parts_of : Handler → Parts
parts_of (handler Command n ps ss) = (false, (n, (ps, stmt_list ss)))
parts_of (handler Function n ps ss) = (true, (n, (ps, stmt_list ss)))

abbrev pub handler_of_parts : Parts → Handler
handler_of_parts p = handler (kind_of p.0) p.1.0 p.1.1.0 (stmts_of p.1.1.1)

pub handler_back : (h : Handler) → handler_of_parts (parts_of h) ≡ h
handler_back (handler Command n ps ss) = ap (λ xs. handler Command n ps xs) (stmts_back ss)
handler_back (handler Function n ps ss) = ap (λ xs. handler Function n ps xs) (stmts_back ss)

abbrev pub coded_handler : Coded Stmt → Coded Handler
coded_handler c = code_by Parts
    (coded× coded_bool (coded× (coded_list coded_ℕ) (coded× (coded_list (coded_list coded_ℕ)) (coded_list c)))) parts_of
    handler_of_parts handler_back

abbrev pub coded_found : Coded Stmt → Coded HandlerFound
coded_found c = code_by (ℕ × Handler) (coded× coded_ℕ (coded_handler c)) (λ f. (f.object, f.handler))
    (λ p. record { object = p.0; handler = p.1 }) (λ _. refl)

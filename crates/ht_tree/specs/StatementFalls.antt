-- A statement is less deep than those that it is a part of.
use Rattle.std.specs.Prelude.{◌+◌, ◌≤◌, max, List, [], ◌∷◌}
use Rattle.std.proofs.Common.{arith}
use denote.Param.Weighed.{most}
use Rattle.ht_tree.specs.declared.statement.Stmt.TheDeep.{deep-StmtKind, deep-Form}
use Rattle.ht_tree.specs.declared.statement.Form.{Form}
use Rattle.ht_tree.specs.declared.statement.Form.TheVariants as form
use Rattle.ht_tree.specs.declared.statement.StmtKind.{StmtKind}
use Rattle.ht_tree.specs.declared.statement.StmtKind.TheVariants as stmt
use Rattle.ht_grammar.specs.Statements as s
use Rattle.ht_grammar.specs.Depth.{stmt_depth, stmts_depth}
use Rattle.ht_tree.specs.StatementView.{stmt_of, stmts_of, kept_stmt}

stmts_fall : (xs : List s.Stmt) → most (λ x. stmt_depth x + 1) xs ≤ stmts_depth (stmts_of xs) + 1
stmts_fall [] = omega arith
stmts_fall (x ∷ xs) = omega (arith, stmts_fall xs)

stmt_falls : (x : StmtKind) → deep-StmtKind x ≤ stmt_depth (stmt_of x)
stmt_falls (stmt.Put e) = omega arith
stmt_falls (stmt.PutIn w e c) = omega arith
stmt_falls (stmt.Get e) = omega arith
stmt_falls (stmt.Set p r e) = omega arith
stmt_falls (stmt.SetRun p e) = omega arith
stmt_falls (stmt.Add e c) = omega arith
stmt_falls (stmt.Subtract e c) = omega arith
stmt_falls (stmt.Multiply c e) = omega arith
stmt_falls (stmt.Divide c e) = omega arith
stmt_falls (stmt.Delete h c) = omega arith
stmt_falls (stmt.Do e) = omega arith
stmt_falls (stmt.Send e r) = omega arith
stmt_falls (stmt.Go g) = omega arith
stmt_falls (stmt.Global ws) = omega arith
stmt_falls stmt.ExitRepeat = omega arith
stmt_falls stmt.NextRepeat = omega arith
stmt_falls stmt.ExitToHyperCard = omega arith
stmt_falls (stmt.Exit w) = omega arith
stmt_falls (stmt.Pass w) = omega arith
stmt_falls stmt.ReturnNothing = omega arith
stmt_falls (stmt.ReturnValue e) = omega arith
stmt_falls (stmt.Command w es) = omega arith
stmt_falls (stmt.CommandOf w e) = omega arith
stmt_falls (stmt.When e b) =
    omega (arith, stmts_fall b.value.lines.items.items, stmts_fall b.value.otherwise.items.items)
stmt_falls (stmt.Repeat h ss) = omega (arith, stmts_fall ss.items.items)

pub form_falls : (x : Form) → max (deep-Form x) 0 ≤ stmt_depth (kept_stmt x)
form_falls (form.Bare p w) = omega arith
form_falls (form.CommandOf d p x) = omega arith
form_falls (form.Command d p x) = omega arith
form_falls (form.Kind d p x) = omega (arith, stmt_falls x.value)

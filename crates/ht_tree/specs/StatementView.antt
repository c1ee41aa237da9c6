-- The statements in memory, as plain trees.
use Rattle.std.specs.Prelude.{◌≡◌, ◌≤◌, ℕ, List, [], ◌∷◌}
use Rattle.ht_tree.specs.declared.call.CallOf.{CallOf}
use Rattle.ht_tree.specs.declared.call.CallWith.{CallWith}
use Rattle.ht_tree.specs.declared.statement.Destination.{Destination}
use Rattle.ht_tree.specs.declared.statement.Destination.TheVariants as destination
use Rattle.ht_tree.specs.declared.statement.Head.{Head}
use Rattle.ht_tree.specs.declared.statement.Head.TheVariants as head
use Rattle.ht_tree.specs.declared.statement.StmtKind.{StmtKind}
use Rattle.ht_tree.specs.declared.statement.StmtKind.TheVariants as stmt
use Rattle.ht_tree.specs.declared.statement.Form.{Form}
use Rattle.ht_tree.specs.declared.statement.Form.TheVariants as form
use Rattle.ht_tree.specs.declared.statement.StmtForm.{StmtForm}
use Rattle.ht_tree.specs.declared.statement.StmtForm.TheVariants as lent
use Rattle.ht_grammar.specs.Statements as s
use Rattle.ht_grammar.specs.Trees as t
use Rattle.ht_grammar.specs.Depth.{stmt_depth, max_depth}
use Rattle.ht_tree.specs.View.{exprs_of, chunk_of, selector_of, ref_of}

abbrev pub destination_of : Destination → s.Destination
destination_of (destination.ToCard p) = s.to_card (selector_of p)
destination_of (destination.ToBackground p) = s.to_background (selector_of p)

abbrev pub head_of : Head → s.Head
head_of head.Forever = s.forever
head_of (head.Times e) = s.times e
head_of (head.While e) = s.while e
head_of (head.Until e) = s.until e
head_of (head.CountedUp c) = s.counted_up c.value.name c.value.from c.value.to
head_of (head.CountedDown c) = s.counted_down c.value.name c.value.from c.value.to

abbrev pub stmts_of : List s.Stmt → s.Stmts
stmts_of [] = s.stop
stmts_of (x ∷ xs) = s.also x (stmts_of xs)

abbrev pub stmt_of : StmtKind → s.Stmt
stmt_of (stmt.Put e) = s.put e
stmt_of (stmt.PutIn w e c) = s.put_in w e c
stmt_of (stmt.Get e) = s.get e
stmt_of (stmt.Set p r e) = s.set p (ref_of r.value) e
stmt_of (stmt.SetRun p e) = s.set_run p e
stmt_of (stmt.Add e c) = s.add e c
stmt_of (stmt.Subtract e c) = s.subtract e c
stmt_of (stmt.Multiply c e) = s.multiply c e
stmt_of (stmt.Divide c e) = s.divide c e
stmt_of (stmt.Delete h c) = s.delete (chunk_of h) c
stmt_of (stmt.Do e) = s.do_ e
stmt_of (stmt.Send e r) = s.send e (ref_of r.value)
stmt_of (stmt.Go g) = s.go (destination_of g)
stmt_of (stmt.Global ws) = s.global ws.items.items
stmt_of stmt.ExitRepeat = s.exit_repeat
stmt_of stmt.NextRepeat = s.next_repeat
stmt_of stmt.ExitToHyperCard = s.exit_to_hypercard
stmt_of (stmt.Exit w) = s.exit w
stmt_of (stmt.Pass w) = s.pass w
stmt_of stmt.ReturnNothing = s.return_nothing
stmt_of (stmt.ReturnValue e) = s.return_value e
stmt_of (stmt.Command w es) = s.command w (exprs_of es.items.items)
stmt_of (stmt.CommandOf w e) = s.command w (t.more e t.none)
stmt_of (stmt.When e b) = s.when e (stmts_of b.value.lines.items.items) (stmts_of b.value.otherwise.items.items)
stmt_of (stmt.Repeat h ss) = s.repeat (head_of h) (stmts_of ss.items.items)

abbrev pub command_of : CallOf → s.Stmt
command_of x = s.command x.name.value (t.more x.argument t.none)

abbrev pub command_with : CallWith → s.Stmt
command_with x = s.command x.name.value (exprs_of x.arguments.items.items)

abbrev pub kept_stmt : Form → s.Stmt
kept_stmt (form.Bare p w) = s.command w.value t.none
kept_stmt (form.CommandOf d p x) = command_of x.value
kept_stmt (form.Command d p x) = command_with x.value
kept_stmt (form.Kind d p x) = stmt_of x.value

abbrev pub form_of : StmtForm → s.Stmt
form_of (lent.Bare w) = s.command w.now t.none
form_of (lent.CommandOf x) = command_of x.now
form_of (lent.Command x) = command_with x.now
form_of (lent.Kind x) = stmt_of x.now

-- A statement knows how deep it is, and isn't too deep.
abbrev pub IsDepthOf : s.Stmt → ℕ → Type 0
IsDepthOf x d = (d ≡ stmt_depth x) × (d ≤ max_depth)

abbrev pub knows_depth : Form → Type 0
knows_depth (form.Bare p w) = Unit {0}
knows_depth (form.CommandOf d p x) = IsDepthOf (command_of x.value) d
knows_depth (form.Command d p x) = IsDepthOf (command_with x.value) d
knows_depth (form.Kind d p x) = IsDepthOf (stmt_of x.value) d

-- statements and then another
abbrev pub with_stmt : s.Stmts → s.Stmt → s.Stmts
with_stmt s.stop x = s.also x s.stop
with_stmt (s.also y ys) x = s.also y (with_stmt ys x)

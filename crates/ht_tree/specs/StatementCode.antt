-- Statements in postfix form: a list of marks that gives the tree back.
use Rattle.std.specs.Prelude.{ℕ, List, [], ◌∷◌}
use Rattle.std.proofs.Common.{◌≡◌, refl, ◌∙◌}
use Rattle.ht_values.specs.declared.word.Prop.{Prop}
use Rattle.ht_grammar.specs.declared.vocabulary.RunProp.{RunProp}
use Rattle.ht_values.specs.declared.word.Where.{Where}
use Rattle.ht_grammar.specs.Trees.{Expr, Exprs, Chunk, Ref, Container}
use Rattle.ht_grammar.specs.Statements.{Destination, Head, Stmt, Stmts}
use Rattle.ht_grammar.specs.Statements as s

-- A statement without the statements in it, whose marks stand before its own.
pub data Mark : Type 0 where
  put get do_ return_value when : Expr → Mark
  put_in : Where → Expr → Container → Mark
  set : Prop → Ref → Expr → Mark
  set_run : RunProp → Expr → Mark
  add subtract : Expr → Container → Mark
  multiply divide : Container → Expr → Mark
  delete : Chunk → Container → Mark
  send : Expr → Ref → Mark
  go : Destination → Mark
  global : List (List ℕ) → Mark
  exit_repeat next_repeat exit_to_hypercard return_nothing stop also : Mark
  exit pass : List ℕ → Mark
  command : List ℕ → Exprs → Mark
  repeat : Head → Mark

pub data Item : Type 0 where
  a_stmt : Stmt → Item
  some_stmts : Stmts → Item

-- The marks of a tree, and then others.
abbrev mutual
  pub stmt_marks : Stmt → List Mark → List Mark
  stmt_marks (s.put e) ms = put e ∷ ms
  stmt_marks (s.put_in w e c) ms = put_in w e c ∷ ms
  stmt_marks (s.get e) ms = get e ∷ ms
  stmt_marks (s.set p r e) ms = set p r e ∷ ms
  stmt_marks (s.set_run p e) ms = set_run p e ∷ ms
  stmt_marks (s.add e c) ms = add e c ∷ ms
  stmt_marks (s.subtract e c) ms = subtract e c ∷ ms
  stmt_marks (s.multiply c e) ms = multiply c e ∷ ms
  stmt_marks (s.divide c e) ms = divide c e ∷ ms
  stmt_marks (s.delete h c) ms = delete h c ∷ ms
  stmt_marks (s.do_ e) ms = do_ e ∷ ms
  stmt_marks (s.send e r) ms = send e r ∷ ms
  stmt_marks (s.go g) ms = go g ∷ ms
  stmt_marks (s.global ws) ms = global ws ∷ ms
  stmt_marks s.exit_repeat ms = exit_repeat ∷ ms
  stmt_marks s.next_repeat ms = next_repeat ∷ ms
  stmt_marks s.exit_to_hypercard ms = exit_to_hypercard ∷ ms
  stmt_marks (s.exit w) ms = exit w ∷ ms
  stmt_marks (s.pass w) ms = pass w ∷ ms
  stmt_marks s.return_nothing ms = return_nothing ∷ ms
  stmt_marks (s.return_value e) ms = return_value e ∷ ms
  stmt_marks (s.command w es) ms = command w es ∷ ms
  stmt_marks (s.when e ss os) ms = stmts_marks ss (stmts_marks os (when e ∷ ms))
  stmt_marks (s.repeat h ss) ms = stmts_marks ss (repeat h ∷ ms)

  pub stmts_marks : Stmts → List Mark → List Mark
  stmts_marks s.stop ms = stop ∷ ms
  stmts_marks (s.also x xs) ms = stmt_marks x (stmts_marks xs (also ∷ ms))

abbrev pub built : Mark → List Item → List Item
built (put e) ts = a_stmt (s.put e) ∷ ts
built (put_in w e c) ts = a_stmt (s.put_in w e c) ∷ ts
built (get e) ts = a_stmt (s.get e) ∷ ts
built (set p r e) ts = a_stmt (s.set p r e) ∷ ts
built (set_run p e) ts = a_stmt (s.set_run p e) ∷ ts
built (add e c) ts = a_stmt (s.add e c) ∷ ts
built (subtract e c) ts = a_stmt (s.subtract e c) ∷ ts
built (multiply c e) ts = a_stmt (s.multiply c e) ∷ ts
built (divide c e) ts = a_stmt (s.divide c e) ∷ ts
built (delete h c) ts = a_stmt (s.delete h c) ∷ ts
built (do_ e) ts = a_stmt (s.do_ e) ∷ ts
built (send e r) ts = a_stmt (s.send e r) ∷ ts
built (go g) ts = a_stmt (s.go g) ∷ ts
built (global ws) ts = a_stmt (s.global ws) ∷ ts
built exit_repeat ts = a_stmt s.exit_repeat ∷ ts
built next_repeat ts = a_stmt s.next_repeat ∷ ts
built exit_to_hypercard ts = a_stmt s.exit_to_hypercard ∷ ts
built (exit w) ts = a_stmt (s.exit w) ∷ ts
built (pass w) ts = a_stmt (s.pass w) ∷ ts
built return_nothing ts = a_stmt s.return_nothing ∷ ts
built (return_value e) ts = a_stmt (s.return_value e) ∷ ts
built (command w es) ts = a_stmt (s.command w es) ∷ ts
built (when e) (some_stmts os ∷ some_stmts ss ∷ ts) = a_stmt (s.when e ss os) ∷ ts
built (repeat h) (some_stmts ss ∷ ts) = a_stmt (s.repeat h ss) ∷ ts
built stop ts = some_stmts s.stop ∷ ts
built also (some_stmts xs ∷ a_stmt x ∷ ts) = some_stmts (s.also x xs) ∷ ts
built _ _ = []

abbrev pub run : List Mark → List Item → List Item
run [] ts = ts
run (m ∷ ms) ts = run ms (built m ts)

abbrev pub stmt_on : List Item → Stmt
stmt_on (a_stmt x ∷ ts) = x
stmt_on _ = s.return_nothing

mutual
  pub stmt_back : (x : Stmt) (ms : List Mark) (ts : List Item) → run (stmt_marks x ms) ts ≡ run ms (a_stmt x ∷ ts)
  stmt_back (s.put e) ms ts = refl
  stmt_back (s.put_in w e c) ms ts = refl
  stmt_back (s.get e) ms ts = refl
  stmt_back (s.set p r e) ms ts = refl
  stmt_back (s.set_run p e) ms ts = refl
  stmt_back (s.add e c) ms ts = refl
  stmt_back (s.subtract e c) ms ts = refl
  stmt_back (s.multiply c e) ms ts = refl
  stmt_back (s.divide c e) ms ts = refl
  stmt_back (s.delete h c) ms ts = refl
  stmt_back (s.do_ e) ms ts = refl
  stmt_back (s.send e r) ms ts = refl
  stmt_back (s.go g) ms ts = refl
  stmt_back (s.global ws) ms ts = refl
  stmt_back s.exit_repeat ms ts = refl
  stmt_back s.next_repeat ms ts = refl
  stmt_back s.exit_to_hypercard ms ts = refl
  stmt_back (s.exit w) ms ts = refl
  stmt_back (s.pass w) ms ts = refl
  stmt_back s.return_nothing ms ts = refl
  stmt_back (s.return_value e) ms ts = refl
  stmt_back (s.command w es) ms ts = refl
  stmt_back (s.when e ss os) ms ts =
      stmts_back ss (stmts_marks os (when e ∷ ms)) ts ∙ stmts_back os (when e ∷ ms) (some_stmts ss ∷ ts)
  stmt_back (s.repeat h ss) ms ts = stmts_back ss (repeat h ∷ ms) ts

  stmts_back : (x : Stmts) (ms : List Mark) (ts : List Item) → run (stmts_marks x ms) ts ≡ run ms (some_stmts x ∷ ts)
  stmts_back s.stop ms ts = refl
  stmts_back (s.also x xs) ms ts =
      stmt_back x (stmts_marks xs (also ∷ ms)) ts ∙ stmts_back xs (also ∷ ms) (a_stmt x ∷ ts)

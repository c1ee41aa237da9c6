-- What is read as statements is of the grammar.
use Rattle.std.proofs.Common.{◌≡◌, ℕ, zero, suc, List, [], ◌∷◌, length, Some, None, ◌&&◌, sym, ap, ◌∙◌, subst, codes}
use Rattle.std.proofs.lemmas.Option.{none-some}
use Rattle.std.specs.Cmp.{first_so}
use Rattle.ht_grammar.proofs.Keys.{ended_by_key}
use Rattle.ht_lex.specs.declared.key.Key.TheVariants as k
use Rattle.ht_lex.specs.Token.{Token, key, eol, first_kind, later, is_key}
use Rattle.ht_lex.specs.Token as token
use Rattle.ht_grammar.specs.Trees.{Expr}
use Rattle.ht_grammar.specs.Statements.{Head, Stmt, Stmts, stop, also}
use Rattle.ht_grammar.specs.Statements as s
use Rattle.ht_grammar.specs.Fronts.{same_name}
use Rattle.ht_grammar.specs.Ends.{past_ends, ended, past_for, past_times}
use Rattle.ht_grammar.specs.Expressions.{Derives, whole}
use Rattle.ht_grammar.specs.Grammar.{Context, inside_repeat, DerivesSimple, DerivesHead, DerivesStmt, DerivesLines}
use Rattle.ht_grammar.specs.Grammar.{DerivesElse}
use Rattle.ht_grammar.specs.Grammar as g
use Rattle.ht_grammar.specs.Reading.{Parser, and_then, made, read}
use Rattle.ht_grammar.specs.Lines.{after_key, begins_simple, begins_statement, ended_then, then_at, bound_by, with_by}
use Rattle.ht_grammar.specs.Lines.{times_at, head_at, simple_within, simple_at, Block, lines, otherwise, long_at}
use Rattle.ht_grammar.specs.Lines.{short_end, then_by, else_if_at, stmt_at, lines_at, else_by, otherwise_by, block_at}
use Rattle.ht_grammar.specs.Lines.{blocks}
use Rattle.ht_grammar.proofs.Steps.{became, taken, making, tested}
use Rattle.ht_grammar.proofs.Sound.{chosen, read_sound}
use Rattle.ht_grammar.proofs.SoundSimple.{simple_sound, within_sound}
use Rattle.ht_grammar.proofs.Keys.{keyed, past_end, else_key, end_key, equal_key, if_key, repeat_key, then_key, to_key}

module _ (d : ℕ) (x : Context) where
  bound_sound : (w : List ℕ) (a m : List Token) (v : Expr) (q : Head × List Token) → Derives whole a v m
      → bound_by d x w v (first_kind m) m ≡ Some q → DerivesHead (key k.With ∷ token.name w ∷ key k.Equal ∷ a) q.0 q.1
  bound_sound w a (key k.To ∷ m) v q h same = making (s.counted_up w v) (read d whole m)
      (λ q. DerivesHead (key k.With ∷ token.name w ∷ key k.Equal ∷ a) q.0 q.1) same
      (λ p i. g.counted_up h (read_sound d whole m p i))
  bound_sound w a (token.name u ∷ m) v q h same = tested (same_name u (codes "down")) _ same (λ b same.
      keyed to_key (λ m. made (s.counted_down w v) (read d whole m)) m _ same (λ n i same.
      making (s.counted_down w v) (read d whole n) (λ q. DerivesHead
      (key k.With ∷ token.name w ∷ key k.Equal ∷ a) q.0 q.1) same (λ p j.
      g.counted_down (ended_by_key h (ap (λ l. token.name u ∷ l) i)) b (read_sound d whole n p j))))
  bound_sound w a m v q h same = absurd (none-some _ same)

  with_sound : (ts : List Token) (q : Head × List Token) → with_by d x (first_kind ts) ts ≡ Some q
      → DerivesHead (key k.With ∷ ts) q.0 q.1
  with_sound (token.name w ∷ ts) q same = keyed equal_key (λ m.
      and_then (read d whole m) (λ e r. bound_by d x w e (first_kind r) r)) ts _ same (λ m i same.
      taken (read d whole m) (λ e r. bound_by d x w e (first_kind r) r) _ same (λ p h same.
      subst (λ l. DerivesHead (key k.With ∷ token.name w ∷ l) q.0 q.1) (sym i)
      (bound_sound w m p.1 p.0 q (read_sound d whole m p h) same)))
  with_sound ts q same = absurd (none-some _ same)

  times_sound : (a : List Token) (q : Head × List Token) → times_at d x (past_for a) ≡ Some q → DerivesHead a q.0 q.1
  times_sound a q same = taken (read d whole (past_for a)) (λ e r. Some (s.times e, past_times r)) _ same (λ p h same.
      became (λ q. DerivesHead a q.0 q.1) same (g.times (read_sound d whole (past_for a) p h)))

  head_sound : (ts : List Token) (q : Head × List Token) → head_at d x ts ≡ Some q → DerivesHead ts q.0 q.1
  unfolding head_at
  head_sound [] q same = became (λ q. DerivesHead [] q.0 q.1) same g.no_head
  head_sound (eol ∷ ts) q same = became (λ q. DerivesHead (eol ∷ ts) q.0 q.1) same g.no_head
  head_sound (key k.Forever ∷ ts) q same = became (λ q. DerivesHead (key k.Forever ∷ ts) q.0 q.1) same g.forever
  head_sound (key k.While ∷ ts) q same = making s.while (read d whole ts) (λ q. DerivesHead (key k.While ∷ ts) q.0 q.1)
      same (λ p h. g.while (read_sound d whole ts p h))
  head_sound (key k.Until ∷ ts) q same = making s.until (read d whole ts) (λ q. DerivesHead (key k.Until ∷ ts) q.0 q.1)
      same (λ p h. g.until (read_sound d whole ts p h))
  head_sound (key k.With ∷ ts) q same = with_sound ts q same
  head_sound ts q same = times_sound _ q same

-- What a block's tree says of the tokens.
abbrev pub GoodBlock : Block → Context → List Token → Stmts × List Token → Type 0
GoodBlock lines x ts q = DerivesLines x ts q.0 q.1
GoodBlock otherwise x ts q = DerivesElse x ts q.0 q.1

-- the tokens of an `else if`, after these two words
abbrev GoodElseIf : Context → List Token → Stmt × List Token → Type 0
GoodElseIf x ts q = DerivesElse x (key k.Else ∷ key k.If ∷ ts) (also q.0 stop) q.1

-- The first argument reads only what the grammar has.
module _ (inner : Block → Context → Parser Stmts) (d : ℕ)
    (good : (b : Block) (x : Context) (ts : List Token) (q : Stmts × List Token) → inner b x ts ≡ Some q
    → GoodBlock b x ts q) (x : Context) where
  long_sound : (a m b : List Token) (v : Expr) (q : Stmt × List Token) → Derives whole a v m
      → past_ends m ≡ key k.Then ∷ b → long_at inner d x v b ≡ Some q → DerivesStmt x (key k.If ∷ a) q.0 q.1
  long_sound a m b v q h f same = past_end (ended b) (λ l.
      and_then (inner lines x l) (λ ss r. made (s.when v ss) (inner otherwise x r))) _ same (λ l i same.
      taken (inner lines x l) (λ ss r. made (s.when v ss) (inner otherwise x r)) _ same (λ p j same.
      making (s.when v p.0) (inner otherwise x p.1) (λ q. DerivesStmt x (key k.If ∷ a) q.0 q.1) same (λ w n.
      g.long h f i (good lines x l p j) (good otherwise x p.1 w n))))

  else_if_sound : (a : List Token) (q : Stmt × List Token) → else_if_at inner d x a ≡ Some q → GoodElseIf x a q
  else_if_sound a q same =
      taken (read d whole a) (λ e. then_at (long_at inner d x e)) (GoodElseIf x a q) same (λ p h same.
      keyed then_key (long_at inner d x p.0) (past_ends p.1) (GoodElseIf x a q) same (λ b f same.
      past_end (ended b) (λ l. and_then (inner lines x l) (λ ss r. made (s.when p.0 ss) (inner otherwise x r)))
      (GoodElseIf x a q) same (λ l i same.
      taken (inner lines x l) (λ ss r. made (s.when p.0 ss) (inner otherwise x r)) (GoodElseIf x a q) same (λ v j same.
      making (s.when p.0 v.0) (inner otherwise x v.1) (λ q. GoodElseIf x a q) same (λ w n.
      g.else_if (read_sound d whole a p h) f i (good lines x l v j) (good otherwise x v.1 w n))))))

  short_sound : (a m b n : List Token) (v : Expr) (u : Stmt) (q : Stmt × List Token) → Derives whole a v m
      → past_ends m ≡ key k.Then ∷ b → DerivesSimple x b u n → short_end inner d x v u n ≡ Some q
      → DerivesStmt x (key k.If ∷ a) q.0 q.1
  short_sound a m b n v u q h f i same = chosen (is_key k.Else (first_kind (past_ends n)) && begins_simple
      (first_kind (later (past_ends n)))) _ same (λ t same.
      making (λ w. s.when v (also u stop) (also w stop)) (simple_within d x (later (past_ends n))) (λ q.
      DerivesStmt x (key k.If ∷ a) q.0 q.1) same (λ w j. g.short_else h f i (else_key (past_ends n) (first_so _ _ t))
      (within_sound d x (later (past_ends n)) w j))) (λ t same.
      became (λ q. DerivesStmt x (key k.If ∷ a) q.0 q.1) same (g.short h f i))

  on_line : (a m b : List Token) (v : Expr) (q : Stmt × List Token) → Derives whole a v m → past_ends m ≡ key k.Then ∷ b
      → and_then (simple_within d x b) (short_end inner d x v) ≡ Some q → DerivesStmt x (key k.If ∷ a) q.0 q.1
  on_line a m b v q h f same = taken (simple_within d x b) (short_end inner d x v) _ same (λ p i same.
      short_sound a m b p.1 v p.0 q h f (within_sound d x b p i) same)

  then_sound : (a m b : List Token) (v : Expr) (q : Stmt × List Token) → Derives whole a v m
      → past_ends m ≡ key k.Then ∷ b → then_by inner d x (first_kind b) v b ≡ Some q
      → DerivesStmt x (key k.If ∷ a) q.0 q.1
  then_sound a m [] v q h f same = long_sound a m [] v q h f same
  then_sound a m (eol ∷ b) v q h f same = long_sound a m (eol ∷ b) v q h f same
  then_sound a m b v q h f same = on_line a m b v q h f same

  repeat_sound : (a : List Token) (q : Stmt × List Token) → stmt_at inner d x (key k.Repeat ∷ a) ≡ Some q
      → DerivesStmt x (key k.Repeat ∷ a) q.0 q.1
  unfolding stmt_at
  repeat_sound a q same =
      let P : Type 0 = DerivesStmt x (key k.Repeat ∷ a) q.0 q.1 in
      taken (head_at d x a) (λ h r. ended_then (ended r)
      (λ l. and_then (inner lines (inside_repeat x) l)
      (λ ss. after_key k.End (after_key k.Repeat (λ c. Some (s.repeat h ss, c)))))) P same (λ p h same.
      past_end (ended p.1) (λ l. and_then (inner lines (inside_repeat x) l)
      (λ ss. after_key k.End (after_key k.Repeat (λ c. Some (s.repeat p.0 ss, c))))) P same (λ l i same.
      taken (inner lines (inside_repeat x) l)
      (λ ss. after_key k.End (after_key k.Repeat (λ c. Some (s.repeat p.0 ss, c)))) P same (λ v j same.
      keyed end_key (after_key k.Repeat (λ c. Some (s.repeat p.0 v.0, c))) v.1 P same (λ m e same.
      keyed repeat_key (λ c. Some (s.repeat p.0 v.0, c)) m P same (λ c f same.
      became (λ q. DerivesStmt x (key k.Repeat ∷ a) q.0 q.1) same
      (g.repeat (head_sound d x a p h) i
      (subst (λ c. DerivesLines (inside_repeat x) l v.0 c) (e ∙ ap (λ n. key k.End ∷ n) f)
      (good lines (inside_repeat x) l v j))))))))

  alone_sound : (ts : List Token) (q : Stmt × List Token) → simple_at d x ts ≡ Some q → DerivesStmt x ts q.0 q.1
  alone_sound ts q same = g.simple (simple_sound d x ts q same)

  stmt_sound : (ts : List Token) (q : Stmt × List Token) → stmt_at inner d x ts ≡ Some q → DerivesStmt x ts q.0 q.1
  unfolding stmt_at
  stmt_sound (key k.If ∷ ts) q same = taken (read d whole ts) (λ e.
      then_at (λ r. then_by inner d x (first_kind r) e r)) _ same (λ p h same.
      keyed then_key (λ r. then_by inner d x (first_kind r) p.0 r) (past_ends p.1) _ same (λ b f same.
      then_sound ts p.1 b p.0 q (read_sound d whole ts p h) f same))
  stmt_sound (key k.Repeat ∷ ts) q same = repeat_sound ts q same
  stmt_sound ts q same = alone_sound _ q same

-- These two read only what the grammar has.
module _ (statement : Context → Parser Stmt) (else_if : Context → Parser Stmt)
    (good : (x : Context) (ts : List Token) (q : Stmt × List Token) → statement x ts ≡ Some q
    → DerivesStmt x ts q.0 q.1)
    (fine : (x : Context) (ts : List Token) (q : Stmt × List Token) → else_if x ts ≡ Some q → GoodElseIf x ts q) where
  lines_sound : (n : ℕ) (x : Context) (ts : List Token) (q : Stmts × List Token)
      → lines_at statement else_if n x ts ≡ Some q → DerivesLines x ts q.0 q.1
  unfolding lines_at
  lines_sound zero x ts q same = absurd (none-some _ same)
  lines_sound (suc n) x ts q same = chosen (begins_statement (first_kind ts)) _ same (λ b same.
      taken (statement x ts) (λ t r. ended_then (ended r) (λ b. made (also t) (lines_at statement else_if n x b))) _
      same (λ p h same. past_end (ended p.1) (λ b. made (also p.0) (lines_at statement else_if n x b)) _ same
      (λ l i same. making (also p.0) (lines_at statement else_if n x l) (λ q. DerivesLines x ts q.0 q.1) same (λ v j.
      g.line (good x ts p h) i (lines_sound n x l v j))))) (λ b same.
      became (λ q. DerivesLines x ts q.0 q.1) same g.done)

  else_lines_sound : (x : Context) (a : List Token) (q : Stmts × List Token)
      → ended_then (ended a) (λ l. and_then (lines_at statement else_if (suc (length l)) x l)
      (λ ss. after_key k.End (after_key k.If (λ c. Some (ss, c))))) ≡ Some q → DerivesElse x (key k.Else ∷ a) q.0 q.1
  else_lines_sound x a q same =
      let P : Type 0 = DerivesElse x (key k.Else ∷ a) q.0 q.1 in
      past_end (ended a) (λ l. and_then (lines_at statement else_if (suc (length l)) x l)
      (λ ss. after_key k.End (after_key k.If (λ c. Some (ss, c))))) P same (λ l i same.
      taken (lines_at statement else_if (suc (length l)) x l)
      (λ ss. after_key k.End (after_key k.If (λ c. Some (ss, c)))) P same (λ v j same.
      keyed end_key (after_key k.If (λ c. Some (v.0, c))) v.1 P same (λ m e same.
      keyed if_key (λ c. Some (v.0, c)) m P same (λ c f same.
      became (λ q. DerivesElse x (key k.Else ∷ a) q.0 q.1) same
      (g.else_lines i (subst (λ c. DerivesLines x l v.0 c) (e ∙ ap (λ n. key k.End ∷ n) f)
      (lines_sound (suc (length l)) x l v j)))))))

  else_sound : (x : Context) (a : List Token) (q : Stmts × List Token)
      → else_by statement else_if (first_kind a) x a ≡ Some q → DerivesElse x (key k.Else ∷ a) q.0 q.1
  else_sound x (key k.If ∷ ts) q same = making (λ t. also t stop) (else_if x ts)
      (λ q. DerivesElse x (key k.Else ∷ key k.If ∷ ts) q.0 q.1) same (λ p h. fine x ts p h)
  else_sound x ts q same = else_lines_sound x _ q same

  otherwise_sound : (x : Context) (ts : List Token) (q : Stmts × List Token)
      → otherwise_by statement else_if (first_kind ts) x ts ≡ Some q → DerivesElse x ts q.0 q.1
  otherwise_sound x (key k.End ∷ ts) q same = keyed if_key (λ c. Some (stop, c)) ts _ same (λ c f same.
      became (λ q. DerivesElse x (key k.End ∷ ts) q.0 q.1) same
      (subst (λ l. DerivesElse x (key k.End ∷ l) stop c) (sym f) g.end_if))
  otherwise_sound x (key k.Else ∷ ts) q same = else_sound x ts q same
  otherwise_sound x ts q same = absurd (none-some _ same)

  block_sound : (b : Block) (x : Context) (ts : List Token) (q : Stmts × List Token)
      → block_at statement else_if b x ts ≡ Some q → GoodBlock b x ts q
  unfolding block_at
  block_sound lines x ts q same = lines_sound (suc (length ts)) x ts q same
  block_sound otherwise x ts q same = otherwise_sound x ts q same

-- What is read as lines, or as what comes after the lines of a `then`, is derived.
pub blocks_sound : (d : ℕ) (b : Block) (x : Context) (ts : List Token) (q : Stmts × List Token)
    → blocks d b x ts ≡ Some q → GoodBlock b x ts q
unfolding blocks
blocks_sound zero b x ts q same =
    block_sound (λ x ts. None) (λ x ts. None) (λ x ts q e. cc) (λ x ts q e. cc) b x ts q same
blocks_sound (suc d) b x ts q same = block_sound (λ x. stmt_at (blocks d) d x) (λ x. else_if_at (blocks d) d x)
    (λ x. stmt_sound (blocks d) d (blocks_sound d) x) (λ x. else_if_sound (blocks d) d (blocks_sound d) x) b x ts q same

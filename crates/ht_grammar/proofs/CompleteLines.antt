-- What is in the grammar is read: statements.
use Rattle.std.proofs.Common.{◌≡◌, ℕ, zero, suc, ◌<◌, ◌≤◌, List, [], ◌∷◌, length, true, false, Option, Some, None}
use Rattle.std.proofs.Common.{codes, ◌&&◌, refl, sym, ap, ◌∙◌, subst, arith}
use Rattle.std.proofs.lemmas.Bool.{cond-true, cond-false}
use Rattle.ht_lex.specs.declared.key.Key.TheVariants as k
use Rattle.ht_lex.specs.declared.key.TokenKind.{TokenKind}
use Rattle.ht_lex.specs.declared.key.TokenKind.TheVariants as kind
use Rattle.ht_lex.specs.Token.{Token, key, eol, first_kind, later, is_key}
use Rattle.ht_grammar.specs.Trees.{Expr}
use Rattle.ht_grammar.specs.Statements.{Head, Stmt, Stmts, stop, also}
use Rattle.ht_grammar.specs.Statements as s
use Rattle.ht_grammar.specs.Depth.{head_depth, stmt_depth, stmts_depth}
use Rattle.ht_grammar.specs.Fronts.{same_name}
use Rattle.ht_grammar.specs.Ends.{past_ends, ended, past_for, past_times}
use Rattle.ht_grammar.specs.Grammar.{Context, inside_repeat, DerivesSimple, DerivesHead, DerivesStmt, DerivesLines}
use Rattle.ht_grammar.specs.Grammar.{DerivesElse}
use Rattle.ht_grammar.specs.Grammar as g
use Rattle.ht_grammar.specs.Reading.{Parser, and_then, made}
use Rattle.ht_grammar.specs.Lines.{after_key, begins_expr, begins_simple, begins_statement, ended_then, then_at}
use Rattle.ht_grammar.specs.Lines.{bound_by, times_at, head_by, head_at, simple_within, simple_at, Block, lines}
use Rattle.ht_grammar.specs.Lines.{otherwise, long_at, short_end, then_by, else_if_at, stmt_at, lines_at, else_by}
use Rattle.ht_grammar.specs.Lines.{block_at, blocks}
use Rattle.ht_grammar.proofs.Begins.{expr_begins, simple_begins}
use Rattle.ht_grammar.proofs.Follow.{loose_to}
use Rattle.ht_grammar.proofs.FollowLines.{stops, stop_loose, ended_stops, else_stops, then_loose, times_loose}
use Rattle.ht_grammar.proofs.FollowLines.{loose_name}
use Rattle.ht_grammar.proofs.ShorterLines.{shorter_stmt, shorter_ended}
use Rattle.ht_grammar.proofs.Complete.{step, make}
use Rattle.ht_grammar.proofs.CompleteSimple.{ahead, claim_simple}

-- No `else` of a statement on one line stands here.
abbrev pub LeavesElse : List Token → Type 0
LeavesElse ts = (is_key k.Else (first_kind ts) && begins_simple (first_kind (later ts))) ≡ false

stmt_depth_pos : (v : Stmt) → 0 < stmt_depth v
stmt_depth_pos s.exit_repeat = omega arith
stmt_depth_pos _ = omega arith

begins_both : (o : Option TokenKind) → begins_simple o ≡ true → begins_statement o ≡ true
begins_both (Some (kind.Key k.If)) f = refl
begins_both (Some (kind.Key k.Repeat)) f = refl
begins_both None f = cc
begins_both (Some o) f = f

pub stmt_begins : {x : Context} {a c : List Token} {v : Stmt} → DerivesStmt x a v c
    → begins_statement (first_kind a) ≡ true
stmt_begins {a = a} (g.simple h) = begins_both (first_kind a) (simple_begins h)
stmt_begins (g.short h f i) = refl
stmt_begins (g.short_else h f i j l) = refl
stmt_begins (g.long h f i j l) = refl
stmt_begins (g.repeat h f i) = refl

statement_leaves : (ts : List Token) → begins_statement (first_kind ts) ≡ true → LeavesElse ts
unfolding is_key
statement_leaves [] f = cc
statement_leaves (key k.Else ∷ ts) f = cc
statement_leaves (t ∷ ts) f = refl

rest_leaves : {x : Context} {a c : List Token} {v : Stmts} → DerivesLines x a v c → LeavesElse c → LeavesElse a
rest_leaves g.done f = f
rest_leaves {a = a} (g.line h i j) f = statement_leaves a (stmt_begins h)

ended_past : (m : List Token) {b : List Token} → ended m ≡ Some b → past_ends m ≡ b
unfolding ended is_key
ended_past [] {b} f = cc
ended_past (eol ∷ ts) {b} f = cc
ended_past m f = cc

ended_no_simple : (m : List Token) {b : List Token} → ended m ≡ Some b → begins_simple (first_kind m) ≡ false
unfolding ended is_key
ended_no_simple [] f = refl
ended_no_simple (eol ∷ ts) f = refl
ended_no_simple m f = cc

else_begins : {x : Context} {a c : List Token} {v : Stmts} → DerivesElse x a v c
    → begins_statement (first_kind a) ≡ false
else_begins g.end_if = refl
else_begins (g.else_lines f h) = refl
else_begins (g.else_if h f i j l) = refl

else_leaves : {x : Context} {a c : List Token} {v : Stmts} → DerivesElse x a v c → LeavesElse a
unfolding is_key
else_leaves g.end_if = refl
else_leaves (g.else_lines {a = a} f h) = ended_no_simple a f
else_leaves (g.else_if h f i j l) = refl

times_is_head : (d : ℕ) (x : Context) (a : List Token) → begins_expr (first_kind (past_for a)) ≡ true
    → head_by d x (first_kind a) a ≡ times_at d x (past_for a)
times_is_head d x [] f = cc
times_is_head d x (eol ∷ a) f = cc
times_is_head d x (key k.Forever ∷ a) f = cc
times_is_head d x (key k.While ∷ a) f = cc
times_is_head d x (key k.Until ∷ a) f = cc
times_is_head d x (key k.With ∷ a) f = cc
times_is_head d x (t ∷ a) f = refl

bare_head : (d : ℕ) (x : Context) (c : List Token) {l : List Token} → ended c ≡ Some l
    → head_by d x (first_kind c) c ≡ Some (s.forever, c)
unfolding ended is_key
bare_head d x [] f = refl
bare_head d x (eol ∷ c) f = refl
bare_head d x c f = cc

claim_head : {a c : List Token} {v : Head} → DerivesHead a v c → (d : ℕ) (x : Context) → head_depth v ≤ d
    → {l : List Token} → ended c ≡ Some l → head_at d x a ≡ Some (v, c)
unfolding head_at is_key
claim_head (g.no_head {c}) d x fits f = bare_head d x c f
claim_head g.forever d x fits f = refl
claim_head (g.times {a} {m} {e = v} h) d x fits f = times_is_head d x a (expr_begins h)
    ∙ step (λ e r. Some (s.times e, past_times r)) (ahead h d fits (times_loose m f))
claim_head (g.while {a} {c} {e = v} h) d x fits f = make s.while (ahead h d fits (stop_loose c (ended_stops c f)))
claim_head (g.until {a} {c} {e = v} h) d x fits f = make s.until (ahead h d fits (stop_loose c (ended_stops c f)))
claim_head (g.counted_up {w} {a} {b} {c} {e = v} {f = u} h i) d x fits f =
    step (λ e r. bound_by d x w e (first_kind r) r) (ahead h d (omega arith) (loose_to b))
    ∙ make (s.counted_up w v) (ahead i d (omega arith) (stop_loose c (ended_stops c f)))
claim_head (g.counted_down {w} {v = n} {a} {b} {c} {e = v} {f = u} h o i) d x fits f =
    step (λ e r. bound_by d x w e (first_kind r) r) (ahead h d (omega arith) (loose_name n (key k.To ∷ b)))
    ∙ cond-true (same_name n (codes "down")) _ _ o
    ∙ make (s.counted_down w v) (ahead i d (omega arith) (stop_loose c (ended_stops c f)))

within : {x : Context} {a c : List Token} {v : Stmt} → DerivesSimple x a v c → (d : ℕ) → stmt_depth v ≤ d
    → stops c ≡ true → simple_within d x a ≡ Some (v, c)
within {v = v} h zero fits f = absurd (omega (arith, stmt_depth_pos v))
within h (suc d) fits f = claim_simple h d fits f

-- what `blocks` hands to its parts
abbrev statement_of : ℕ → Context → Parser Stmt
statement_of zero = λ x ts. None
statement_of (suc d) = λ x. stmt_at (blocks d) d x

abbrev else_if_of : ℕ → Context → Parser Stmt
else_if_of zero = λ x ts. None
else_if_of (suc d) = λ x. else_if_at (blocks d) d x

block_is : (d : ℕ) (b : Block) (x : Context) (ts : List Token)
    → blocks d b x ts ≡ block_at (statement_of d) (else_if_of d) b x ts
unfolding blocks is_key
block_is zero b x ts = refl
block_is (suc d) b x ts = refl

stmt_is_simple : (inner : Block → Context → Parser Stmts) (d : ℕ) (x : Context) (a : List Token)
    → begins_simple (first_kind a) ≡ true → stmt_at inner d x a ≡ simple_at d x a
unfolding stmt_at is_key
stmt_is_simple inner d x [] f = cc
stmt_is_simple inner d x (key k.If ∷ a) f = cc
stmt_is_simple inner d x (key k.Repeat ∷ a) f = cc
stmt_is_simple inner d x (t ∷ a) f = refl

then_is_simple : (inner : Block → Context → Parser Stmts) (d : ℕ) (x : Context) (v : Expr) (b : List Token)
    → begins_simple (first_kind b) ≡ true
    → then_by inner d x (first_kind b) v b ≡ and_then (simple_within d x b) (short_end inner d x v)
then_is_simple inner d x v [] f = cc
then_is_simple inner d x v (eol ∷ b) f = cc
then_is_simple inner d x v (t ∷ b) f = refl

then_is_long : (inner : Block → Context → Parser Stmts) (d : ℕ) (x : Context) (v : Expr) (b : List Token)
    {l : List Token} → ended b ≡ Some l → then_by inner d x (first_kind b) v b ≡ long_at inner d x v b
unfolding ended is_key
then_is_long inner d x v [] f = refl
then_is_long inner d x v (eol ∷ b) f = refl
then_is_long inner d x v b f = cc

long_goes : (inner : Block → Context → Parser Stmts) (d : ℕ) (x : Context) (v : Expr) (b : List Token)
    {l n c : List Token} {ss os : Stmts} → ended b ≡ Some l → inner lines x l ≡ Some (ss, n)
    → inner otherwise x n ≡ Some (os, c)
    → long_at inner d x v b ≡ Some (s.when v ss os, c)
long_goes inner d x v b {ss = ss} f g h =
    ap (λ o. ended_then o (λ l. and_then (inner lines x l) (λ ss r. made (s.when v ss) (inner otherwise x r)))) f
    ∙ step (λ ss r. made (s.when v ss) (inner otherwise x r)) g
    ∙ make (s.when v ss) h

else_is_lines : (statement else_if : Context → Parser Stmt) (x : Context) (a : List Token) {l : List Token}
    → ended a ≡ Some l
    → else_by statement else_if (first_kind a) x a
    ≡ and_then (lines_at statement else_if (suc (length l)) x l)
    (λ ss. after_key k.End (after_key k.If (λ c. Some (ss, c))))
unfolding ended is_key
else_is_lines statement else_if x [] {l} f = ap
    (λ o. ended_then o (λ l. and_then (lines_at statement else_if (suc (length l)) x l)
    (λ ss. after_key k.End (after_key k.If (λ c. Some (ss, c)))))) f
else_is_lines statement else_if x (eol ∷ a) {l} f = ap
    (λ o. ended_then o (λ l. and_then (lines_at statement else_if (suc (length l)) x l)
    (λ ss. after_key k.End (after_key k.If (λ c. Some (ss, c)))))) f
else_is_lines statement else_if x a f = cc

after_then : {A : Type 0} (f : Parser A) (m : List Token) {b : List Token} → past_ends m ≡ key k.Then ∷ b
    → then_at f m ≡ f b
unfolding is_key
after_then f m e = ap (after_key k.Then f) e

else_goes : (d : ℕ) (x : Context) (v : Expr) (u : Stmt) (n r : List Token) → past_ends n ≡ key k.Else ∷ r
    → begins_simple (first_kind r) ≡ true
    → short_end (blocks d) d x v u n ≡ made (λ w. s.when v (also u stop) (also w stop)) (simple_within d x r)
unfolding is_key
else_goes d x v u n r o f =
    cond-true (is_key k.Else (first_kind (past_ends n)) && begins_simple (first_kind (later (past_ends n)))) _ _
    (ap (λ l. is_key k.Else (first_kind l) && begins_simple (first_kind (later l))) o ∙ f)
    ∙ ap (λ l. made (λ w. s.when v (also u stop) (also w stop)) (simple_within d x (later l))) o

mutual
  unfolding stmt_at lines_at block_at is_key

  pub claim_stmt : {x : Context} {a c : List Token} {v : Stmt} → DerivesStmt x a v c → (d : ℕ) → stmt_depth v ≤ suc d
      → {l : List Token} → ended c ≡ Some l → LeavesElse (past_ends c) → stmt_at (blocks d) d x a ≡ Some (v, c)
  claim_stmt (g.simple {x} {a} {c} {t = v} h) d fits f e =
      stmt_is_simple (blocks d) d x a (simple_begins h) ∙ claim_simple h d fits (ended_stops c f)
  claim_stmt (g.short {x} {a} {b} {c} {m} {e = v} {t = u} h i j) d fits f e =
      step (λ e. then_at (λ r. then_by (blocks d) d x (first_kind r) e r)) (ahead h d (omega arith) (then_loose m i))
      ∙ after_then (λ r. then_by (blocks d) d x (first_kind r) v r) m i
      ∙ then_is_simple (blocks d) d x v b (simple_begins j)
      ∙ step (short_end (blocks d) d x v) (within j d (omega arith) (ended_stops c f))
      ∙ cond-false (is_key k.Else (first_kind (past_ends c)) && begins_simple (first_kind (later (past_ends c)))) _ _ e
  claim_stmt (g.short_else {x} {a} {b} {c} {d = r} {m} {n} {e = v} {t = u} {u = w} h i j o l) d fits f e =
      step (λ e. then_at (λ r. then_by (blocks d) d x (first_kind r) e r)) (ahead h d (omega arith) (then_loose m i))
      ∙ after_then (λ r. then_by (blocks d) d x (first_kind r) v r) m i
      ∙ then_is_simple (blocks d) d x v b (simple_begins j)
      ∙ step (short_end (blocks d) d x v) (within j d (omega arith) (else_stops n o))
      ∙ else_goes d x v u n r o (simple_begins l)
      ∙ make (λ w. s.when v (also u stop) (also w stop)) (within l d (omega arith) (ended_stops c f))
  claim_stmt (g.long {x} {a} {b} {c} {l} {m} {n} {e = v} {ss} {os} h i j o q) d fits f e =
      step (λ e. then_at (λ r. then_by (blocks d) d x (first_kind r) e r)) (ahead h d (omega arith) (then_loose m i))
      ∙ after_then (λ r. then_by (blocks d) d x (first_kind r) v r) m i
      ∙ then_is_long (blocks d) d x v b j
      ∙ long_goes (blocks d) d x v b j
      (block_is d lines x l ∙ claim_lines o d (omega arith) (else_begins q) (else_leaves q) (suc (length l))
      (omega arith)) (claim_else q d (omega arith))
  claim_stmt (g.repeat {x} {a} {c} {l} {m} {h = v} {ss} h i j) d fits f e =
      step (λ h r. ended_then (ended r)
      (λ l. and_then (blocks d lines (inside_repeat x) l)
      (λ ss. after_key k.End (after_key k.Repeat (λ c. Some (s.repeat h ss, c))))))
      (claim_head h d x (omega arith) i)
      ∙ ap (λ o. ended_then o (λ l. and_then (blocks d lines (inside_repeat x) l)
      (λ ss. after_key k.End (after_key k.Repeat (λ c. Some (s.repeat v ss, c)))))) i
      ∙ step (λ ss. after_key k.End (after_key k.Repeat (λ c. Some (s.repeat v ss, c))))
      (block_is d lines (inside_repeat x) l
      ∙ claim_lines j d (omega arith) refl refl (suc (length l)) (omega arith))

  pub claim_lines : {x : Context} {a c : List Token} {v : Stmts} → DerivesLines x a v c → (d : ℕ) → stmts_depth v ≤ d
      → begins_statement (first_kind c) ≡ false → LeavesElse c → (n : ℕ) → length a < n
      → lines_at (statement_of d) (else_if_of d) n x a ≡ Some (v, c)
  claim_lines (g.done {x} {c}) d fits f e zero le = absurd (omega arith)
  claim_lines (g.done {x} {c}) d fits f e (suc n) le = cond-false (begins_statement (first_kind c)) _ _ f
  claim_lines (g.line h i j) d fits f e zero le = absurd (omega arith)
  claim_lines (g.line {t = u} h i j) zero fits f e (suc n) le = absurd (omega (arith, stmt_depth_pos u))
  claim_lines (g.line {x} {a} {b} {c} {m} {t = u} {ts = us} h i j) (suc d) fits f e (suc n) le =
      cond-true (begins_statement (first_kind a)) _ _ (stmt_begins h)
      ∙ step (λ t r. ended_then (ended r)
      (λ b. made (also t) (lines_at (statement_of (suc d)) (else_if_of (suc d)) n x b)))
      (claim_stmt h d (omega arith) i (subst LeavesElse (sym (ended_past m i)) (rest_leaves j e)))
      ∙ ap (λ o. ended_then o (λ b. made (also u) (lines_at (statement_of (suc d)) (else_if_of (suc d)) n x b))) i
      ∙ make (also u) (claim_lines j (suc d) (omega arith) f e n (omega (arith, shorter_stmt h, shorter_ended m i)))

  pub claim_else : {x : Context} {a c : List Token} {v : Stmts} → DerivesElse x a v c → (d : ℕ) → stmts_depth v ≤ d
      → blocks d otherwise x a ≡ Some (v, c)
  claim_else (g.end_if {x} {c}) d fits = block_is d otherwise x (key k.End ∷ key k.If ∷ c)
  claim_else (g.else_lines {x} {a} {c} {l} {ss} f h) d fits =
      block_is d otherwise x (key k.Else ∷ a)
      ∙ else_is_lines (statement_of d) (else_if_of d) x a f
      ∙ step (λ ss. after_key k.End (after_key k.If (λ c. Some (ss, c))))
      (claim_lines h d fits refl refl (suc (length l)) (omega arith))
  claim_else (g.else_if h f i j q) zero fits = absurd (omega arith)
  claim_else (g.else_if {x} {a} {b} {c} {l} {m} {n} {e = v} {ss} {os} h f i j q) (suc d) fits =
      block_is (suc d) otherwise x (key k.Else ∷ key k.If ∷ a)
      ∙ make (λ t. also t stop) (step (λ e. then_at (long_at (blocks d) d x e))
      (ahead h d (omega arith) (then_loose m f))
      ∙ after_then (long_at (blocks d) d x v) m f
      ∙ long_goes (blocks d) d x v b i
      (block_is d lines x l ∙ claim_lines j d (omega arith) (else_begins q) (else_leaves q) (suc (length l))
      (omega arith)) (claim_else q d (omega arith)))

-- Lines that are in the grammar, and not deeper than this, are read.
pub lines_complete : (d : ℕ) {x : Context} {a c : List Token} {v : Stmts} → DerivesLines x a v c → stmts_depth v ≤ d
    → begins_statement (first_kind c) ≡ false → LeavesElse c → blocks d lines x a ≡ Some (v, c)
unfolding block_at is_key
lines_complete d {x} {a} h fits f e = block_is d lines x a ∙ claim_lines h d fits f e (suc (length a)) (omega arith)

-- Reading statements, as a function on lists of tokens. The laws tie it to the rules.
use Rattle.std.specs.Prelude.{ℕ, zero, suc, List, [], ◌∷◌, length, Bool, true, false, Option, Some, None, is_some}
use Rattle.std.specs.Prelude.{if◌then◌else◌, ◌&&◌, codes}
use Rattle.ht_lex.specs.declared.key.Key.{Key}
use Rattle.ht_lex.specs.declared.key.Key.TheVariants as k
use Rattle.ht_lex.specs.declared.key.TokenKind.{TokenKind}
use Rattle.ht_lex.specs.declared.key.TokenKind.TheVariants as kind
use Rattle.ht_lex.specs.Token.{Token, first_kind, first_text, later, is_key}
use Rattle.ht_values.specs.declared.word.Prop.{Prop}
use Rattle.ht_grammar.specs.declared.vocabulary.RunProp.{RunProp}
use Rattle.ht_grammar.specs.declared.vocabulary.Layer.{Layer}
use Rattle.ht_grammar.specs.declared.vocabulary.Layer.TheVariants as layer
use Rattle.ht_values.specs.declared.word.Where.{Where}
use Rattle.ht_grammar.specs.Trees.{Expr, Container, none}
use Rattle.ht_grammar.specs.Trees as t
use Rattle.ht_grammar.specs.Statements.{Destination, Head, Stmt, Stmts, stop, also}
use Rattle.ht_grammar.specs.Statements as s
use Rattle.ht_grammar.specs.Depth.{destination_depth, stmts_depth, max_depth}
use Rattle.ht_grammar.specs.Fronts.{after_of, past_the, same_name, prop_front, run_prop}
use Rattle.ht_grammar.specs.Ends.{past_ends, ended, past_for, past_to, past_times}
use Rattle.ht_grammar.specs.Expressions.{whole}
use Rattle.ht_grammar.specs.Reading.{Outcome, Parser, and_then, made, all_of, not_too_deep, read, list_at, chunk_at}
use Rattle.ht_grammar.specs.Reading.{field_at, inner_ref, referenced_layer, selector_at, fitting}
use Rattle.ht_grammar.specs.Reading as reading
use Rattle.ht_grammar.specs.Grammar.{Context, at_large, inside_repeat, names_handler, place_of}

-- after this key
abbrev pub after_key : {A : Type 0} → Key → Parser A → Parser A
after_key h f ts = if is_key h (first_kind ts) then f (later ts) else None

-- Words that a statement on one line begins with.
abbrev pub begins_simple : Option TokenKind → Bool
begins_simple (Some kind.Name) = true
begins_simple (Some (kind.Key k.Put)) = true
begins_simple (Some (kind.Key k.Get)) = true
begins_simple (Some (kind.Key k.Set)) = true
begins_simple (Some (kind.Key k.Add)) = true
begins_simple (Some (kind.Key k.Subtract)) = true
begins_simple (Some (kind.Key k.Multiply)) = true
begins_simple (Some (kind.Key k.Divide)) = true
begins_simple (Some (kind.Key k.Delete)) = true
begins_simple (Some (kind.Key k.Do)) = true
begins_simple (Some (kind.Key k.Send)) = true
begins_simple (Some (kind.Key k.Go)) = true
begins_simple (Some (kind.Key k.Global)) = true
begins_simple (Some (kind.Key k.Exit)) = true
begins_simple (Some (kind.Key k.Next)) = true
begins_simple (Some (kind.Key k.Pass)) = true
begins_simple (Some (kind.Key k.Return)) = true
begins_simple _ = false

abbrev pub begins_statement : Option TokenKind → Bool
begins_statement (Some (kind.Key k.If)) = true
begins_statement (Some (kind.Key k.Repeat)) = true
begins_statement first = begins_simple first

-- Words that an expression begins with.
abbrev pub begins_expr : Option TokenKind → Bool
begins_expr (Some kind.Name) = true
begins_expr (Some kind.Number) = true
begins_expr (Some kind.Quoted) = true
begins_expr (Some (kind.Key k.LeftParen)) = true
begins_expr (Some (kind.Key k.Minus)) = true
begins_expr (Some (kind.Key k.Not)) = true
begins_expr (Some (kind.Key k.There)) = true
begins_expr (Some (kind.Key k.The)) = true
begins_expr (Some (kind.Key k.Number)) = true
begins_expr (Some (kind.Key k.Return)) = true
begins_expr (Some (kind.Key k.Card)) = true
begins_expr (Some (kind.Key k.Background)) = true
begins_expr (Some (kind.Key (k.Piece p))) = true
begins_expr (Some (kind.Key (k.Part p))) = true
begins_expr (Some (kind.Key (k.Ordinal n))) = true
begins_expr (Some (kind.Key (k.Constant n))) = true
begins_expr _ = false

-- a chunk of a container
abbrev pub chunk_container : (Parser Container) → ℕ → Parser Container
chunk_container again d ts =
    and_then (chunk_at (read d) d ts) (λ h r. made (t.in_chunk h) (reading.of_part (read d) d again (after_of r)))

abbrev pub ordinal_container : (Parser Container) → ℕ → Option TokenKind → Parser Container
ordinal_container again d (Some (kind.Key (k.Piece p))) ts = chunk_container again d ts
ordinal_container again d _ ts = made t.in_field (field_at (read d) d ts)

-- A container with at most so many levels.
abbrev pub container_by : (Parser Container) → ℕ → Option TokenKind → Parser Container
container_by again d (Some kind.Name) ts = Some (t.variable (first_text ts), later ts)
container_by again d (Some (kind.Key (k.Part p))) ts = made t.in_field (field_at (read d) d ts)
container_by again d (Some (kind.Key k.Card)) ts = made t.in_field (field_at (read d) d ts)
container_by again d (Some (kind.Key k.Background)) ts = made t.in_field (field_at (read d) d ts)
container_by again d (Some (kind.Key (k.Ordinal n))) ts = ordinal_container again d (first_kind (later ts)) ts
container_by again d _ ts = chunk_container again d ts

unfoldable pub container : ℕ → Parser Container
container zero ts = None
container (suc d) ts = container_by (container d) d (first_kind ts) ts

abbrev pub names_more : Parser (List (List ℕ)) → Option TokenKind → Parser (List (List ℕ))
names_more again (Some (kind.Key k.CommaSign)) ts = again (later ts)
names_more again _ ts = Some ([], ts)

abbrev pub names_by : Parser (List (List ℕ)) → Option TokenKind → Parser (List (List ℕ))
names_by again (Some kind.Name) ts =
    made (λ ws. first_text ts ∷ ws) (names_more again (first_kind (later ts)) (later ts))
names_by again _ ts = None

-- One name or more. The number bounds the turns.
unfoldable pub names_at : ℕ → Parser (List (List ℕ))
names_at zero ts = None
names_at (suc n) ts = names_by (names_at n) (first_kind ts) ts

-- only a chunk is deleted
abbrev pub deleted : Container → Parser Stmt
deleted (t.in_chunk h c) ts = Some (s.delete h c, ts)
deleted (t.variable w) ts = None
deleted (t.in_field p) ts = None

abbrev pub run_prop_by : Option TokenKind → List ℕ → Option RunProp
run_prop_by (Some kind.Name) w = run_prop w
run_prop_by _ w = None

-- The property of the run that the first token names.
abbrev pub run_prop_front : List Token → Option RunProp
run_prop_front ts = run_prop_by (first_kind ts) (first_text ts)

module _ (d : ℕ) (x : Context) where
  abbrev pub deeper : Parser Expr
  deeper = read d whole

  abbrev pub put_by : Option Where → Expr → Parser Stmt
  put_by None e ts = Some (s.put e, ts)
  put_by (Some w) e ts = made (s.put_in w e) (container d (later ts))

  abbrev pub place_front : Option TokenKind → Option Where
  place_front (Some (kind.Key h)) = place_of h
  place_front _ = None

  abbrev pub set_run_by : Option RunProp → Parser Stmt
  set_run_by (Some p) ts = after_key k.To (λ m. made (s.set_run p) (deeper m)) (later ts)
  set_run_by None ts = None

  abbrev pub set_by : Option Prop → Parser Stmt
  set_by (Some p) ts = and_then (reading.of_part (read d) d (inner_ref (read d) d) (after_of (later ts)))
      (λ r. after_key k.To (λ m. made (s.set p r) (deeper m)))
  set_by None ts = set_run_by (run_prop_front ts) ts

  abbrev pub bare_destination : Option TokenKind → Parser Destination
  bare_destination (Some (kind.Key k.This)) ts = Some (s.to_card t.this, later ts)
  bare_destination (Some (kind.Key k.Next)) ts = Some (s.to_card t.next, later ts)
  bare_destination (Some (kind.Key k.Previous)) ts = Some (s.to_card t.previous, later ts)
  bare_destination (Some (kind.Key (k.Ordinal n))) ts = Some (s.to_card (t.nth n), later ts)
  bare_destination _ ts = None

  abbrev pub destination_by : Option Layer → Parser Destination
  destination_by (Some layer.Card) ts = made s.to_card (selector_at (read d) d ts)
  destination_by (Some layer.Background) ts = made s.to_background (selector_at (read d) d ts)
  destination_by None ts = bare_destination (first_kind ts) ts

  unfoldable pub destination_at : Parser Destination
  destination_at ts = fitting (read d) d destination_depth (destination_by (referenced_layer ts) ts)

  abbrev pub hypercard_by : Option TokenKind → Parser Stmt
  hypercard_by (Some kind.Name) ts =
      if same_name (first_text ts) (codes "HyperCard") then Some (s.exit_to_hypercard, later ts) else None
  hypercard_by _ ts = None

  abbrev pub exit_by : Option TokenKind → Parser Stmt
  exit_by (Some (kind.Key k.Repeat)) ts = if x.in_repeat then Some (s.exit_repeat, later ts) else None
  exit_by (Some (kind.Key k.To)) ts = hypercard_by (first_kind (later ts)) (later ts)
  exit_by (Some kind.Name) ts =
      if names_handler x.handler (first_text ts) then Some (s.exit (first_text ts), later ts) else None
  exit_by _ ts = None

  abbrev pub pass_by : Option TokenKind → Parser Stmt
  pass_by (Some kind.Name) ts =
      if names_handler x.handler (first_text ts) then Some (s.pass (first_text ts), later ts) else None
  pass_by _ ts = None

  abbrev pub simple_by : Option TokenKind → Parser Stmt
  simple_by (Some kind.Name) ts = if begins_expr (first_kind (later ts)) then made (s.command (first_text ts))
      (list_at (read d) d (length ts) none (later ts)) else Some (s.command (first_text ts) none, later ts)
  simple_by (Some (kind.Key k.Put)) ts = and_then (deeper (later ts)) (λ e r. put_by (place_front (first_kind r)) e r)
  simple_by (Some (kind.Key k.Get)) ts = made s.get (deeper (later ts))
  simple_by (Some (kind.Key k.Set)) ts = set_by (prop_front (past_the (later ts))) (past_the (later ts))
  simple_by (Some (kind.Key k.Add)) ts =
      and_then (deeper (later ts)) (λ e. after_key k.To (λ m. made (s.add e) (container d m)))
  simple_by (Some (kind.Key k.Subtract)) ts =
      and_then (deeper (later ts)) (λ e. after_key k.From (λ m. made (s.subtract e) (container d m)))
  simple_by (Some (kind.Key k.Multiply)) ts =
      and_then (container d (later ts)) (λ c. after_key k.By (λ m. made (s.multiply c) (deeper m)))
  simple_by (Some (kind.Key k.Divide)) ts =
      and_then (container d (later ts)) (λ c. after_key k.By (λ m. made (s.divide c) (deeper m)))
  simple_by (Some (kind.Key k.Delete)) ts = and_then (container d (later ts)) deleted
  simple_by (Some (kind.Key k.Do)) ts = made s.do_ (deeper (later ts))
  simple_by (Some (kind.Key k.Send)) ts =
      and_then (deeper (later ts)) (λ e. after_key k.To (λ m. made (s.send e) (inner_ref (read d) d m)))
  simple_by (Some (kind.Key k.Go)) ts = made s.go (destination_at (past_to (later ts)))
  simple_by (Some (kind.Key k.Global)) ts = made s.global (names_at (length ts) (later ts))
  simple_by (Some (kind.Key k.Exit)) ts = exit_by (first_kind (later ts)) (later ts)
  simple_by (Some (kind.Key k.Next)) ts =
      after_key k.Repeat (λ r. if x.in_repeat then Some (s.next_repeat, r) else None) (later ts)
  simple_by (Some (kind.Key k.Pass)) ts = pass_by (first_kind (later ts)) (later ts)
  simple_by (Some (kind.Key k.Return)) ts =
      if is_some x.handler then (if begins_expr (first_kind (later ts)) then made s.return_value (deeper (later ts))
      else Some (s.return_nothing, later ts)) else None
  simple_by _ ts = None

  -- a statement that needs no end, with at most d + 1 levels
  unfoldable pub simple_at : Parser Stmt
  simple_at ts = simple_by (first_kind ts) ts

  abbrev pub bound_by : List ℕ → Expr → Option TokenKind → Parser Head
  bound_by w e (Some (kind.Key k.To)) ts = made (s.counted_up w e) (deeper (later ts))
  bound_by w e (Some kind.Name) ts = if same_name (first_text ts) (codes "down") then after_key k.To
      (λ m. made (s.counted_down w e) (deeper m)) (later ts) else None
  bound_by w e _ ts = None

  abbrev pub with_by : Option TokenKind → Parser Head
  with_by (Some kind.Name) ts =
      after_key k.Equal (λ m. and_then (deeper m) (λ e r. bound_by (first_text ts) e (first_kind r) r)) (later ts)
  with_by _ ts = None

  abbrev pub times_at : Parser Head
  times_at ts = and_then (deeper ts) (λ e r. Some (s.times e, past_times r))

  abbrev pub head_by : Option TokenKind → Parser Head
  head_by None ts = Some (s.forever, ts)
  head_by (Some kind.Eol) ts = Some (s.forever, ts)
  head_by (Some (kind.Key k.Forever)) ts = Some (s.forever, later ts)
  head_by (Some (kind.Key k.While)) ts = made s.while (deeper (later ts))
  head_by (Some (kind.Key k.Until)) ts = made s.until (deeper (later ts))
  head_by (Some (kind.Key k.With)) ts = with_by (first_kind (later ts)) (later ts)
  head_by _ ts = times_at (past_for ts)

  unfoldable pub head_at : Parser Head
  head_at ts = head_by (first_kind ts) ts

-- A statement that needs no end, with at most so many levels.
abbrev pub simple_within : ℕ → Context → Parser Stmt
simple_within zero x ts = None
simple_within (suc d) x ts = simple_at d x ts

-- lines, or what comes after the lines of a `then`, up to `end if`
pub data Block : Type 0 where
  lines : Block
  otherwise : Block

abbrev pub ended_then : {A : Type 0} → Option (List Token) → Parser A → Outcome A
ended_then None f = None
ended_then (Some ts) f = f ts

-- after the condition: `then`, on this line or a later one
abbrev pub then_at : {A : Type 0} → Parser A → Parser A
then_at f ts = after_key k.Then f (past_ends ts)

-- with the trees of blocks of at most d levels
module _ (blocks : Block → Context → Parser Stmts) (d : ℕ) (x : Context) where
  abbrev pub long_at : Expr → Parser Stmt
  long_at e ts =
      ended_then (ended ts) (λ l. and_then (blocks lines x l) (λ ss r. made (s.when e ss) (blocks otherwise x r)))

  -- An `else` belongs here where a statement stands on its line.
  abbrev pub short_end : Expr → Stmt → Parser Stmt
  short_end e u ts =
      if is_key k.Else (first_kind (past_ends ts)) && begins_simple (first_kind (later (past_ends ts)))
      then made (λ v. s.when e (also u stop) (also v stop)) (simple_within d x (later (past_ends ts)))
      else Some (s.when e (also u stop) stop, ts)

  abbrev pub then_by : Option TokenKind → Expr → Parser Stmt
  then_by None e ts = long_at e ts
  then_by (Some kind.Eol) e ts = long_at e ts
  then_by _ e ts = and_then (simple_within d x ts) (short_end e)

  -- after `else if`
  abbrev pub else_if_at : Parser Stmt
  else_if_at ts = and_then (read d whole ts) (λ e. then_at (long_at e))

  abbrev pub stmt_by : Option TokenKind → Parser Stmt
  stmt_by (Some (kind.Key k.If)) ts =
      and_then (read d whole (later ts)) (λ e. then_at (λ r. then_by (first_kind r) e r))
  stmt_by (Some (kind.Key k.Repeat)) ts = and_then (head_at d x (later ts))
      (λ h r. ended_then (ended r) (λ l. and_then (blocks lines (inside_repeat x) l)
      (λ ss. after_key k.End (after_key k.Repeat (λ c. Some (s.repeat h ss, c))))))
  stmt_by _ ts = simple_at d x ts

  unfoldable pub stmt_at : Parser Stmt
  stmt_at ts = stmt_by (first_kind ts) ts

module _ (statement : Context → Parser Stmt) (else_if : Context → Parser Stmt) where
  -- The number bounds the turns.
  unfoldable pub lines_at : ℕ → Context → Parser Stmts
  lines_at zero x ts = None
  lines_at (suc n) x ts = if begins_statement (first_kind ts) then and_then (statement x ts)
      (λ t r. ended_then (ended r) (λ b. made (also t) (lines_at n x b))) else Some (stop, ts)

  abbrev pub else_by : Option TokenKind → Context → Parser Stmts
  else_by (Some (kind.Key k.If)) x ts = made (λ t. also t stop) (else_if x (later ts))
  else_by _ x ts = ended_then (ended ts)
      (λ l. and_then (lines_at (suc (length l)) x l) (λ ss. after_key k.End (after_key k.If (λ c. Some (ss, c)))))

  abbrev pub otherwise_by : Option TokenKind → Context → Parser Stmts
  otherwise_by (Some (kind.Key k.End)) x ts = after_key k.If (λ c. Some (stop, c)) (later ts)
  otherwise_by (Some (kind.Key k.Else)) x ts = else_by (first_kind (later ts)) x (later ts)
  otherwise_by _ x ts = None

  unfoldable pub block_at : Block → Context → Parser Stmts
  block_at lines x ts = lines_at (suc (length ts)) x ts
  block_at otherwise x ts = otherwise_by (first_kind ts) x ts

-- blocks whose statements have at most so many levels
unfoldable pub blocks : ℕ → Block → Context → Parser Stmts
blocks zero b x ts = block_at (λ x ts. None) (λ x ts. None) b x ts
blocks (suc d) b x ts = block_at (λ x. stmt_at (blocks d) d x) (λ x. else_if_at (blocks d) d x) b x ts

-- the lines that the tokens are, all of them
abbrev pub typed_lines : List Token → Option Stmts
typed_lines ts = not_too_deep stmts_depth (all_of (blocks max_depth lines at_large (past_ends ts)))

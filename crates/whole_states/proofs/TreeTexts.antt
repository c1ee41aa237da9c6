-- The trees that a text is read as have texts alone.
use Rattle.std.specs.List.{AllByRecursion}
use Rattle.std.proofs.Common.{◌≡◌, ◌-◌, ◌<◌, ℕ, List, [], ◌∷◌, map, take, drop, Bool, true, false, cond, codes, Option}
use Rattle.std.proofs.Common.{Some, None, ap, subst, arith, length-take, length-drop}
use Rattle.std.proofs.lemmas.List.Elements.{All-take, All-drop}
use Rattle.ht_values.specs.Text.{IsText}
use Rattle.ht_values.specs.declared.operator.Op.{Op}
use Rattle.ht_values.specs.declared.operator.Op.TheVariants as o
use Rattle.ht_values.specs.declared.operator.UnOp.{UnOp}
use Rattle.ht_values.specs.declared.operator.UnOp.TheVariants as un
use Rattle.ht_values.specs.declared.operator.ValueType.{ValueType}
use Rattle.ht_lex.specs.declared.key.Key.{Key}
use Rattle.ht_lex.specs.declared.key.Key.TheVariants as k
use Rattle.ht_lex.specs.declared.key.TokenKind.{TokenKind}
use Rattle.ht_lex.specs.declared.key.TokenKind.TheVariants as kind
use Rattle.ht_lex.specs.declared.tokens.Span.{Span}
use Rattle.ht_lex.specs.Token.{Token, key, eol, later, token_by, token_in}
use Rattle.ht_lex.specs.Token as token
use Rattle.ht_grammar.specs.declared.vocabulary.Layer.{Layer}
use Rattle.ht_grammar.specs.Fronts.{infix_at, test_at, leading_operator, operator_after_is, operator_after_is_not}
use Rattle.ht_grammar.specs.Fronts.{operator_rest, asked_type, test_or, after_of, past_the, same_name}
use Rattle.ht_grammar.specs.Ends.{past_ends, ended, past_for, past_to, past_times}
use Rattle.ht_grammar.specs.Expressions.{Level, Derives, DerivesList, DerivesLayer, DerivesArticle, DerivesChunk}
use Rattle.ht_grammar.specs.Expressions.{DerivesCount, DerivesRef, DerivesSelector, DerivesWhich, DerivesPart}
use Rattle.ht_grammar.specs.Expressions.{DerivesOwner, DerivesContainer}
use Rattle.ht_grammar.specs.Expressions as e
use Rattle.ht_grammar.specs.Grammar.{Context, DerivesNames, DerivesDestination, DerivesSimple, DerivesHead}
use Rattle.ht_grammar.specs.Grammar.{DerivesStmt, DerivesLines, DerivesElse, DerivesParams, DerivesHandler}
use Rattle.ht_grammar.specs.Grammar.{DerivesHandlers, DerivesMessage}
use Rattle.ht_grammar.specs.Grammar as g
use Rattle.ht_grammar.specs.Reads.{ReadsType}
use Rattle.ht_grammar.specs.Statements as stm
use Rattle.ht_grammar.specs.Trees as tree
use Rattle.whole_states.specs.Texts.{TokenTexts, TokensTexts, ExprTexts, ExprsTexts, ChunkTexts, WhichTexts}
use Rattle.whole_states.specs.Texts.{SelectorTexts, OwnerTexts, PartTexts, RefTexts, CountTexts, ContainerTexts}
use Rattle.whole_states.specs.Texts.{DestinationTexts, HeadTexts, StmtTexts, StmtsTexts, HandlerTexts, HandlersTexts}
use Rattle.whole_states.specs.Texts.{MessageTexts, ExpressionsHaveTexts, TypedLinesHaveTexts, SentMessagesHaveTexts}
use Rattle.whole_states.specs.Texts.{ScriptsHaveTexts, ClickedPartsHaveTexts, TypedTexts, TypedTextsHaveTexts}

-- ---- tokens

-- a slice of a text
pub sliced : (t : List ℕ) (from size : ℕ) → IsText t → IsText (take size (drop from t))
sliced t from size h =
    let short = h.short in
    record {
      short = omega (arith, short, length-take size (drop from t), length-drop from t);
      bytes = All-take (λ b. b < 256) size (drop from t) (All-drop (λ b. b < 256) from t h.bytes);
    }

pub dropped : (t : List ℕ) (from : ℕ) → IsText t → IsText (drop from t)
dropped t from h = let short = h.short in
    record { short = omega (arith, short, length-drop from t); bytes = All-drop (λ b. b < 256) from t h.bytes }

token_is : (kind : TokenKind) (t : List ℕ) (size : ℕ) → IsText t → TokenTexts (token_by kind t size)
token_is kind.Name t size h = sliced t 0 size h
token_is kind.Number t size h = sliced t 0 size h
token_is kind.Quoted t size h = sliced t 1 (size - 2) h
token_is (kind.Key k) t size h = tt
token_is kind.Eol t size h = tt

tokens_are : (t : List ℕ) (spans : List Span) → IsText t → TokensTexts (map (token_in t) spans)
tokens_are t [] h = tt
tokens_are t (s ∷ ss) h = (token_is s.kind (drop s.start t) (s.stop - s.start) (dropped t s.start h), tokens_are t ss h)

-- ---- tokens behind others

texts_later : (ts : List Token) → TokensTexts ts → TokensTexts (later ts)
texts_later [] h = h
texts_later (t ∷ ts) h = h.1

texts_the : (ts : List Token) → TokensTexts ts → TokensTexts (past_the ts)
texts_the [] h = h
texts_the (key k.The ∷ ts) h = h.1
texts_the (t ∷ ts) h = h

texts_of : (m : List Token) {b : List Token} → after_of m ≡ Some b → TokensTexts m → TokensTexts b
texts_of (key k.Of ∷ ts) {b} e h = let same : ts ≡ b = cc in subst TokensTexts same h.1
texts_of (key k.In ∷ ts) {b} e h = let same : ts ≡ b = cc in subst TokensTexts same h.1
texts_of _ e h = cc

typed_rest : (ts : List Token) (test : ValueType → UnOp) (op : Op) (asked : Option ValueType) → TokensTexts ts
    → TokensTexts (operator_rest (test_or test op ts asked))
typed_rest ts test op None h = h
typed_rest ts test op (Some v) h = texts_later (later ts) (texts_later ts h)

is_not_rest : (ts : List Token) → TokensTexts ts → TokensTexts (operator_rest (operator_after_is_not ts))
unfolding operator_after_is_not
is_not_rest [] h = typed_rest [] un.IsNotA o.NotEqual (asked_type []) h
is_not_rest (key k.In ∷ ts) h = h.1
is_not_rest (t ∷ ts) h = typed_rest (t ∷ ts) un.IsNotA o.NotEqual (asked_type (t ∷ ts)) h

is_rest : (ts : List Token) → TokensTexts ts → TokensTexts (operator_rest (operator_after_is ts))
unfolding operator_after_is
is_rest [] h = typed_rest [] un.IsA o.Equal (asked_type []) h
is_rest (key k.In ∷ ts) h = h.1
is_rest (key k.Not ∷ ts) h = is_not_rest ts h.1
is_rest (t ∷ ts) h = typed_rest (t ∷ ts) un.IsA o.Equal (asked_type (t ∷ ts)) h

rest_is : (m : List Token) → TokensTexts m → TokensTexts (operator_rest (leading_operator m))
unfolding leading_operator
rest_is [] h = tt
rest_is (key k.Is ∷ ts) h = is_rest ts h.1
rest_is (key k.Or ∷ ts) h = h.1
rest_is (key k.And ∷ ts) h = h.1
rest_is (key k.Equal ∷ ts) h = h.1
rest_is (key k.NotEqual ∷ ts) h = h.1
rest_is (key k.Less ∷ ts) h = h.1
rest_is (key k.Greater ∷ ts) h = h.1
rest_is (key k.LessEqual ∷ ts) h = h.1
rest_is (key k.GreaterEqual ∷ ts) h = h.1
rest_is (key k.Contains ∷ ts) h = h.1
rest_is (key k.Ampersand ∷ ts) h = h.1
rest_is (key k.DoubleAmpersand ∷ ts) h = h.1
rest_is (key k.Plus ∷ ts) h = h.1
rest_is (key k.Minus ∷ ts) h = h.1
rest_is (key k.Star ∷ ts) h = h.1
rest_is (key k.Slash ∷ ts) h = h.1
rest_is (key k.Div ∷ ts) h = h.1
rest_is (key k.Mod ∷ ts) h = h.1
rest_is (t ∷ ts) h = tt

texts_infix : (m : List Token) {r : ℕ} {op : Op} {b : List Token} → leading_operator m ≡ infix_at r op b → TokensTexts m
    → TokensTexts b
texts_infix m is h = subst TokensTexts (ap operator_rest is) (rest_is m h)

texts_test : (m : List Token) {op : UnOp} {c : List Token} → leading_operator m ≡ test_at op c → TokensTexts m
    → TokensTexts c
texts_test m is h = subst TokensTexts (ap operator_rest is) (rest_is m h)

texts_ends : (ts : List Token) → TokensTexts ts → TokensTexts (past_ends ts)
texts_ends [] h = h
texts_ends (eol ∷ ts) h = texts_ends ts h.1
texts_ends (t ∷ ts) h = h

texts_ended : (m : List Token) {b : List Token} → ended m ≡ Some b → TokensTexts m → TokensTexts b
unfolding ended
texts_ended [] {b} e h = let same : [] ≡ b = cc in subst TokensTexts same h
texts_ended (eol ∷ ts) {b} e h = let same : past_ends ts ≡ b = cc in subst TokensTexts same (texts_ends ts h.1)
texts_ended m e h = cc

texts_for : (ts : List Token) → TokensTexts ts → TokensTexts (past_for ts)
texts_for [] h = h
texts_for (key k.For ∷ ts) h = h.1
texts_for (t ∷ ts) h = h

texts_to : (ts : List Token) → TokensTexts ts → TokensTexts (past_to ts)
texts_to [] h = h
texts_to (key k.To ∷ ts) h = h.1
texts_to (t ∷ ts) h = h

texts_times : (ts : List Token) → TokensTexts ts → TokensTexts (past_times ts)
unfolding past_times
texts_times (token.name w ∷ ts) h = by (same_name w (codes "times"))
  where
    by : (b : Bool) → TokensTexts (cond b ts (token.name w ∷ ts))
    by true = h.1
    by false = h
texts_times [] h = h
texts_times (t ∷ ts) h = h

-- ---- the rules of the grammar

-- a part and the one after it, which is read from what the first leaves
both : {A B M C : Type 0} → A × M → (M → B × C) → (A × B) × C
both p next = let q = next p.1 in ((p.0, q.0), q.1)

pub texts_layer : {a c : List Token} {x : Option Layer} → DerivesLayer a x c → TokensTexts a → TokensTexts c
texts_layer e.no_layer h = h
texts_layer e.on_card h = h.1
texts_layer e.on_background h = h.1

pub texts_article : {a c : List Token} {x : Bool} → DerivesArticle a x c → TokensTexts a → TokensTexts c
texts_article (e.an _) h = h.1
texts_article (e.no_ _) h = h.1
texts_article (e.not_an _) h = h.1.1

mutual
  pub texts_expr : {k : Level} {a c : List Token} {x : tree.Expr} → Derives k a x c → TokensTexts a
      → ExprTexts x × TokensTexts c
  texts_expr (e.join {m = m} p1 p2 p3) h = both (texts_expr p1 h) (λ r. texts_expr p3 (texts_infix m p2 r))
  texts_expr (e.is_a {m = m} p1 p2) h = ((texts_expr p1 h).0, (texts_test m p2 (texts_expr p1 h).1))
  texts_expr (e.tighter p1) h = texts_expr p1 h
  texts_expr (e.tightest p1) h = texts_expr p1 h
  texts_expr (e.raised p1 p2) h = both (texts_expr p1 h) (λ r. texts_expr p2 r.1)
  texts_expr (e.not_raised p1) h = texts_expr p1 h
  texts_expr (e.minus p1) h = texts_expr p1 h.1
  texts_expr (e.not_ p1) h = texts_expr p1 h.1
  texts_expr (e.there_is p1 p2) h = texts_ref p2 (texts_article p1 h.1.1)
  texts_expr (e.no_prefix p1) h = texts_expr p1 h
  texts_expr (e.no_form p1) h = texts_expr p1 h
  texts_expr (e.chunk {m = m} p1 p2 p3) h = both (texts_chunk p1 h) (λ r. texts_expr p3 (texts_of m p2 r))
  texts_expr (e.field p1 _) h = texts_part p1 h
  texts_expr (e.result _) h = (tt, h.1.1)
  texts_expr (e.target _) h = (tt, h.1.1)
  texts_expr (e.number_of {a = a} {m = m} p1 p2 p3) h =
      texts_count p3 (texts_of m p2 (subst TokensTexts p1 (texts_the a h)).1)
  texts_expr (e.property {m = m} _ p2 p3) h = texts_ref p3 (texts_of (later m) p2 (texts_later m h.1))
  texts_expr (e.short_property {m = m} _ _ _ p4 p5) h = texts_ref p5 (texts_of (later m) p4 (texts_later m h.1.1))
  texts_expr (e.run_property _) h = (tt, h.1.1)
  texts_expr (e.function {m = m} _ p2 p3) h = texts_expr p3 (texts_of m p2 h.1.1)
  texts_expr e.number h = h
  texts_expr e.quoted h = h
  texts_expr (e.paren p1) h = let p = texts_expr p1 h.1 in (p.0, p.1.1)
  texts_expr e.constant h = (tt, h.1)
  texts_expr e.return_ h = (tt, h.1)
  texts_expr (e.call p1) h = ((h.0, (texts_list p1 h.1.1).0), (texts_list p1 h.1.1).1.1)
  texts_expr e.call_bare h = ((h.0, tt), h.1.1.1)
  texts_expr e.name h = h

  pub texts_list : {a c : List Token} {x : tree.Exprs} → DerivesList a x c → TokensTexts a
      → ExprsTexts x × TokensTexts c
  texts_list (e.alone p1) h = (((texts_expr p1 h).0, tt), (texts_expr p1 h).1)
  texts_list (e.followed p1 p2) h = both (texts_expr p1 h) (λ r. texts_list p2 r.1)

  pub texts_chunk : {a c : List Token} {x : tree.Chunk} → DerivesChunk a x c → TokensTexts a
      → ChunkTexts x × TokensTexts c
  texts_chunk (e.piece p1) h = texts_expr p1 h.1
  texts_chunk (e.pieces p1 p2) h = both (texts_expr p1 h.1) (λ r. texts_expr p2 r.1)
  texts_chunk (e.nth_piece {a = a} p1) h = (tt, (subst TokensTexts p1 (texts_the a h)).1.1)

  pub texts_count : {a c : List Token} {x : tree.Count} → DerivesCount a x c → TokensTexts a
      → CountTexts x × TokensTexts c
  texts_count (e.pieces_of {m = m} p1 p2) h = texts_expr p2 (texts_of m p1 h.1)
  texts_count e.cards h = (tt, h.1)
  texts_count e.backgrounds h = (tt, h.1)
  texts_count (e.parts p1) h = (tt, (texts_layer p1 h).1)
  texts_count (e.of_object p1) h = texts_ref p1 h

  pub texts_ref : {a c : List Token} {x : tree.Ref} → DerivesRef a x c → TokensTexts a → RefTexts x × TokensTexts c
  texts_ref e.me h = (tt, h.1)
  texts_ref (e.the_target _) h = (tt, h.1.1)
  texts_ref e.this_stack h = (tt, h.1.1)
  texts_ref (e.card p1) h = texts_selector p1 h
  texts_ref (e.background p1) h = texts_selector p1 h
  texts_ref (e.a_part p1) h = texts_part p1 h

  pub texts_selector : {k : Key} {a c : List Token} {x : tree.Selector} → DerivesSelector k a x c → TokensTexts a
      → SelectorTexts x × TokensTexts c
  texts_selector e.this h = (tt, h.1.1)
  texts_selector e.next h = (tt, h.1.1)
  texts_selector e.previous h = (tt, h.1.1)
  texts_selector e.nth h = (tt, h.1.1)
  texts_selector (e.which p1) h = texts_which p1 h.1

  pub texts_which : {a c : List Token} {x : tree.Which} → DerivesWhich a x c → TokensTexts a
      → WhichTexts x × TokensTexts c
  texts_which (e.by_id p1) h = texts_expr p1 h.1
  texts_which (e.by_text p1) h = texts_expr p1 h

  pub texts_part : {a c : List Token} {x : tree.Part} → DerivesPart a x c → TokensTexts a → PartTexts x × TokensTexts c
  texts_part (e.part p1 p2 p3) h = both (texts_which p2 (texts_layer p1 h).1) (λ r. texts_owner p3 r)
  texts_part (e.nth_part p1 p2) h = texts_owner p2 (texts_layer p1 h.1).1

  pub texts_owner : {a c : List Token} {x : tree.Owner} → DerivesOwner a x c → TokensTexts a
      → OwnerTexts x × TokensTexts c
  texts_owner e.no_owner h = (tt, h)
  texts_owner (e.of_card {m = m} p1 p2) h = texts_selector p2 (texts_of m p1 h)
  texts_owner (e.of_background {m = m} p1 p2) h = texts_selector p2 (texts_of m p1 h)

pub texts_container : {a c : List Token} {x : tree.Container} → DerivesContainer a x c → TokensTexts a
    → ContainerTexts x × TokensTexts c
texts_container e.variable h = h
texts_container (e.in_field p1 _) h = texts_part p1 h
texts_container (e.in_chunk {m = m} p1 p2 p3) h = both (texts_chunk p1 h) (λ r. texts_container p3 (texts_of m p2 r))

pub texts_names : {a c : List Token} {x : List (List ℕ)} → DerivesNames a x c → TokensTexts a
    → AllByRecursion IsText x × TokensTexts c
texts_names g.one_name h = ((h.0, tt), h.1)
texts_names (g.more_names p1) h = ((h.0, (texts_names p1 h.1.1).0), (texts_names p1 h.1.1).1)

pub texts_destination : {a c : List Token} {x : stm.Destination} → DerivesDestination a x c → TokensTexts a
    → DestinationTexts x × TokensTexts c
texts_destination (g.destination_card p1) h = texts_selector p1 h
texts_destination (g.destination_background p1) h = texts_selector p1 h
texts_destination g.this_alone h = (tt, h.1)
texts_destination g.next_alone h = (tt, h.1)
texts_destination g.previous_alone h = (tt, h.1)
texts_destination g.nth_alone h = (tt, h.1)

pub texts_simple : {k : Context} {a c : List Token} {x : stm.Stmt} → DerivesSimple k a x c → TokensTexts a
    → StmtTexts x × TokensTexts c
texts_simple (g.put p1) h = texts_expr p1 h.1
texts_simple (g.put_in p1 _ p3) h = both (texts_expr p1 h.1) (λ r. texts_container p3 r.1)
texts_simple (g.get p1) h = texts_expr p1 h.1
texts_simple (g.set {a = a} _ p2 p3 p4) h =
    both (texts_ref p3 (texts_of (later (past_the a)) p2 (texts_later (past_the a) (texts_the a h.1))))
    (λ r. texts_expr p4 r.1)
texts_simple (g.set_run {a = a} p1 _ p3) h = texts_expr p3 (subst TokensTexts p1 (texts_the a h.1)).1.1
texts_simple (g.add p1 p2) h = both (texts_expr p1 h.1) (λ r. texts_container p2 r.1)
texts_simple (g.subtract p1 p2) h = both (texts_expr p1 h.1) (λ r. texts_container p2 r.1)
texts_simple (g.multiply p1 p2) h = both (texts_container p1 h.1) (λ r. texts_expr p2 r.1)
texts_simple (g.divide p1 p2) h = both (texts_container p1 h.1) (λ r. texts_expr p2 r.1)
texts_simple (g.delete {m = m} p1 p2 p3) h = both (texts_chunk p1 h.1) (λ r. texts_container p3 (texts_of m p2 r))
texts_simple (g.do_ p1) h = texts_expr p1 h.1
texts_simple (g.send p1 p2) h = both (texts_expr p1 h.1) (λ r. texts_ref p2 r.1)
texts_simple (g.go {a = a} p1) h = texts_destination p1 (texts_to a h.1)
texts_simple (g.global p1) h = texts_names p1 h.1
texts_simple (g.exit_repeat _) h = (tt, h.1.1)
texts_simple (g.next_repeat _) h = (tt, h.1.1)
texts_simple (g.exit_to_hypercard _) h = (tt, h.1.1.1)
texts_simple (g.exit _) h = h.1
texts_simple (g.pass _) h = h.1
texts_simple (g.return_nothing _) h = (tt, h.1)
texts_simple (g.return_value _ p2) h = texts_expr p2 h.1
texts_simple g.command_bare h = ((h.0, tt), h.1)
texts_simple (g.command p1) h = ((h.0, (texts_list p1 h.1).0), (texts_list p1 h.1).1)

pub texts_head : {a c : List Token} {x : stm.Head} → DerivesHead a x c → TokensTexts a → HeadTexts x × TokensTexts c
texts_head g.no_head h = (tt, h)
texts_head g.forever h = (tt, h.1)
texts_head (g.times {a = a} {m = m} p1) h = let p = texts_expr p1 (texts_for a h) in (p.0, texts_times m p.1)
texts_head (g.while p1) h = texts_expr p1 h.1
texts_head (g.until p1) h = texts_expr p1 h.1
texts_head (g.counted_up p1 p2) h =
    let p = texts_expr p1 h.1.1.1 in
    let q = texts_expr p2 p.1.1 in
    ((h.1.0, p.0, q.0), q.1)
texts_head (g.counted_down p1 _ p3) h =
    let p = texts_expr p1 h.1.1.1 in
    let q = texts_expr p3 p.1.1.1 in
    ((h.1.0, p.0, q.0), q.1)

mutual
  pub texts_stmt : {k : Context} {a c : List Token} {x : stm.Stmt} → DerivesStmt k a x c → TokensTexts a
      → StmtTexts x × TokensTexts c
  texts_stmt (g.simple p1) h = texts_simple p1 h
  texts_stmt (g.short {m = m} p1 p2 p3) h =
      let p = texts_expr p1 h.1 in
      let q = texts_simple p3 (subst TokensTexts p2 (texts_ends m p.1)).1 in
      ((p.0, (q.0, tt), tt), q.1)
  texts_stmt (g.short_else {m = m} {n = n} p1 p2 p3 p4 p5) h =
      let p = texts_expr p1 h.1 in
      let q = texts_simple p3 (subst TokensTexts p2 (texts_ends m p.1)).1 in
      let r = texts_simple p5 (subst TokensTexts p4 (texts_ends n q.1)).1 in
      ((p.0, (q.0, tt), (r.0, tt)), r.1)
  texts_stmt (g.long {b = b} {m = m} p1 p2 p3 p4 p5) h =
      let p = texts_expr p1 h.1 in
      let q = texts_lines p4 (texts_ended b p3 (subst TokensTexts p2 (texts_ends m p.1)).1) in
      let r = texts_else p5 q.1 in
      ((p.0, q.0, r.0), r.1)
  texts_stmt (g.repeat {m = m} p1 p2 p3) h =
      let p = texts_head p1 h.1 in
      let q = texts_lines p3 (texts_ended m p2 p.1) in
      ((p.0, q.0), q.1.1.1)

  pub texts_lines : {k : Context} {a c : List Token} {x : stm.Stmts} → DerivesLines k a x c → TokensTexts a
      → StmtsTexts x × TokensTexts c
  texts_lines g.done h = (tt, h)
  texts_lines (g.line {m = m} p1 p2 p3) h = both (texts_stmt p1 h) (λ r. texts_lines p3 (texts_ended m p2 r))

  pub texts_else : {k : Context} {a c : List Token} {x : stm.Stmts} → DerivesElse k a x c → TokensTexts a
      → StmtsTexts x × TokensTexts c
  texts_else g.end_if h = (tt, h.1.1)
  texts_else (g.else_lines {a = a} p1 p2) h = let q = texts_lines p2 (texts_ended a p1 h.1) in (q.0, q.1.1.1)
  texts_else (g.else_if {b = b} {m = m} p1 p2 p3 p4 p5) h =
      let p = texts_expr p1 h.1.1 in
      let q = texts_lines p4 (texts_ended b p3 (subst TokensTexts p2 (texts_ends m p.1)).1) in
      let r = texts_else p5 q.1 in
      (((p.0, q.0, r.0), tt), r.1)

pub texts_params : {a c : List Token} {x : List (List ℕ)} → DerivesParams a x c → TokensTexts a
    → AllByRecursion IsText x × TokensTexts c
texts_params g.no_params h = (tt, h)
texts_params (g.params p1) h = texts_names p1 h

pub texts_handler : {a c : List Token} {x : stm.Handler} → DerivesHandler a x c → TokensTexts a
    → HandlerTexts x × TokensTexts c
texts_handler (g.handler {m = m} {n = n} _ p2 p3 p4 _ p6) h =
    let p = texts_params p2 h.1.1 in
    let q = texts_lines p4 (texts_ended m p3 p.1) in
    ((h.1.0, p.0, q.0), texts_ended n p6 q.1.1.1)

pub texts_handlers : {a : List Token} {x : stm.Handlers} → DerivesHandlers a x → TokensTexts a → HandlersTexts x
texts_handlers g.no_handlers h = tt
texts_handlers (g.and_handler p1 p2) h = ((texts_handler p1 h).0, (texts_handlers p2 (texts_handler p1 h).1))

pub texts_message : {a : List Token} {x : stm.Message} → DerivesMessage a x → TokensTexts a → MessageTexts x
texts_message g.message_bare h = (h.0, tt)
texts_message (g.message_given p1) h = (h.0, (texts_list p1 h.1).0)

-- ---- what a text is read as

pub expressions_have_texts : ExpressionsHaveTexts
expressions_have_texts text e is r = (texts_expr r.reads.derives (tokens_are text r.spans is)).0

pub lines_have_texts : TypedLinesHaveTexts
lines_have_texts text ss is r =
    let ts = map (token_in text) r.spans in
    (texts_lines r.reads.derives (texts_ends ts (tokens_are text r.spans is))).0

pub messages_have_texts : SentMessagesHaveTexts
messages_have_texts text m is r = texts_message r.reads.derives (tokens_are text r.spans is)

pub scripts_have_texts : ScriptsHaveTexts
scripts_have_texts text hs is r =
    let ts = map (token_in text) r.spans in
    texts_handlers r.reads.derives (texts_ends ts (tokens_are text r.spans is))

pub parts_have_texts : ClickedPartsHaveTexts
parts_have_texts text pa is r = (texts_part r.reads.derives (tokens_are text r.spans is)).0

typed_tree : {ts : List Token} {x : stm.Typed} → ReadsType ts x → TokensTexts ts → TypedTexts x
typed_tree (ReadsType.reads_type part _) h = (h.0, (texts_part part.derives h.1.1).0)

pub typed_have_texts : TypedTextsHaveTexts
typed_have_texts text x is r = typed_tree r.reads (tokens_are text r.spans is)

-- Each tree takes a token at least.
use Rattle.std.proofs.Common.{◌≡◌, ℕ, ◌<◌, ◌≤◌, List, [], ◌∷◌, length, Option, Some, None, ap, arith}
use Rattle.ht_lex.specs.declared.key.Key.{Key}
use Rattle.ht_lex.specs.declared.key.Key.TheVariants as k
use Rattle.ht_lex.specs.Token.{Token, key, later}
use Rattle.ht_values.specs.declared.operator.Op.{Op}
use Rattle.ht_values.specs.declared.operator.Op.TheVariants as o
use Rattle.ht_values.specs.declared.operator.UnOp.{UnOp}
use Rattle.ht_values.specs.declared.operator.UnOp.TheVariants as un
use Rattle.ht_values.specs.declared.operator.ValueType.{ValueType}
use Rattle.ht_grammar.specs.declared.vocabulary.Layer.{Layer}
use Rattle.ht_grammar.specs.Trees.{Expr, Exprs, Chunk, Which, Selector, Owner, Part, Ref, Count}
use Rattle.ht_grammar.specs.Fronts.{infix_at, test_at, leading_operator, operator_after_is}
use Rattle.ht_grammar.specs.Fronts.{operator_after_is_not, operator_rest, asked_type, test_or, after_of, past_the}
use Rattle.ht_grammar.specs.Expressions.{Derives, DerivesList, DerivesLayer, DerivesArticle, DerivesChunk, DerivesCount}
use Rattle.ht_grammar.specs.Expressions.{DerivesRef, DerivesSelector, DerivesWhich, DerivesPart, DerivesOwner, Level}
use Rattle.ht_grammar.specs.Expressions as e

pub shorter_later : (ts : List Token) → length (later ts) ≤ length ts
shorter_later [] = omega arith
shorter_later (t ∷ ts) = omega arith

pub shorter_the : (ts : List Token) → length (past_the ts) ≤ length ts
shorter_the [] = omega arith
shorter_the (key k.The ∷ ts) = omega arith
shorter_the (t ∷ ts) = omega arith

pub shorter_of : (m : List Token) {b : List Token} → after_of m ≡ Some b → length b < length m
shorter_of (key k.Of ∷ ts) {b} e = let same : ts ≡ b = cc in omega (arith, ap (length {A = Token}) same)
shorter_of (key k.In ∷ ts) {b} e = let same : ts ≡ b = cc in omega (arith, ap (length {A = Token}) same)
shorter_of _ e = cc

typed_rest : (ts : List Token) (test : ValueType → UnOp) (op : Op) (asked : Option ValueType)
    → length (operator_rest (test_or test op ts asked)) ≤ length ts
typed_rest ts test op None = omega arith
typed_rest ts test op (Some v) = omega (arith, shorter_later ts, shorter_later (later ts))

is_not_rest : (ts : List Token) → length (operator_rest (operator_after_is_not ts)) ≤ length ts
unfolding operator_after_is_not
is_not_rest [] = typed_rest [] un.IsNotA o.NotEqual (asked_type [])
is_not_rest (key k.In ∷ ts) = omega arith
is_not_rest (t ∷ ts) = typed_rest (t ∷ ts) un.IsNotA o.NotEqual (asked_type (t ∷ ts))

is_rest : (ts : List Token) → length (operator_rest (operator_after_is ts)) ≤ length ts
unfolding operator_after_is
is_rest [] = typed_rest [] un.IsA o.Equal (asked_type [])
is_rest (key k.In ∷ ts) = omega arith
is_rest (key k.Not ∷ ts) = omega (arith, is_not_rest ts)
is_rest (t ∷ ts) = typed_rest (t ∷ ts) un.IsA o.Equal (asked_type (t ∷ ts))

rest_shorter : (m : List Token) → length (operator_rest (leading_operator m)) ≤ length m
unfolding leading_operator
rest_shorter [] = omega arith
rest_shorter (key k.Is ∷ ts) = omega (arith, is_rest ts)
rest_shorter (t ∷ ts) = omega arith

after_infix : (m : List Token) {r : ℕ} {op : Op} {b : List Token} → leading_operator m ≡ infix_at r op b
    → length b ≤ length m
after_infix m e = omega (arith, rest_shorter m, ap (λ f. length (operator_rest f)) e)

after_test : (m : List Token) {op : UnOp} {c : List Token} → leading_operator m ≡ test_at op c → length c ≤ length m
after_test m e = omega (arith, rest_shorter m, ap (λ f. length (operator_rest f)) e)

layer_shorter : {a c : List Token} {l : Option Layer} → DerivesLayer a l c → length c ≤ length a
layer_shorter e.no_layer = omega arith
layer_shorter e.on_card = omega arith
layer_shorter e.on_background = omega arith

article_shorter : {a c : List Token} {n : _} → DerivesArticle a n c → length c < length a
article_shorter (e.an f) = omega arith
article_shorter (e.no_ f) = omega arith
article_shorter (e.not_an f) = omega arith

mutual
  pub shorter : {p : Level} {a c : List Token} {x : Expr} → Derives p a x c → length c < length a
  shorter (e.join {m = m} h f i) = omega (arith, shorter h, shorter i, after_infix m f)
  shorter (e.is_a {m = m} h f) = omega (arith, shorter h, after_test m f)
  shorter (e.tighter h) = shorter h
  shorter (e.tightest h) = shorter h
  shorter (e.raised h i) = omega (arith, shorter h, shorter i)
  shorter (e.not_raised h) = shorter h
  shorter (e.minus h) = omega (arith, shorter h)
  shorter (e.not_ h) = omega (arith, shorter h)
  shorter (e.there_is h i) = omega (arith, article_shorter h, shorter_ref i)
  shorter (e.no_prefix h) = shorter h
  shorter (e.no_form h) = shorter h
  shorter (e.chunk {m = m} h o i) = omega (arith, shorter_chunk h, shorter_of m o, shorter i)
  shorter (e.field h f) = shorter_part h
  shorter (e.result f) = omega arith
  shorter (e.target f) = omega arith
  shorter (e.number_of {a = a} {m = m} f o h) =
      omega (arith, ap (length {A = Token}) f, shorter_the a, shorter_of m o, shorter_count h)
  shorter (e.property {m = m} f o h) = omega (arith, shorter_later m, shorter_of (later m) o, shorter_ref h)
  shorter (e.short_property {m = m} f g i o h) = omega (arith, shorter_later m, shorter_of (later m) o, shorter_ref h)
  shorter (e.run_property f) = omega arith
  shorter (e.function {m = m} f o h) = omega (arith, shorter_of m o, shorter h)
  shorter e.number = omega arith
  shorter e.quoted = omega arith
  shorter (e.paren h) = omega (arith, shorter h)
  shorter e.constant = omega arith
  shorter e.return_ = omega arith
  shorter (e.call h) = omega (arith, shorter_list h)
  shorter e.call_bare = omega arith
  shorter e.name = omega arith

  pub shorter_list : {a c : List Token} {xs : Exprs} → DerivesList a xs c → length c < length a
  shorter_list (e.alone h) = shorter h
  shorter_list (e.followed h i) = omega (arith, shorter h, shorter_list i)

  pub shorter_chunk : {a c : List Token} {h : Chunk} → DerivesChunk a h c → length c < length a
  shorter_chunk (e.piece h) = omega (arith, shorter h)
  shorter_chunk (e.pieces h i) = omega (arith, shorter h, shorter i)
  shorter_chunk (e.nth_piece {a = a} f) = omega (arith, ap (length {A = Token}) f, shorter_the a)

  pub shorter_count : {a c : List Token} {n : Count} → DerivesCount a n c → length c < length a
  shorter_count (e.pieces_of {m = m} o h) = omega (arith, shorter_of m o, shorter h)
  shorter_count e.cards = omega arith
  shorter_count e.backgrounds = omega arith
  shorter_count (e.parts h) = omega (arith, layer_shorter h)
  shorter_count (e.of_object h) = shorter_ref h

  pub shorter_ref : {a c : List Token} {r : Ref} → DerivesRef a r c → length c < length a
  shorter_ref e.me = omega arith
  shorter_ref (e.the_target f) = omega arith
  shorter_ref e.this_stack = omega arith
  shorter_ref (e.card h) = shorter_selector h
  shorter_ref (e.background h) = shorter_selector h
  shorter_ref (e.a_part h) = shorter_part h

  pub shorter_selector : {s : Key} {a c : List Token} {p : Selector} → DerivesSelector s a p c → length c < length a
  shorter_selector e.this = omega arith
  shorter_selector e.next = omega arith
  shorter_selector e.previous = omega arith
  shorter_selector e.nth = omega arith
  shorter_selector (e.which h) = omega (arith, shorter_which h)

  pub shorter_which : {a c : List Token} {w : Which} → DerivesWhich a w c → length c < length a
  shorter_which (e.by_id h) = omega (arith, shorter h)
  shorter_which (e.by_text h) = shorter h

  pub shorter_part : {a c : List Token} {p : Part} → DerivesPart a p c → length c < length a
  shorter_part (e.part l w o) = omega (arith, layer_shorter l, shorter_which w, shorter_owner o)
  shorter_part (e.nth_part l o) = omega (arith, layer_shorter l, shorter_owner o)

  pub shorter_owner : {a c : List Token} {o : Owner} → DerivesOwner a o c → length c ≤ length a
  shorter_owner e.no_owner = omega arith
  shorter_owner (e.of_card {m = m} o h) = omega (arith, shorter_of m o, shorter_selector h)
  shorter_owner (e.of_background {m = m} o h) = omega (arith, shorter_of m o, shorter_selector h)

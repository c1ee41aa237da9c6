-- Expressions in postfix form: a list of marks that gives the tree back.
use Rattle.std.specs.Prelude.{ℕ, Bool, List, [], ◌∷◌, Option}
use Rattle.std.proofs.Common.{◌≡◌, refl, ◌∙◌}
use Rattle.ht_values.specs.declared.word.ChunkKind.{ChunkKind}
use Rattle.ht_lex.specs.declared.key.Ordinal.{Ordinal}
use Rattle.ht_lex.specs.declared.key.Constant.{Constant}
use Rattle.ht_values.specs.declared.word.PartKind.{PartKind}
use Rattle.ht_values.specs.declared.operator.Op.{Op}
use Rattle.ht_values.specs.declared.operator.UnOp.{UnOp}
use Rattle.ht_values.specs.declared.word.Prop.{Prop}
use Rattle.ht_grammar.specs.declared.vocabulary.RunProp.{RunProp}
use Rattle.ht_grammar.specs.declared.vocabulary.FunctionWord.{FunctionWord}
use Rattle.ht_grammar.specs.declared.vocabulary.Layer.{Layer}
use Rattle.ht_grammar.specs.Trees.{Expr, Exprs, Chunk, Which, Selector, Owner, Part, Ref, Count}
use Rattle.ht_grammar.specs.Trees as t

-- A node without its parts, which stand before it.
pub data Mark : Type 0 where
  number quoted name call : List ℕ → Mark
  constant : Constant → Mark
  return_ paren chunk field result target number_of none more : Mark
  binary : Op → Mark
  unary : UnOp → Mark
  there_is : Bool → Mark
  property : Prop → Mark
  run_property : RunProp → Mark
  function : FunctionWord → Mark
  piece pieces pieces_of : ChunkKind → Mark
  nth_piece : Ordinal → ChunkKind → Mark
  by_id by_text this next previous which no_owner on_card on_background : Mark
  nth : Ordinal → Mark
  part : Option Layer → PartKind → Mark
  nth_part : Ordinal → Option Layer → PartKind → Mark
  me the_target this_stack card background a_part cards backgrounds of_object : Mark
  parts : Option Layer → PartKind → Mark

-- A tree of any sort.
pub data Item : Type 0 where
  an_expr : Expr → Item
  some_exprs : Exprs → Item
  a_chunk : Chunk → Item
  a_which : Which → Item
  a_selector : Selector → Item
  an_owner : Owner → Item
  a_part_item : Part → Item
  a_ref : Ref → Item
  a_count : Count → Item

-- The marks of a tree, and then others.
abbrev mutual
  pub expr_marks : Expr → List Mark → List Mark
  expr_marks (t.number w) ms = number w ∷ ms
  expr_marks (t.quoted w) ms = quoted w ∷ ms
  expr_marks (t.constant c) ms = constant c ∷ ms
  expr_marks t.return_ ms = return_ ∷ ms
  expr_marks (t.name w) ms = name w ∷ ms
  expr_marks (t.paren x) ms = expr_marks x (paren ∷ ms)
  expr_marks (t.call w xs) ms = exprs_marks xs (call w ∷ ms)
  expr_marks (t.binary op x y) ms = expr_marks x (expr_marks y (binary op ∷ ms))
  expr_marks (t.unary op x) ms = expr_marks x (unary op ∷ ms)
  expr_marks (t.there_is b r) ms = ref_marks r (there_is b ∷ ms)
  expr_marks (t.chunk h x) ms = chunk_marks h (expr_marks x (chunk ∷ ms))
  expr_marks (t.field p) ms = part_marks p (field ∷ ms)
  expr_marks t.result ms = result ∷ ms
  expr_marks t.target ms = target ∷ ms
  expr_marks (t.number_of n) ms = count_marks n (number_of ∷ ms)
  expr_marks (t.property p r) ms = ref_marks r (property p ∷ ms)
  expr_marks (t.run_property p) ms = run_property p ∷ ms
  expr_marks (t.function f x) ms = expr_marks x (function f ∷ ms)

  pub exprs_marks : Exprs → List Mark → List Mark
  exprs_marks t.none ms = none ∷ ms
  exprs_marks (t.more x xs) ms = expr_marks x (exprs_marks xs (more ∷ ms))

  pub chunk_marks : Chunk → List Mark → List Mark
  chunk_marks (t.piece k x) ms = expr_marks x (piece k ∷ ms)
  chunk_marks (t.pieces k x y) ms = expr_marks x (expr_marks y (pieces k ∷ ms))
  chunk_marks (t.nth_piece n k) ms = nth_piece n k ∷ ms

  pub which_marks : Which → List Mark → List Mark
  which_marks (t.by_id x) ms = expr_marks x (by_id ∷ ms)
  which_marks (t.by_text x) ms = expr_marks x (by_text ∷ ms)

  pub selector_marks : Selector → List Mark → List Mark
  selector_marks t.this ms = this ∷ ms
  selector_marks t.next ms = next ∷ ms
  selector_marks t.previous ms = previous ∷ ms
  selector_marks (t.nth n) ms = nth n ∷ ms
  selector_marks (t.which w) ms = which_marks w (which ∷ ms)

  pub owner_marks : Owner → List Mark → List Mark
  owner_marks t.no_owner ms = no_owner ∷ ms
  owner_marks (t.on_card p) ms = selector_marks p (on_card ∷ ms)
  owner_marks (t.on_background p) ms = selector_marks p (on_background ∷ ms)

  pub part_marks : Part → List Mark → List Mark
  part_marks (t.part l k w o) ms = which_marks w (owner_marks o (part l k ∷ ms))
  part_marks (t.nth_part n l k o) ms = owner_marks o (nth_part n l k ∷ ms)

  pub ref_marks : Ref → List Mark → List Mark
  ref_marks t.me ms = me ∷ ms
  ref_marks t.the_target ms = the_target ∷ ms
  ref_marks t.this_stack ms = this_stack ∷ ms
  ref_marks (t.card p) ms = selector_marks p (card ∷ ms)
  ref_marks (t.background p) ms = selector_marks p (background ∷ ms)
  ref_marks (t.a_part p) ms = part_marks p (a_part ∷ ms)

  pub count_marks : Count → List Mark → List Mark
  count_marks (t.pieces_of k x) ms = expr_marks x (pieces_of k ∷ ms)
  count_marks t.cards ms = cards ∷ ms
  count_marks t.backgrounds ms = backgrounds ∷ ms
  count_marks (t.parts l k) ms = parts l k ∷ ms
  count_marks (t.of_object r) ms = ref_marks r (of_object ∷ ms)

abbrev pub built : Mark → List Item → List Item
built (number w) ts = an_expr (t.number w) ∷ ts
built (quoted w) ts = an_expr (t.quoted w) ∷ ts
built (constant c) ts = an_expr (t.constant c) ∷ ts
built return_ ts = an_expr t.return_ ∷ ts
built (name w) ts = an_expr (t.name w) ∷ ts
built paren (an_expr x ∷ ts) = an_expr (t.paren x) ∷ ts
built (call w) (some_exprs xs ∷ ts) = an_expr (t.call w xs) ∷ ts
built (binary op) (an_expr y ∷ an_expr x ∷ ts) = an_expr (t.binary op x y) ∷ ts
built (unary op) (an_expr x ∷ ts) = an_expr (t.unary op x) ∷ ts
built (there_is b) (a_ref r ∷ ts) = an_expr (t.there_is b r) ∷ ts
built chunk (an_expr x ∷ a_chunk h ∷ ts) = an_expr (t.chunk h x) ∷ ts
built field (a_part_item p ∷ ts) = an_expr (t.field p) ∷ ts
built result ts = an_expr t.result ∷ ts
built target ts = an_expr t.target ∷ ts
built number_of (a_count n ∷ ts) = an_expr (t.number_of n) ∷ ts
built (property p) (a_ref r ∷ ts) = an_expr (t.property p r) ∷ ts
built (run_property p) ts = an_expr (t.run_property p) ∷ ts
built (function f) (an_expr x ∷ ts) = an_expr (t.function f x) ∷ ts
built none ts = some_exprs t.none ∷ ts
built more (some_exprs xs ∷ an_expr x ∷ ts) = some_exprs (t.more x xs) ∷ ts
built (piece k) (an_expr x ∷ ts) = a_chunk (t.piece k x) ∷ ts
built (pieces k) (an_expr y ∷ an_expr x ∷ ts) = a_chunk (t.pieces k x y) ∷ ts
built (nth_piece n k) ts = a_chunk (t.nth_piece n k) ∷ ts
built by_id (an_expr x ∷ ts) = a_which (t.by_id x) ∷ ts
built by_text (an_expr x ∷ ts) = a_which (t.by_text x) ∷ ts
built this ts = a_selector t.this ∷ ts
built next ts = a_selector t.next ∷ ts
built previous ts = a_selector t.previous ∷ ts
built (nth n) ts = a_selector (t.nth n) ∷ ts
built which (a_which w ∷ ts) = a_selector (t.which w) ∷ ts
built no_owner ts = an_owner t.no_owner ∷ ts
built on_card (a_selector p ∷ ts) = an_owner (t.on_card p) ∷ ts
built on_background (a_selector p ∷ ts) = an_owner (t.on_background p) ∷ ts
built (part l k) (an_owner o ∷ a_which w ∷ ts) = a_part_item (t.part l k w o) ∷ ts
built (nth_part n l k) (an_owner o ∷ ts) = a_part_item (t.nth_part n l k o) ∷ ts
built me ts = a_ref t.me ∷ ts
built the_target ts = a_ref t.the_target ∷ ts
built this_stack ts = a_ref t.this_stack ∷ ts
built card (a_selector p ∷ ts) = a_ref (t.card p) ∷ ts
built background (a_selector p ∷ ts) = a_ref (t.background p) ∷ ts
built a_part (a_part_item p ∷ ts) = a_ref (t.a_part p) ∷ ts
built (pieces_of k) (an_expr x ∷ ts) = a_count (t.pieces_of k x) ∷ ts
built cards ts = a_count t.cards ∷ ts
built backgrounds ts = a_count t.backgrounds ∷ ts
built (parts l k) ts = a_count (t.parts l k) ∷ ts
built of_object (a_ref r ∷ ts) = a_count (t.of_object r) ∷ ts
built _ _ = []

abbrev pub run : List Mark → List Item → List Item
run [] ts = ts
run (m ∷ ms) ts = run ms (built m ts)

abbrev pub expr_on : List Item → Expr
expr_on (an_expr x ∷ ts) = x
expr_on _ = t.return_

mutual
  pub expr_back : (x : Expr) (ms : List Mark) (ts : List Item) → run (expr_marks x ms) ts ≡ run ms (an_expr x ∷ ts)
  expr_back (t.number w) ms ts = refl
  expr_back (t.quoted w) ms ts = refl
  expr_back (t.constant c) ms ts = refl
  expr_back t.return_ ms ts = refl
  expr_back (t.name w) ms ts = refl
  expr_back (t.paren x) ms ts = expr_back x (paren ∷ ms) ts
  expr_back (t.call w xs) ms ts = exprs_back xs (call w ∷ ms) ts
  expr_back (t.binary op x y) ms ts =
      expr_back x (expr_marks y (binary op ∷ ms)) ts ∙ expr_back y (binary op ∷ ms) (an_expr x ∷ ts)
  expr_back (t.unary op x) ms ts = expr_back x (unary op ∷ ms) ts
  expr_back (t.there_is b r) ms ts = ref_back r (there_is b ∷ ms) ts
  expr_back (t.chunk h x) ms ts =
      chunk_back h (expr_marks x (chunk ∷ ms)) ts ∙ expr_back x (chunk ∷ ms) (a_chunk h ∷ ts)
  expr_back (t.field p) ms ts = part_back p (field ∷ ms) ts
  expr_back t.result ms ts = refl
  expr_back t.target ms ts = refl
  expr_back (t.number_of n) ms ts = count_back n (number_of ∷ ms) ts
  expr_back (t.property p r) ms ts = ref_back r (property p ∷ ms) ts
  expr_back (t.run_property p) ms ts = refl
  expr_back (t.function f x) ms ts = expr_back x (function f ∷ ms) ts

  pub exprs_back : (x : Exprs) (ms : List Mark) (ts : List Item)
      → run (exprs_marks x ms) ts ≡ run ms (some_exprs x ∷ ts)
  exprs_back t.none ms ts = refl
  exprs_back (t.more x xs) ms ts =
      expr_back x (exprs_marks xs (more ∷ ms)) ts ∙ exprs_back xs (more ∷ ms) (an_expr x ∷ ts)

  pub chunk_back : (x : Chunk) (ms : List Mark) (ts : List Item) → run (chunk_marks x ms) ts ≡ run ms (a_chunk x ∷ ts)
  chunk_back (t.piece k x) ms ts = expr_back x (piece k ∷ ms) ts
  chunk_back (t.pieces k x y) ms ts =
      expr_back x (expr_marks y (pieces k ∷ ms)) ts ∙ expr_back y (pieces k ∷ ms) (an_expr x ∷ ts)
  chunk_back (t.nth_piece n k) ms ts = refl

  which_back : (x : Which) (ms : List Mark) (ts : List Item) → run (which_marks x ms) ts ≡ run ms (a_which x ∷ ts)
  which_back (t.by_id x) ms ts = expr_back x (by_id ∷ ms) ts
  which_back (t.by_text x) ms ts = expr_back x (by_text ∷ ms) ts

  pub selector_back : (x : Selector) (ms : List Mark) (ts : List Item)
      → run (selector_marks x ms) ts ≡ run ms (a_selector x ∷ ts)
  selector_back t.this ms ts = refl
  selector_back t.next ms ts = refl
  selector_back t.previous ms ts = refl
  selector_back (t.nth n) ms ts = refl
  selector_back (t.which w) ms ts = which_back w (which ∷ ms) ts

  owner_back : (x : Owner) (ms : List Mark) (ts : List Item) → run (owner_marks x ms) ts ≡ run ms (an_owner x ∷ ts)
  owner_back t.no_owner ms ts = refl
  owner_back (t.on_card p) ms ts = selector_back p (on_card ∷ ms) ts
  owner_back (t.on_background p) ms ts = selector_back p (on_background ∷ ms) ts

  pub part_back : (x : Part) (ms : List Mark) (ts : List Item) → run (part_marks x ms) ts ≡ run ms (a_part_item x ∷ ts)
  part_back (t.part l k w o) ms ts =
      which_back w (owner_marks o (part l k ∷ ms)) ts ∙ owner_back o (part l k ∷ ms) (a_which w ∷ ts)
  part_back (t.nth_part n l k o) ms ts = owner_back o (nth_part n l k ∷ ms) ts

  pub ref_back : (x : Ref) (ms : List Mark) (ts : List Item) → run (ref_marks x ms) ts ≡ run ms (a_ref x ∷ ts)
  ref_back t.me ms ts = refl
  ref_back t.the_target ms ts = refl
  ref_back t.this_stack ms ts = refl
  ref_back (t.card p) ms ts = selector_back p (card ∷ ms) ts
  ref_back (t.background p) ms ts = selector_back p (background ∷ ms) ts
  ref_back (t.a_part p) ms ts = part_back p (a_part ∷ ms) ts

  count_back : (x : Count) (ms : List Mark) (ts : List Item) → run (count_marks x ms) ts ≡ run ms (a_count x ∷ ts)
  count_back (t.pieces_of k x) ms ts = expr_back x (pieces_of k ∷ ms) ts
  count_back t.cards ms ts = refl
  count_back t.backgrounds ms ts = refl
  count_back (t.parts l k) ms ts = refl
  count_back (t.of_object r) ms ts = ref_back r (of_object ∷ ms) ts

-- What is in the grammar is read: expressions and references.
use Rattle.std.proofs.Common.{◌≡◌, ℕ, zero, suc, ◌+◌, ◌<◌, ◌≤◌, inl, inr, List, [], ◌∷◌, length, Bool, true, false}
use Rattle.std.proofs.Common.{Option, Some, None, cond, codes, ◌||◌, nat_eq, nat_le, refl, sym, ap, ◌∙◌, subst, arith}
use Rattle.std.proofs.lemmas.Option.{none-some}
use Rattle.std.proofs.lemmas.Bool.{le-leb, cond-true, cond-false}
use Rattle.std.proofs.lemmas.Bool.Decides.{nat_tests}
use Rattle.ht_lex.specs.declared.key.Key.{Key}
use Rattle.ht_lex.specs.declared.key.Key.TheVariants as k
use Rattle.ht_lex.specs.declared.key.TokenKind.{TokenKind}
use Rattle.ht_lex.specs.declared.key.TokenKind.TheVariants as kind
use Rattle.ht_values.specs.declared.word.ChunkKind.{ChunkKind}
use Rattle.ht_values.specs.declared.word.PartKind.{PartKind}
use Rattle.ht_lex.specs.Token.{Token, key, first_kind, later}
use Rattle.ht_lex.specs.Token as token
use Rattle.ht_values.specs.declared.operator.Op.{Op}
use Rattle.ht_values.specs.declared.operator.Op.TheVariants as o
use Rattle.ht_values.specs.declared.operator.UnOp.{UnOp}
use Rattle.ht_values.specs.declared.operator.UnOp.TheVariants as un
use Rattle.ht_values.specs.declared.word.Prop.{Prop}
use Rattle.ht_grammar.specs.declared.vocabulary.Layer.{Layer}
use Rattle.ht_grammar.specs.declared.vocabulary.Layer.TheVariants as layer
use Rattle.ht_grammar.specs.Trees.{Expr, Exprs, Chunk, Which, Selector, Owner, Part, Ref, Count, none, kind_of_part}
use Rattle.ht_grammar.specs.Trees as t
use Rattle.ht_grammar.specs.Depth.{depth, depths, chunk_depth, which_depth, selector_depth, owner_depth, part_depth}
use Rattle.ht_grammar.specs.Depth.{ref_depth, count_depth}
use Rattle.ht_grammar.specs.Fronts.{LeadingOperator, infix_at, test_at, neither, leading_operator, equality, after_of}
use Rattle.ht_grammar.specs.Fronts.{past_the, same_name, is_article, prop_front, short_of}
use Rattle.ht_grammar.specs.Expressions.{Derives, DerivesList, DerivesArticle, DerivesLayer, DerivesWhich}
use Rattle.ht_grammar.specs.Expressions.{DerivesSelector, DerivesOwner, DerivesPart, DerivesRef, DerivesCount}
use Rattle.ht_grammar.specs.Expressions.{DerivesChunk, Level, primary, factor, prefixed, power, rank, whole}
use Rattle.ht_grammar.specs.Expressions as e
use Rattle.ht_grammar.specs.Reading.{Outcome, Parser, and_then, made, snoc, closed, fitting, of_part, referenced_layer}
use Rattle.ht_grammar.specs.Reading.{part_front, if_field, which_at, selector_at, owner_at, owner_by, owner_of_layer}
use Rattle.ht_grammar.specs.Reading.{part_end, nth_end, part_at, field_at, ref_of_layer, ref_at, inner_ref}
use Rattle.ht_grammar.specs.Reading.{layered_count, count_at, piece_by, chunk_at, chunk_form, number_form, property_by}
use Rattle.ht_grammar.specs.Reading.{short_by, function_by, run_by, prop_or, the_name, article, list_more, list_at}
use Rattle.ht_grammar.specs.Reading.{primary_at, factor_at, prefixed_at, power_end, power_at, join_at, asked_at, turn}
use Rattle.ht_grammar.specs.Reading.{chain_at, rank_at, level_at, read}
use Rattle.ht_grammar.specs.Lines.{begins_expr}
use Rattle.ht_grammar.proofs.Owner.{referenced_card, referenced_background}
use Rattle.ht_grammar.proofs.Sound.{joined, joined_snoc, snoc_joined}
use Rattle.ht_grammar.proofs.Begins.{expr_begins}
use Rattle.ht_grammar.proofs.Follow.{tie, bound, tie_infix, tie_test, tie_no_owner, tie_no_part, tie_of, tie_owner}
use Rattle.ht_grammar.proofs.Follow.{layer_after, depth_pos, past_cases, part_no_layer, factor_no_layer, loose_close}
use Rattle.ht_grammar.proofs.Follow.{loose_comma, loose_to, loose_end}
use Rattle.ht_grammar.proofs.Shorter.{shorter}
use Rattle.ht_grammar.proofs.Names.{apart, IsPlain, prop_plain, run_plain, function_plain, run_no_prop}
use Rattle.ht_grammar.proofs.Names.{function_no_prop, function_no_run}

pub step : {A B : Type 0} {r : Outcome A} {x : A} {m : List Token} (f : A → Parser B) → r ≡ Some (x, m)
    → and_then r f ≡ f x m
step f e = ap (λ r. and_then r f) e

pub make : {A B : Type 0} {r : Outcome A} {x : A} {c : List Token} (f : A → B) → r ≡ Some (x, c)
    → made f r ≡ Some (f x, c)
make f e = ap (made f) e

-- the words `card` and `background`
abbrev pub is_layer_key : Key → Bool
is_layer_key k.Card = true
is_layer_key k.Background = true
is_layer_key _ = false

abbrev pub is_comma : List Token → Bool
is_comma (key k.CommaSign ∷ ts) = true
is_comma _ = false

-- words that only stand before a factor
abbrev is_prefix : Option TokenKind → Bool
is_prefix (Some (kind.Key k.Minus)) = true
is_prefix (Some (kind.Key k.Not)) = true
is_prefix (Some (kind.Key k.There)) = true
is_prefix _ = false

past_no_prefix : (a m : List Token) (h : Key) → past_the a ≡ key h ∷ m → is_prefix (Some (kind.Key h)) ≡ false
    → is_prefix (first_kind a) ≡ false
past_no_prefix a m h f g = elim (past_cases a (key h ∷ m) f) [
  | inl same ↦ subst (λ v. is_prefix (first_kind v) ≡ false) (sym same) refl
  | inr same ↦ subst (λ v. is_prefix (first_kind v) ≡ false) (sym same) g
]

part_no_prefix : {a c : List Token} {p : Part} → DerivesPart a p c → is_prefix (first_kind a) ≡ false
part_no_prefix (e.part e.no_layer w o) = refl
part_no_prefix (e.part e.on_card w o) = refl
part_no_prefix (e.part e.on_background w o) = refl
part_no_prefix (e.nth_part l o) = refl

factor_no_prefix : {a c : List Token} {x : Expr} → Derives factor a x c → is_prefix (first_kind a) ≡ false
factor_no_prefix (e.no_form e.number) = refl
factor_no_prefix (e.no_form e.quoted) = refl
factor_no_prefix (e.no_form (e.paren h)) = refl
factor_no_prefix (e.no_form e.constant) = refl
factor_no_prefix (e.no_form e.return_) = refl
factor_no_prefix (e.no_form (e.call h)) = refl
factor_no_prefix (e.no_form e.call_bare) = refl
factor_no_prefix (e.no_form e.name) = refl
factor_no_prefix (e.chunk (e.piece i) o h) = refl
factor_no_prefix (e.chunk (e.pieces i j) o h) = refl
factor_no_prefix (e.chunk (e.nth_piece {n} {p} {a} {c} f) o h) =
    past_no_prefix a (key (k.Piece p) ∷ c) (k.Ordinal n) f refl
factor_no_prefix (e.field h f) = part_no_prefix h
factor_no_prefix (e.result f) = refl
factor_no_prefix (e.target f) = refl
factor_no_prefix (e.number_of {a = a} {m = m} f o h) = past_no_prefix a m k.Number f refl
factor_no_prefix (e.property f o h) = refl
factor_no_prefix (e.short_property f g i o h) = refl
factor_no_prefix (e.run_property f) = refl
factor_no_prefix (e.function f o h) = refl

pub list_begins : {a c : List Token} {xs : Exprs} → DerivesList a xs c → begins_expr (first_kind a) ≡ true
list_begins (e.alone h) = expr_begins h
list_begins (e.followed h i) = expr_begins h

module _ (deeper : Level → Parser Expr) (d : ℕ) where
  pub fits_in : {A : Type 0} (height : A → ℕ) {r : Outcome A} {x : A} {c : List Token} → r ≡ Some (x, c) → height x ≤ d
      → fitting deeper d height r ≡ Some (x, c)
  fits_in height {r} {x} {c} e le =
      ap (fitting deeper d height) e ∙ cond-true (nat_le (height x) d) (Some (x, c)) None (le-leb (height x) d le)

  name_stops : (w : List ℕ) (c : List Token) → 0 < tie c → primary_at deeper d (token.name w ∷ c) ≡ Some (t.name w, c)
  unfolding tie primary_at
  name_stops w (key k.LeftParen ∷ c) h = absurd (omega arith)
  name_stops w [] h = refl
  name_stops w (x ∷ c) h = refl

  call_goes : (w : List ℕ) (a : List Token) → begins_expr (first_kind a) ≡ true
      → primary_at deeper d (token.name w ∷ key k.LeftParen ∷ a)
      ≡ and_then (list_at deeper d (length a) none a) (λ xs. closed (t.call w xs))
  unfolding primary_at
  call_goes w (key k.RightParen ∷ a) h = cc
  call_goes w [] h = refl
  call_goes w (x ∷ a) h = refl

  power_stops : (x : Expr) (c : List Token) → 2 < tie c → power_end deeper d x c ≡ Some (x, c)
  unfolding tie power_end
  power_stops x (key k.Caret ∷ c) h = absurd (omega arith)
  power_stops x [] h = refl
  power_stops x (y ∷ c) h = refl

  power_takes : (x : Expr) (b : List Token) (y : Expr) (c : List Token) → depth x ≤ d → deeper power b ≡ Some (y, c)
      → power_end deeper d x (key k.Caret ∷ b) ≡ Some (t.binary o.Power x y, c)
  unfolding power_end
  power_takes x b y c le e = cond-true (nat_le (depth x) d) _ _ (le-leb (depth x) d le) ∙ make (t.binary o.Power x) e

  list_stops : (again : Exprs → Parser Exprs) (found : Exprs) (c : List Token) → is_comma c ≡ false
      → list_more deeper d again (first_kind c) found c ≡ Some (found, c)
  list_stops again found (key k.CommaSign ∷ c) h = cc
  list_stops again found [] h = refl
  list_stops again found (y ∷ c) h = refl

  list_step : (n : ℕ) (found : Exprs) (a : List Token) (x : Expr) (m : List Token) → 0 < n
      → deeper whole a ≡ Some (x, m)
      → (j : ℕ) × (n ≡ suc j) × (list_at deeper d n found a
      ≡ list_more deeper d (list_at deeper d j) (first_kind m) (snoc found x) m)
  unfolding list_at
  list_step zero found a x m pos e = absurd (omega arith)
  list_step (suc n) found a x m pos e =
      (n, refl, step (λ x r. list_more deeper d (list_at deeper d n) (first_kind r) (snoc found x) r) e)

  chain_stops : (n j : ℕ) (x : Expr) (c : List Token) → suc n + 2 < tie c → 0 < j
      → chain_at deeper d n j x c ≡ Some (x, c)
  unfolding chain_at
  chain_stops n zero x c h pos = absurd (omega arith)
  chain_stops n (suc j) x c h pos = go (leading_operator c) refl
    where
      go : (f : LeadingOperator) → leading_operator c ≡ f → turn deeper d (chain_at deeper d n j) n x c f ≡ Some (x, c)
      go (infix_at r op b) same = let e : r + 2 ≡ tie c = sym (tie_infix c same) in let other : nat_eq r (suc n)
          ≡ false = grind (arith, nat_tests) in ap
          (λ v. cond v (and_then (join_at deeper d n op x b) (chain_at deeper d n j)) (Some (x, c))) other
      go (test_at op b) same = let e : 7 ≡ tie c = sym (tie_test c same) in let other : nat_eq equality (suc n)
          ≡ false = grind (arith, nat_tests) in ap
          (λ v. cond v (and_then (asked_at deeper d op x b) (chain_at deeper d n j)) (Some (x, c))) other
      go neither same = refl

  same_rank : (n : ℕ) → nat_eq n n ≡ true
  same_rank n = grind (arith, nat_tests)

  -- a turn that takes an operator, or asks for a type
  grows : (n j : ℕ) (x : Expr) (m : List Token) (op : Op) (b : List Token) (y : Expr) (c : List Token) → 0 < j
      → leading_operator m ≡ infix_at (suc n) op b → depth x ≤ d → deeper (rank n) b ≡ Some (y, c)
      → (i : ℕ) × (j ≡ suc i) × (chain_at deeper d n j x m ≡ chain_at deeper d n i (t.binary op x y) c)
  unfolding chain_at join_at
  grows n zero x m op b y c pos f le e = absurd (omega arith)
  grows n (suc j) x m op b y c pos f le e = (
    j,
    refl,
    ap (turn deeper d (chain_at deeper d n j) n x m) f
        ∙ ap (λ v. cond v (and_then (join_at deeper d n op x b) (chain_at deeper d n j)) (Some (x, m)))
        (same_rank (suc n))
        ∙ step (chain_at deeper d n j) (ap (λ v. cond v (made (t.binary op x) (deeper (rank n) b)) None)
        (le-leb (depth x) d le) ∙ make (t.binary op x) e),
  )

  asks : (j : ℕ) (x : Expr) (m : List Token) (op : UnOp) (c : List Token) → 0 < j → leading_operator m ≡ test_at op c
      → depth x ≤ d
      → (i : ℕ) × (j ≡ suc i) × (chain_at deeper d 4 j x m ≡ chain_at deeper d 4 i (t.unary op x) c)
  unfolding chain_at asked_at
  asks zero x m op c pos f le = absurd (omega arith)
  asks (suc j) x m op c pos f le = (
    j,
    refl,
    ap (turn deeper d (chain_at deeper d 4 j) 4 x m) f
        ∙ step (chain_at deeper d 4 j) (ap (λ v. cond v (Some (t.unary op x, c)) None) (le-leb (depth x) d le)),
  )

  primary_is_factor : {a c : List Token} {x : Expr} → Derives primary a x c
      → factor_at deeper d a ≡ primary_at deeper d a
  unfolding factor_at
  primary_is_factor e.number = refl
  primary_is_factor e.quoted = refl
  primary_is_factor (e.paren h) = refl
  primary_is_factor e.constant = refl
  primary_is_factor e.return_ = refl
  primary_is_factor (e.call h) = refl
  primary_is_factor e.call_bare = refl
  primary_is_factor e.name = refl

  primary_is_text : {a c : List Token} {x : Expr} → Derives primary a x c
      → which_at deeper d a ≡ made t.by_text (deeper primary a)
  unfolding which_at
  primary_is_text e.number = refl
  primary_is_text e.quoted = refl
  primary_is_text (e.paren h) = refl
  primary_is_text e.constant = refl
  primary_is_text e.return_ = refl
  primary_is_text (e.call h) = refl
  primary_is_text e.call_bare = refl
  primary_is_text e.name = refl

  primary_is_counted : {a c : List Token} {x : Expr} (l : Layer) (ts : List Token) → Derives primary a x c
      → layered_count deeper d (first_kind a) l ts ≡ made t.of_object (inner_ref deeper d ts)
  primary_is_counted l ts e.number = refl
  primary_is_counted l ts e.quoted = refl
  primary_is_counted l ts (e.paren h) = refl
  primary_is_counted l ts e.constant = refl
  primary_is_counted l ts e.return_ = refl
  primary_is_counted l ts (e.call h) = refl
  primary_is_counted l ts e.call_bare = refl
  primary_is_counted l ts e.name = refl

  which_is_counted : {a c : List Token} {w : Which} (l : Layer) (ts : List Token) → DerivesWhich a w c
      → layered_count deeper d (first_kind a) l ts ≡ made t.of_object (inner_ref deeper d ts)
  which_is_counted l ts (e.by_id h) = refl
  which_is_counted l ts (e.by_text h) = primary_is_counted l ts h

  begins_factor : (a : List Token) → is_prefix (first_kind a) ≡ false → prefixed_at deeper d a ≡ factor_at deeper d a
  unfolding prefixed_at
  begins_factor (key k.Minus ∷ ts) f = cc
  begins_factor (key k.Not ∷ ts) f = cc
  begins_factor (key k.There ∷ ts) f = cc
  begins_factor [] f = refl
  begins_factor (x ∷ ts) f = refl

  factor_is_prefixed : {a c : List Token} {x : Expr} → Derives factor a x c
      → prefixed_at deeper d a ≡ factor_at deeper d a
  factor_is_prefixed {a} h = begins_factor a (factor_no_prefix h)

  -- The first tokens tell which form a factor has.
  part_is_factor : {a c : List Token} {p : Part} → DerivesPart a p c
      → factor_at deeper d a ≡ made t.field (field_at deeper d a)
  unfolding factor_at
  part_is_factor (e.part e.no_layer w o) = refl
  part_is_factor (e.part e.on_card w o) = refl
  part_is_factor (e.part e.on_background w o) = refl
  part_is_factor (e.nth_part e.no_layer o) = refl
  part_is_factor (e.nth_part e.on_card o) = refl
  part_is_factor (e.nth_part e.on_background o) = refl

  chunk_is_factor : {a c : List Token} {h : Chunk} → DerivesChunk a h c → factor_at deeper d a ≡ chunk_form deeper d a
  unfolding factor_at
  chunk_is_factor (e.piece i) = refl
  chunk_is_factor (e.pieces i j) = refl
  chunk_is_factor (e.nth_piece {n} {p} {a} {c} f) = elim (past_cases a (key (k.Ordinal n) ∷ key (k.Piece p) ∷ c) f) [
    | inl same ↦ subst (λ v. factor_at deeper d v ≡ chunk_form deeper d v) (sym same) refl
    | inr same ↦ subst (λ v. factor_at deeper d v ≡ chunk_form deeper d v) (sym same) refl
  ]

  number_is_factor : (a m : List Token) → past_the a ≡ key k.Number ∷ m → factor_at deeper d a ≡ number_form deeper d m
  unfolding factor_at
  number_is_factor a m f = elim (past_cases a (key k.Number ∷ m) f) [
    | inl same ↦ subst (λ v. factor_at deeper d v ≡ number_form deeper d m) (sym same) refl
    | inr same ↦ subst (λ v. factor_at deeper d v ≡ number_form deeper d m) (sym same) refl
  ]

  the_is_factor : (w : List ℕ) (ts : List Token)
      → factor_at deeper d (key k.The ∷ token.name w ∷ ts) ≡ the_name deeper d w (token.name w ∷ ts)
  unfolding factor_at
  the_is_factor w ts = refl

  result_goes : (w : List ℕ) (c : List Token) → same_name w (codes "result") ≡ true
      → the_name deeper d w (token.name w ∷ c) ≡ Some (t.result, c)
  result_goes w c f = cond-true (same_name w (codes "result")) _ _ f

  target_goes : (w : List ℕ) (c : List Token) → same_name w (codes "target") ≡ true
      → the_name deeper d w (token.name w ∷ c) ≡ Some (t.target, c)
  target_goes w c f = cond-false (same_name w (codes "result")) _ _ (apart w (codes "target") (codes "result") f refl)
      ∙ cond-true (same_name w (codes "target")) _ _ f

  short_goes : (w : List ℕ) (m : List Token) (p q : Prop) → same_name w (codes "short") ≡ true → prop_front m ≡ Some p
      → short_of p ≡ Some q → the_name deeper d w (token.name w ∷ m) ≡ property_by deeper d (Some q) m
  short_goes w m p q f g i =
      cond-false (same_name w (codes "result")) _ _ (apart w (codes "short") (codes "result") f refl)
      ∙ cond-false (same_name w (codes "target")) _ _ (apart w (codes "short") (codes "target") f refl)
      ∙ cond-true (same_name w (codes "short")) _ _ f
      ∙ ap (λ o. short_by deeper d o m) g
      ∙ ap (λ o. property_by deeper d o m) i

  plain_goes : (w : List ℕ) (ts : List Token) → IsPlain w
      → the_name deeper d w (token.name w ∷ ts)
      ≡ prop_or deeper d (prop_front (token.name w ∷ ts)) w (token.name w ∷ ts)
  plain_goes w ts f = cond-false (same_name w (codes "result")) _ _ f.result
      ∙ cond-false (same_name w (codes "target")) _ _ f.target ∙ cond-false (same_name w (codes "short")) _ _ f.short

  property_goes : (m : List Token) (p : Prop) → prop_front m ≡ Some p
      → factor_at deeper d (key k.The ∷ m) ≡ property_by deeper d (Some p) m
  unfolding factor_at prop_front
  property_goes (token.name w ∷ ts) p f =
      plain_goes w ts (prop_plain w ts p f) ∙ ap (λ o. prop_or deeper d o w (token.name w ∷ ts)) f
  property_goes (key k.Id ∷ ts) p f = ap (λ o. property_by deeper d o (key k.Id ∷ ts)) f
  property_goes m p f = absurd (none-some _ f)

  -- the property of an object, after the words that name it
  property_end : (p : Prop) (m : List Token) {a : List Token} {r : Ref} {c : List Token} → after_of (later m) ≡ Some a
      → inner_ref deeper d a ≡ Some (r, c) → property_by deeper d (Some p) m ≡ Some (t.property p r, c)
  property_end p m o h =
      ap (λ v. made (t.property p) (of_part deeper d (inner_ref deeper d) v)) o ∙ make (t.property p) h

  piece_stops : (p : ChunkKind) (i : Expr) (m : List Token) {b : List Token} → after_of m ≡ Some b
      → piece_by deeper d (first_kind m) p i m ≡ Some (t.piece p i, m)
  piece_stops p i (key k.Of ∷ ts) o = refl
  piece_stops p i (key k.In ∷ ts) o = refl
  piece_stops p i m o = absurd (none-some _ o)

  object_is_counted : {a c : List Token} {r : Ref} → DerivesRef a r c
      → count_at deeper d a ≡ made t.of_object (inner_ref deeper d a)
  unfolding count_at
  object_is_counted e.me = refl
  object_is_counted (e.the_target f) = refl
  object_is_counted e.this_stack = refl
  object_is_counted (e.card e.this) = refl
  object_is_counted (e.card e.next) = refl
  object_is_counted (e.card e.previous) = refl
  object_is_counted (e.card e.nth) = refl
  object_is_counted (e.card (e.which {a = a} w)) = which_is_counted layer.Card (key k.Card ∷ a) w
  object_is_counted (e.background e.this) = refl
  object_is_counted (e.background e.next) = refl
  object_is_counted (e.background e.previous) = refl
  object_is_counted (e.background e.nth) = refl
  object_is_counted (e.background (e.which {a = a} w)) = which_is_counted layer.Background (key k.Background ∷ a) w
  object_is_counted (e.a_part (e.part e.no_layer w o)) = refl
  object_is_counted (e.a_part (e.part e.on_card w o)) = refl
  object_is_counted (e.a_part (e.part e.on_background w o)) = refl
  object_is_counted (e.a_part (e.nth_part l o)) = refl

  card_is_ref : {a c : List Token} {p : Selector} → DerivesSelector k.Card a p c
      → ref_at deeper d a ≡ ref_of_layer deeper d (referenced_layer a) a
  unfolding ref_at
  card_is_ref e.this = refl
  card_is_ref e.next = refl
  card_is_ref e.previous = refl
  card_is_ref e.nth = refl
  card_is_ref (e.which w) = refl

  background_is_ref : {a c : List Token} {p : Selector} → DerivesSelector k.Background a p c
      → ref_at deeper d a ≡ ref_of_layer deeper d (referenced_layer a) a
  unfolding ref_at
  background_is_ref e.this = refl
  background_is_ref e.next = refl
  background_is_ref e.previous = refl
  background_is_ref e.nth = refl
  background_is_ref (e.which w) = refl

  part_is_ref : {a c : List Token} {p : Part} → DerivesPart a p c
      → ref_at deeper d a ≡ ref_of_layer deeper d (referenced_layer a) a
  unfolding ref_at
  part_is_ref (e.part e.no_layer w o) = refl
  part_is_ref (e.part e.on_card w o) = refl
  part_is_ref (e.part e.on_background w o) = refl
  part_is_ref (e.nth_part l o) = refl

  selector_goes : (h : Key) (a : List Token) → is_layer_key h ≡ true
      → selector_at deeper d (key h ∷ a) ≡ made t.which (which_at deeper d a)
  unfolding selector_at
  selector_goes k.Card a f = refl
  selector_goes k.Background a f = refl
  selector_goes h a f = cc

  part_starts : {a b : List Token} {l : Option Layer} {p : PartKind} → DerivesLayer a l (key (k.Part p) ∷ b)
      → part_at deeper d a ≡ and_then (part_front a) (part_end deeper d)
  unfolding part_at
  part_starts e.no_layer = refl
  part_starts e.on_card = refl
  part_starts e.on_background = refl

  owner_stops : (c : List Token) → layer_after (after_of c) ≡ None → owner_at deeper d c ≡ Some (t.no_owner, c)
  unfolding owner_at
  owner_stops c f = go (after_of c) f
    where
      go : (o : Option (List Token)) → layer_after o ≡ None → owner_by deeper d o c ≡ Some (t.no_owner, c)
      go None f = refl
      go (Some b) f = ap (λ l. owner_of_layer deeper d l c b) f

  owner_goes : (m b : List Token) (l : Layer) → after_of m ≡ Some b → referenced_layer b ≡ Some l
      → owner_at deeper d m ≡ owner_of_layer deeper d (Some l) m b
  unfolding owner_at
  owner_goes m b l o h = ap (λ v. owner_by deeper d v m) o ∙ ap (λ l. owner_of_layer deeper d l m b) h

pub front_is_layered : {a b : List Token} {l : Option Layer} {p : PartKind} → DerivesLayer a l (key (k.Part p) ∷ b)
    → part_front a ≡ Some ((l, p), b)
unfolding part_front
front_is_layered e.no_layer = refl
front_is_layered e.on_card = refl
front_is_layered e.on_background = refl

article_complete : {a c : List Token} {n : Bool} → DerivesArticle a n c → article a ≡ Some (n, c)
unfolding article
article_complete (e.an {w} {c} f) = cond-true (is_article w) _ _ f
article_complete (e.no_ {w} {c} f) =
    cond-false (is_article w) _ _ (no_article w f) ∙ cond-true (same_name w (codes "no")) _ _ f
  where
    no_article : (w : List ℕ) → same_name w (codes "no") ≡ true → is_article w ≡ false
    no_article w f = ap (λ v. v || same_name w (codes "an")) (apart w (codes "no") (codes "a") f refl)
        ∙ apart w (codes "no") (codes "an") f refl
article_complete (e.not_an {w} {c} f) = cond-true (is_article w) _ _ f

-- Before an owner the tokens hang as an owner does.
before_owner : {m c : List Token} {o : Owner} → DerivesOwner m o c → 1 < tie c → 0 < tie m
before_owner e.no_owner h = omega arith
before_owner (e.of_card {b} {c} {m} o s) h =
    omega (arith, tie_owner m o (referenced_card s (tie_no_part c (omega arith))))
before_owner (e.of_background {b} {c} {m} o s) h =
    omega (arith, tie_owner m o (referenced_background s (tie_no_part c (omega arith))))

abbrev pub Claim : Level → List Token → Expr → List Token → Type 0
Claim (rank zero) a e c = (d : ℕ) → depth e ≤ suc d → 2 < tie c → rank_at (read d) d 0 a ≡ Some (e, c)
-- The chain has come to the tree, with turns enough for what it may still grow.
Claim (rank (suc n)) a e c = (d : ℕ) → depth e ≤ suc d → n + 2 < tie c
    → (j : ℕ) × (suc (suc d) ≤ j + depth e) × (rank_at (read d) d (suc n) a ≡ chain_at (read d) d n j e c)
Claim power a e c = (d : ℕ) → depth e ≤ suc d → 2 < tie c → power_at (read d) d a ≡ Some (e, c)
Claim prefixed a e c = (d : ℕ) → depth e ≤ suc d → 1 < tie c → prefixed_at (read d) d a ≡ Some (e, c)
Claim factor a e c = (d : ℕ) → depth e ≤ suc d → 1 < tie c → factor_at (read d) d a ≡ Some (e, c)
Claim primary a e c = (d : ℕ) → depth e ≤ suc d → 0 < tie c → primary_at (read d) d a ≡ Some (e, c)

settled : (n : ℕ) (a : List Token) (e : Expr) (c : List Token) → Claim (rank n) a e c → (d : ℕ) → depth e ≤ suc d
    → n + 2 < tie c → rank_at (read d) d n a ≡ Some (e, c)
settled zero a e c h d f t = h d f t
settled (suc n) a e c h d f t =
    let w = h d f (omega arith) in w.2 ∙ chain_stops (read d) d n w.0 e c t (omega (arith, w.1))

pub finish : (p : Level) (a : List Token) (e : Expr) (c : List Token) → Claim p a e c → (d : ℕ) → depth e ≤ d
    → bound p < tie c → read d p a ≡ Some (e, c)
unfolding read level_at
finish p a e c h zero f t = absurd (omega (arith, depth_pos e))
finish (rank n) a e c h (suc d) f t = settled n a e c h d f t
finish power a e c h (suc d) f t = h d f t
finish prefixed a e c h (suc d) f t = h d f t
finish factor a e c h (suc d) f t = h d f t
finish primary a e c h (suc d) f t = h d f t

mutual
  unfolding tie closed list_at primary_at which_at selector_at part_end nth_end part_at field_at ref_at inner_ref
      count_at chunk_at chunk_form number_form factor_at prefixed_at power_at rank_at joined

  pub claim : {p : Level} {a : List Token} {e : Expr} {c : List Token} → Derives p a e c → Claim p a e c
  claim (e.join {n} {a} {b} {c} {m} {op} {x} {y} h f i) = λ d fits s.
      let m_hangs : n + 2 < tie m = omega (arith, tie_infix m f) in
      let w = claim h d (omega arith) m_hangs in
      let v = grows (read d) d n w.0 x m op b y c (omega (arith, w.1)) f (omega arith)
      (finish (rank n) b y c (claim i) d (omega arith) s) in
      (v.0, omega (arith, w.1, v.1), w.2 ∙ v.2)
  claim (e.is_a {a} {c} {m} {op} {x} h f) = λ d fits s.
      let m_hangs : 6 < tie m = omega (arith, tie_test m f) in
      let w = claim h d (omega arith) m_hangs in
      let v = asks (read d) d w.0 x m op c (omega (arith, w.1)) f (omega arith) in
      (v.0, omega (arith, w.1, v.1), w.2 ∙ v.2)
  claim (e.tighter {n} {a} {c} {x} h) = λ d fits s.
      (suc (suc d), omega arith, step (chain_at (read d) d n (suc (suc d))) (settled n a x c (claim h) d fits s))
  claim (e.tightest h) = claim h
  claim (e.raised {a} {b} {c} {x} {y} h i) = λ d fits s.
      let caret : 1 < tie (key k.Caret ∷ b) = omega arith in
      step (power_end (read d) d) (claim h d (omega arith) caret)
      ∙ power_takes (read d) d x b y c (omega arith) (finish power b y c (claim i) d (omega arith) s)
  claim (e.not_raised {a} {c} {x} h) =
      λ d fits s. step (power_end (read d) d) (claim h d fits (omega arith)) ∙ power_stops (read d) d x c s
  claim (e.minus {a} {c} {x} h) =
      λ d fits s. make (t.unary un.Minus) (finish prefixed a x c (claim h) d (omega arith) s)
  claim (e.not_ {a} {c} {x} h) = λ d fits s. make (t.unary un.Not) (finish prefixed a x c (claim h) d (omega arith) s)
  claim (e.there_is {a} {b} {c} {n} {r} f h) = λ d fits s.
      step (λ b r. made (t.there_is b) (inner_ref (read d) d r)) (article_complete f)
      ∙ make (t.there_is n) (fits_in (read d) d ref_depth (claim_ref h d (omega arith) s) (omega arith))
  claim (e.no_prefix h) = λ d fits s. factor_is_prefixed (read d) d h ∙ claim h d fits s
  claim (e.no_form h) = λ d fits s. primary_is_factor (read d) d h ∙ claim h d fits (omega arith)
  claim (e.chunk {a} {b} {c} {m} {h} {x} g o f) = λ d fits s.
      let m_hangs : 9 < tie m = omega (arith, tie_of m o (factor_no_layer f)) in
      chunk_is_factor (read d) d g
      ∙ step (λ h r. made (t.chunk h) (of_part (read d) d (read d factor) (after_of r)))
      (claim_chunk g d (omega arith) m_hangs b o)
      ∙ ap (λ v. made (t.chunk h) (of_part (read d) d (read d factor) v)) o
      ∙ make (t.chunk h) (finish factor b x c (claim f) d (omega arith) s)
  claim (e.field {a} {c} {p} h f) = λ d fits s.
      part_is_factor (read d) d h ∙ make t.field
      (step (λ p. if_field (kind_of_part p) p) (claim_part h d fits s) ∙ ap (λ k. if_field k p c) f)
  claim (e.result {w} {c} f) = λ d fits s. the_is_factor (read d) d w c ∙ result_goes (read d) d w c f
  claim (e.target {w} {c} f) = λ d fits s. the_is_factor (read d) d w c ∙ target_goes (read d) d w c f
  claim (e.number_of {a} {b} {c} {m} {n} f o h) = λ d fits s.
      number_is_factor (read d) d a m f
      ∙ ap (λ v. made t.number_of (of_part (read d) d (count_at (read d) d) v)) o
      ∙ make t.number_of (claim_count h d (omega arith) s)
  claim (e.property {b} {c} {m} {p} {r} f o h) = λ d fits s.
      property_goes (read d) d m p f ∙ property_end (read d) d p m o
      (fits_in (read d) d ref_depth (claim_ref h d (omega arith) s) (omega arith))
  claim (e.short_property {w} {b} {c} {m} {p} {q} {r} f g i o h) = λ d fits s.
      the_is_factor (read d) d w m ∙ short_goes (read d) d w m p q f g i
      ∙ property_end (read d) d q m o (fits_in (read d) d ref_depth (claim_ref h d (omega arith) s) (omega arith))
  claim (e.run_property {w} {c} {p} f) = λ d fits s.
      the_is_factor (read d) d w c ∙ plain_goes (read d) d w c (run_plain w p f)
      ∙ ap (λ v. prop_or (read d) d v w (token.name w ∷ c)) (run_no_prop w c p f)
      ∙ ap (λ v. run_by (read d) d v w (token.name w ∷ c)) f
  claim (e.function {w} {b} {c} {m} {f} {x} g o h) = λ d fits s.
      the_is_factor (read d) d w m ∙ plain_goes (read d) d w m (function_plain w f g)
      ∙ ap (λ v. prop_or (read d) d v w (token.name w ∷ m)) (function_no_prop w m f g)
      ∙ ap (λ v. run_by (read d) d v w (token.name w ∷ m)) (function_no_run w f g)
      ∙ ap (λ v. function_by (read d) d v (token.name w ∷ m)) g
      ∙ ap (λ v. made (t.function f) (of_part (read d) d (read d factor) v)) o
      ∙ make (t.function f) (finish factor b x c (claim h) d (omega arith) s)
  claim e.number = λ d fits s. refl
  claim e.quoted = λ d fits s. refl
  claim (e.paren {a} {c} {x} h) = λ d fits s. step (λ x. closed (t.paren x))
      (finish whole a x (key k.RightParen ∷ c) (claim h) d (omega arith) (loose_close c))
  claim e.constant = λ d fits s. refl
  claim e.return_ = λ d fits s. refl
  claim (e.call {w} {a} {c} {xs} h) = λ d fits s.
      call_goes (read d) d w a (list_begins h)
      ∙ step (λ xs. closed (t.call w xs))
      (claim_list h d (omega arith) (loose_close c) refl (length a) none (omega arith))
  claim e.call_bare = λ d fits s. refl
  claim (e.name {w} {c}) = λ d fits s. name_stops (read d) d w c s

  pub claim_list : {a : List Token} {xs : Exprs} {c : List Token} → DerivesList a xs c → (d : ℕ) → depths xs ≤ d
      → 9 < tie c → is_comma c ≡ false → (n : ℕ) (found : Exprs) → length a ≤ n
      → list_at (read d) d n found a ≡ Some (joined found xs, c)
  claim_list (e.alone {a} {c} {x} h) = λ d fits s nc n found le.
      let v = list_step (read d) d n found a x c (omega (arith, shorter h))
      (finish whole a x c (claim h) d (omega arith) s) in
      v.2 ∙ list_stops (read d) d (list_at (read d) d v.0) (snoc found x) c nc
      ∙ ap (λ xs. Some (xs, c)) (snoc_joined found x)
  claim_list (e.followed {a} {b} {c} {x} {xs} h i) = λ d fits s nc n found le.
      let v = list_step (read d) d n found a x (key k.CommaSign ∷ b) (omega (arith, shorter h))
      (finish whole a x (key k.CommaSign ∷ b) (claim h) d (omega arith) (loose_comma b)) in
      v.2 ∙ claim_list i d (omega arith) s nc v.0 (snoc found x) (omega (arith, v.1, shorter h))
      ∙ ap (λ v. Some (v, c)) (joined_snoc found x xs)

  pub claim_chunk : {a : List Token} {h : Chunk} {c : List Token} → DerivesChunk a h c → (d : ℕ) → chunk_depth h ≤ d
      → 9 < tie c → (b : List Token) → after_of c ≡ Some b → chunk_at (read d) d a ≡ Some (h, c)
  claim_chunk (e.piece {p} {a} {c} {i} h) = λ d fits s b o.
      step (λ i r. piece_by (read d) d (first_kind r) p i r) (finish whole a i c (claim h) d fits s)
      ∙ piece_stops (read d) d p i c o
  claim_chunk (e.pieces {p} {a} {b} {c} {i} {j} h l) = λ d fits s m o.
      step (λ i r. piece_by (read d) d (first_kind r) p i r)
      (finish whole a i (key k.To ∷ b) (claim h) d (omega arith) (loose_to b))
      ∙ make (t.pieces p i) (finish whole b j c (claim l) d (omega arith) s)
  claim_chunk (e.nth_piece {n} {p} {a} {c} f) =
      λ d fits s b o. elim (past_cases a (key (k.Ordinal n) ∷ key (k.Piece p) ∷ c) f) [
        | inl same ↦ subst (λ v. chunk_at (read d) d v ≡ Some (t.nth_piece n p, c)) (sym same) refl
        | inr same ↦ subst (λ v. chunk_at (read d) d v ≡ Some (t.nth_piece n p, c)) (sym same) refl
      ]

  pub claim_count : {a : List Token} {n : Count} {c : List Token} → DerivesCount a n c → (d : ℕ) → count_depth n ≤ d
      → 1 < tie c → count_at (read d) d a ≡ Some (n, c)
  claim_count (e.pieces_of {p} {b} {c} {m} {x} o h) = λ d fits s.
      ap (λ v. made (t.pieces_of p) (of_part (read d) d (read d factor) v)) o
      ∙ make (t.pieces_of p) (finish factor b x c (claim h) d fits s)
  claim_count e.cards = λ d fits s. refl
  claim_count e.backgrounds = λ d fits s. refl
  claim_count (e.parts e.no_layer) = λ d fits s. refl
  claim_count (e.parts e.on_card) = λ d fits s. refl
  claim_count (e.parts e.on_background) = λ d fits s. refl
  claim_count (e.of_object h) = λ d fits s. object_is_counted (read d) d h
      ∙ make t.of_object (fits_in (read d) d ref_depth (claim_ref h d (omega arith) s) fits)

  pub claim_ref : {a : List Token} {r : Ref} {c : List Token} → DerivesRef a r c → (d : ℕ) → ref_depth r ≤ suc d
      → 1 < tie c → ref_at (read d) d a ≡ Some (r, c)
  claim_ref e.me = λ d fits s. refl
  claim_ref (e.the_target {w} {c} f) = λ d fits s. cond-true (same_name w (codes "target")) _ _ f
  claim_ref e.this_stack = λ d fits s. refl
  claim_ref (e.card {a} {c} {p} h) = λ d fits s.
      card_is_ref (read d) d h ∙ ap (λ l. ref_of_layer (read d) d l a) (referenced_card h (tie_no_part c (omega arith)))
      ∙ make t.card (claim_selector h refl d (omega arith) (omega arith))
  claim_ref (e.background {a} {c} {p} h) = λ d fits s.
      background_is_ref (read d) d h ∙ ap (λ l. ref_of_layer (read d) d l a)
      (referenced_background h (tie_no_part c (omega arith)))
      ∙ make t.background (claim_selector h refl d (omega arith) (omega arith))
  claim_ref (e.a_part {a} {c} {p} h) = λ d fits s.
      part_is_ref (read d) d h ∙ ap (λ l. ref_of_layer (read d) d l a) (part_no_layer h)
      ∙ make t.a_part (claim_part h d fits s)

  pub claim_selector : {h : Key} {a : List Token} {p : Selector} {c : List Token}
      → DerivesSelector h a p c → is_layer_key h ≡ true → (d : ℕ) → selector_depth p ≤ d → 0 < tie c
      → selector_at (read d) d a ≡ Some (p, c)
  claim_selector e.this = λ f d fits s. refl
  claim_selector e.next = λ f d fits s. refl
  claim_selector e.previous = λ f d fits s. refl
  claim_selector e.nth = λ f d fits s. refl
  claim_selector (e.which {h} {a} {c} {w} g) =
      λ f d fits s. selector_goes (read d) d h a f ∙ make t.which (claim_which g d fits s)

  pub claim_which : {a : List Token} {w : Which} {c : List Token} → DerivesWhich a w c → (d : ℕ) → which_depth w ≤ d
      → 0 < tie c → which_at (read d) d a ≡ Some (w, c)
  claim_which (e.by_id {a} {c} {x} h) = λ d fits s. make t.by_id (finish primary a x c (claim h) d fits s)
  claim_which (e.by_text {a} {c} {x} h) =
      λ d fits s. primary_is_text (read d) d h ∙ make t.by_text (finish primary a x c (claim h) d fits s)

  pub claim_part : {a : List Token} {p : Part} {c : List Token} → DerivesPart a p c → (d : ℕ) → part_depth p ≤ suc d
      → 1 < tie c → part_at (read d) d a ≡ Some (p, c)
  claim_part (e.part {p} {a} {b} {c} {m} {l} {w} {o} f g h) = λ d fits s.
      part_starts (read d) d f
      ∙ step (part_end (read d) d) (front_is_layered f)
      ∙ step (λ w r. made (t.part l p w) (owner_at (read d) d r)) (claim_which g d (omega arith) (before_owner h s))
      ∙ make (t.part l p w) (claim_owner h d (omega arith) s)
  claim_part (e.nth_part {n} {p} {a} {c} {m} {l} {o} f h) = λ d fits s.
      step (nth_end (read d) d n) (front_is_layered f) ∙ make (t.nth_part n l p) (claim_owner h d (omega arith) s)

  pub claim_owner : {m : List Token} {o : Owner} {c : List Token} → DerivesOwner m o c → (d : ℕ) → owner_depth o ≤ d
      → 1 < tie c → owner_at (read d) d m ≡ Some (o, c)
  claim_owner (e.no_owner {c}) = λ d fits s. owner_stops (read d) d c (tie_no_owner c s)
  claim_owner (e.of_card {b} {c} {m} {p} o h) = λ d fits s.
      owner_goes (read d) d m b layer.Card o (referenced_card h (tie_no_part c (omega arith)))
      ∙ make t.on_card (fits_in (read d) d (λ p. suc (selector_depth p))
      (claim_selector h refl d (omega arith) (omega arith)) fits)
  claim_owner (e.of_background {b} {c} {m} {p} o h) = λ d fits s.
      owner_goes (read d) d m b layer.Background o (referenced_background h (tie_no_part c (omega arith)))
      ∙ make t.on_background (fits_in (read d) d (λ p. suc (selector_depth p))
      (claim_selector h refl d (omega arith) (omega arith)) fits)

-- What is in the grammar, and not deeper than this, is read.
pub read_complete : (d : ℕ) (ts : List Token) (e : Expr) → Derives whole ts e [] → depth e ≤ d
    → read d whole ts ≡ Some (e, [])
read_complete d ts e h fits = finish whole ts e [] (claim h) d fits loose_end

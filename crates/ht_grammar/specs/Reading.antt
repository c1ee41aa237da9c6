-- Reading expressions and references, as a function on lists of tokens: a tree and the tokens after it. The laws tie it
-- to the rules.
use Rattle.std.specs.Prelude.{ℕ, zero, suc, List, [], ◌∷◌, length, Bool, true, false, Option, Some, None}
use Rattle.std.specs.Prelude.{if◌then◌else◌, nat_eq, nat_le, codes}
use Rattle.ht_lex.specs.declared.key.Key.TheVariants as k
use Rattle.ht_lex.specs.declared.key.TokenKind.{TokenKind}
use Rattle.ht_lex.specs.declared.key.TokenKind.TheVariants as kind
use Rattle.ht_values.specs.declared.word.ChunkKind.{ChunkKind}
use Rattle.ht_values.specs.declared.word.PartKind.{PartKind}
use Rattle.ht_values.specs.declared.word.PartKind.TheVariants as part_kind
use Rattle.ht_lex.specs.declared.key.Ordinal.{Ordinal}
use Rattle.ht_lex.specs.Token.{Token, first_kind, first_text, later}
use Rattle.ht_values.specs.declared.operator.Op.{Op}
use Rattle.ht_values.specs.declared.operator.Op.TheVariants as o
use Rattle.ht_values.specs.declared.operator.UnOp.TheVariants as un
use Rattle.ht_values.specs.declared.operator.UnOp.{UnOp}
use Rattle.ht_values.specs.declared.word.Prop.{Prop}
use Rattle.ht_grammar.specs.declared.vocabulary.RunProp.{RunProp}
use Rattle.ht_grammar.specs.declared.vocabulary.FunctionWord.{FunctionWord}
use Rattle.ht_grammar.specs.declared.vocabulary.Layer.{Layer}
use Rattle.ht_grammar.specs.declared.vocabulary.Layer.TheVariants as layer
use Rattle.ht_grammar.specs.Trees.{Expr, Exprs, Chunk, Which, Selector, Owner, Part, Ref, Count, none, more}
use Rattle.ht_grammar.specs.Trees as t
use Rattle.ht_grammar.specs.Depth.{depth, selector_depth, ref_depth, max_depth}
use Rattle.ht_grammar.specs.Fronts.{LeadingOperator, infix_at, test_at, neither, leading_operator, equality, after_of}
use Rattle.ht_grammar.specs.Fronts.{same_name, is_article, prop_front, short_of, run_prop, function_of}
use Rattle.ht_grammar.specs.Expressions.{Level, rank, power, prefixed, factor, primary, whole}

abbrev pub Outcome : Type 0 → Type 0
Outcome A = Option (A × List Token)

abbrev pub Parser : Type 0 → Type 0
Parser A = List Token → Outcome A

abbrev pub and_then : {A B : Type 0} → Outcome A → (A → Parser B) → Outcome B
and_then None f = None
and_then (Some p) f = f p.0 p.1

-- a tree made of a part
abbrev pub made : {A B : Type 0} → (A → B) → Outcome A → Outcome B
made f None = None
made f (Some p) = Some (f p.0, p.1)

-- a list with an expression at its end
abbrev pub snoc : Exprs → Expr → Exprs
snoc none x = more x none
snoc (more y ys) x = more y (snoc ys x)

abbrev pub closed_by : {A : Type 0} → Option TokenKind → A → Parser A
closed_by (Some (kind.Key k.RightParen)) x ts = Some (x, later ts)
closed_by _ x ts = None

unfoldable pub closed : {A : Type 0} → A → Parser A
closed x ts = closed_by (first_kind ts) x ts

-- What stands before `card` or `background`, or before a part. A card's own word is before its number or name.
abbrev pub layer_by : Option TokenKind → Option Layer
layer_by (Some (kind.Key k.Card)) = Some layer.Card
layer_by (Some (kind.Key k.Background)) = Some layer.Background
layer_by _ = None

abbrev pub part_kind_by : Option TokenKind → Option PartKind
part_kind_by (Some (kind.Key (k.Part p))) = Some p
part_kind_by _ = None

abbrev pub unless_part : Option TokenKind → Option Layer → Option Layer
unless_part (Some (kind.Key (k.Part p))) l = None
unless_part _ l = l

-- Whether a card or a background is referred to, and not a part on that layer.
abbrev pub referenced_layer_by : Option TokenKind → List Token → Option Layer
referenced_layer_by (Some (kind.Key k.Card)) ts = unless_part (first_kind ts) (Some layer.Card)
referenced_layer_by (Some (kind.Key k.Background)) ts = unless_part (first_kind ts) (Some layer.Background)
referenced_layer_by (Some (kind.Key k.This)) ts = layer_by (first_kind ts)
referenced_layer_by (Some (kind.Key k.Next)) ts = layer_by (first_kind ts)
referenced_layer_by (Some (kind.Key k.Previous)) ts = layer_by (first_kind ts)
referenced_layer_by (Some (kind.Key (k.Ordinal n))) ts = unless_part (first_kind (later ts)) (layer_by (first_kind ts))
referenced_layer_by _ ts = None

unfoldable pub referenced_layer : List Token → Option Layer
referenced_layer ts = referenced_layer_by (first_kind ts) (later ts)

-- the layer that is written, the kind of part, and the tokens after them
abbrev pub layered_by : Option PartKind → Option Layer → List Token → Outcome (Option Layer × PartKind)
layered_by None l ts = None
layered_by (Some p) l ts = Some ((l, p), later ts)

abbrev pub part_front_by : Option Layer → List Token → Outcome (Option Layer × PartKind)
part_front_by None ts = layered_by (part_kind_by (first_kind ts)) None ts
part_front_by (Some l) ts = layered_by (part_kind_by (first_kind (later ts))) (Some l) (later ts)

-- `button`, `card field`, and the like
unfoldable pub part_front : Parser (Option Layer × PartKind)
part_front ts = part_front_by (layer_by (first_kind ts)) ts

abbrev pub article_not : Option TokenKind → List ℕ → List Token → Outcome Bool
article_not (Some kind.Name) w ts = if is_article w then Some (true, ts) else None
article_not _ w ts = None

abbrev pub article_by : Option TokenKind → List ℕ → List Token → Outcome Bool
article_by (Some kind.Name) w ts =
    if is_article w then Some (false, ts) else if same_name w (codes "no") then Some (true, ts) else None
article_by (Some (kind.Key k.Not)) w ts = article_not (first_kind ts) (first_text ts) (later ts)
article_by _ w ts = None

-- after `there is`
unfoldable pub article : Parser Bool
article ts = article_by (first_kind ts) (first_text ts) (later ts)

-- a part, if it is a field
abbrev pub if_field : PartKind → Part → Parser Part
if_field part_kind.Field p ts = Some (p, ts)
if_field part_kind.Button p ts = None

-- The first argument reads the parts, with trees of at most d levels.
module _ (deeper : Level → Parser Expr) (d : ℕ) where
  -- a tree, unless it has more levels than the parts may have
  abbrev pub fitting : {A : Type 0} → (A → ℕ) → Outcome A → Outcome A
  fitting height None = None
  fitting height (Some p) = if nat_le (height p.0) d then Some p else None

  -- The part of the grammar after `of`.
  abbrev pub of_part : {A : Type 0} → Parser A → Option (List Token) → Outcome A
  of_part read None = None
  of_part read (Some ts) = read ts

  abbrev pub list_more : (Exprs → Parser Exprs) → Option TokenKind → Exprs → Parser Exprs
  list_more again (Some (kind.Key k.CommaSign)) found ts = again found (later ts)
  list_more again _ found ts = Some (found, ts)

  -- The number bounds the turns; the expressions are those found so far.
  unfoldable pub list_at : ℕ → Exprs → Parser Exprs
  list_at zero found ts = None
  list_at (suc n) found ts = and_then (deeper whole ts) (λ x r. list_more (list_at n) (first_kind r) (snoc found x) r)

  abbrev pub call_by : Option TokenKind → List ℕ → Parser Expr
  call_by (Some (kind.Key k.RightParen)) w ts = Some (t.call w none, later ts)
  call_by _ w ts = and_then (list_at (length ts) none ts) (λ xs. closed (t.call w xs))

  abbrev pub named_by : Option TokenKind → List ℕ → Parser Expr
  named_by (Some (kind.Key k.LeftParen)) w ts = call_by (first_kind (later ts)) w (later ts)
  named_by _ w ts = Some (t.name w, ts)

  abbrev pub primary_by : Option TokenKind → Parser Expr
  primary_by (Some kind.Number) ts = Some (t.number (first_text ts), later ts)
  primary_by (Some kind.Quoted) ts = Some (t.quoted (first_text ts), later ts)
  primary_by (Some kind.Name) ts = named_by (first_kind (later ts)) (first_text ts) (later ts)
  primary_by (Some (kind.Key k.LeftParen)) ts = and_then (deeper whole (later ts)) (λ x. closed (t.paren x))
  primary_by (Some (kind.Key (k.Constant n))) ts = Some (t.constant n, later ts)
  primary_by (Some (kind.Key k.Return)) ts = Some (t.return_, later ts)
  primary_by _ ts = None

  unfoldable pub primary_at : Parser Expr
  primary_at ts = primary_by (first_kind ts) ts

  abbrev pub which_by : Option TokenKind → Parser Which
  which_by (Some (kind.Key k.Id)) ts = made t.by_id (deeper primary (later ts))
  which_by _ ts = made t.by_text (deeper primary ts)

  unfoldable pub which_at : Parser Which
  which_at ts = which_by (first_kind ts) ts

  -- Of what `referenced_layer` found: the layer's word is the second token, or the first.
  abbrev pub selector_by : Option TokenKind → Parser Selector
  selector_by (Some (kind.Key k.This)) ts = Some (t.this, later (later ts))
  selector_by (Some (kind.Key k.Next)) ts = Some (t.next, later (later ts))
  selector_by (Some (kind.Key k.Previous)) ts = Some (t.previous, later (later ts))
  selector_by (Some (kind.Key (k.Ordinal n))) ts = Some (t.nth n, later (later ts))
  selector_by _ ts = made t.which (which_at (later ts))

  unfoldable pub selector_at : Parser Selector
  selector_at ts = selector_by (first_kind ts) ts

  abbrev pub owner_of_layer : Option Layer → List Token → Parser Owner
  owner_of_layer None before ts = Some (t.no_owner, before)
  owner_of_layer (Some layer.Card) before ts = made t.on_card (fitting (λ p. suc (selector_depth p)) (selector_at ts))
  owner_of_layer (Some layer.Background) before ts =
      made t.on_background (fitting (λ p. suc (selector_depth p)) (selector_at ts))

  abbrev pub owner_by : Option (List Token) → Parser Owner
  owner_by None before = Some (t.no_owner, before)
  owner_by (Some ts) before = owner_of_layer (referenced_layer ts) before ts

  -- After `of` or `in` an owner comes only where a card or a background does, and no part on it.
  unfoldable pub owner_at : Parser Owner
  owner_at ts = owner_by (after_of ts) ts

  unfoldable pub part_end : Option Layer × PartKind → Parser Part
  part_end f ts = and_then (which_at ts) (λ w r. made (t.part f.0 f.1 w) (owner_at r))

  unfoldable pub nth_end : Ordinal → Option Layer × PartKind → Parser Part
  nth_end n f ts = made (t.nth_part n f.0 f.1) (owner_at ts)

  abbrev pub part_by : Option TokenKind → Parser Part
  part_by (Some (kind.Key (k.Ordinal n))) ts = and_then (part_front (later ts)) (nth_end n)
  part_by _ ts = and_then (part_front ts) part_end

  unfoldable pub part_at : Parser Part
  part_at ts = part_by (first_kind ts) ts

  -- a field
  unfoldable pub field_at : Parser Part
  field_at ts = and_then (part_at ts) (λ p. if_field (t.kind_of_part p) p)

  abbrev pub ref_of_layer : Option Layer → Parser Ref
  ref_of_layer (Some layer.Card) ts = made t.card (selector_at ts)
  ref_of_layer (Some layer.Background) ts = made t.background (selector_at ts)
  ref_of_layer None ts = made t.a_part (part_at ts)

  abbrev pub target_by : Option TokenKind → List Token → Outcome Ref
  target_by (Some kind.Name) ts =
      if same_name (first_text ts) (codes "target") then Some (t.the_target, later ts) else None
  target_by _ ts = None

  abbrev pub this_by : Option TokenKind → Parser Ref
  this_by (Some (kind.Key k.Stack)) ts = Some (t.this_stack, later (later ts))
  this_by _ ts = ref_of_layer (referenced_layer ts) ts

  abbrev pub ref_by : Option TokenKind → Parser Ref
  ref_by (Some (kind.Key k.Me)) ts = Some (t.me, later ts)
  ref_by (Some (kind.Key k.The)) ts = target_by (first_kind (later ts)) (later ts)
  ref_by (Some (kind.Key k.This)) ts = this_by (first_kind (later ts)) ts
  ref_by _ ts = ref_of_layer (referenced_layer ts) ts

  unfoldable pub ref_at : Parser Ref
  ref_at ts = ref_by (first_kind ts) ts

  -- a reference that is a part of something
  unfoldable pub inner_ref : Parser Ref
  inner_ref ts = fitting ref_depth (ref_at ts)

  -- With a layer's word in front: parts of that layer, or an object.
  abbrev pub layered_count : Option TokenKind → Layer → Parser Count
  layered_count (Some (kind.Key (k.Parts p))) l ts = Some (t.parts (Some l) p, later (later ts))
  layered_count _ l ts = made t.of_object (inner_ref ts)

  abbrev pub count_by : Option TokenKind → Parser Count
  count_by (Some (kind.Key (k.Pieces p))) ts = made (t.pieces_of p) (of_part (deeper factor) (after_of (later ts)))
  count_by (Some (kind.Key k.Cards)) ts = Some (t.cards, later ts)
  count_by (Some (kind.Key k.Backgrounds)) ts = Some (t.backgrounds, later ts)
  count_by (Some (kind.Key (k.Parts p))) ts = Some (t.parts None p, later ts)
  count_by (Some (kind.Key k.Card)) ts = layered_count (first_kind (later ts)) layer.Card ts
  count_by (Some (kind.Key k.Background)) ts = layered_count (first_kind (later ts)) layer.Background ts
  count_by _ ts = made t.of_object (inner_ref ts)

  unfoldable pub count_at : Parser Count
  count_at ts = count_by (first_kind ts) ts

  abbrev pub piece_by : Option TokenKind → ChunkKind → Expr → Parser Chunk
  piece_by (Some (kind.Key k.To)) p i ts = made (t.pieces p i) (deeper whole (later ts))
  piece_by _ p i ts = Some (t.piece p i, ts)

  abbrev pub nth_by : Option TokenKind → Ordinal → Parser Chunk
  nth_by (Some (kind.Key (k.Piece p))) n ts = Some (t.nth_piece n p, later ts)
  nth_by _ n ts = None

  abbrev pub ordinal_by : Option TokenKind → Parser Chunk
  ordinal_by (Some (kind.Key (k.Ordinal n))) ts = nth_by (first_kind (later ts)) n (later ts)
  ordinal_by _ ts = None

  abbrev pub chunk_by : Option TokenKind → Parser Chunk
  chunk_by (Some (kind.Key (k.Piece p))) ts = and_then (deeper whole (later ts)) (λ i r. piece_by (first_kind r) p i r)
  chunk_by (Some (kind.Key k.The)) ts = ordinal_by (first_kind (later ts)) (later ts)
  chunk_by kind ts = ordinal_by kind ts

  -- the head of a chunk
  unfoldable pub chunk_at : Parser Chunk
  chunk_at ts = chunk_by (first_kind ts) ts

  unfoldable pub chunk_form : Parser Expr
  chunk_form ts = and_then (chunk_at ts) (λ h r. made (t.chunk h) (of_part (deeper factor) (after_of r)))

  -- after `number`
  unfoldable pub number_form : Parser Expr
  number_form ts = made t.number_of (of_part count_at (after_of ts))

  abbrev pub property_by : Option Prop → Parser Expr
  property_by None ts = None
  property_by (Some p) ts = made (t.property p) (of_part inner_ref (after_of (later ts)))

  abbrev pub short_by : Option Prop → Parser Expr
  short_by None ts = None
  short_by (Some p) ts = property_by (short_of p) ts

  abbrev pub function_by : Option FunctionWord → Parser Expr
  function_by None ts = None
  function_by (Some f) ts = made (t.function f) (of_part (deeper factor) (after_of (later ts)))

  abbrev pub run_by : Option RunProp → List ℕ → Parser Expr
  run_by None w ts = function_by (function_of w) ts
  run_by (Some p) w ts = Some (t.run_property p, later ts)

  abbrev pub prop_or : Option Prop → List ℕ → Parser Expr
  prop_or None w ts = run_by (run_prop w) w ts
  prop_or (Some p) w ts = property_by (Some p) ts

  -- after `the`, at a name
  abbrev pub the_name : List ℕ → Parser Expr
  the_name w ts =
      if same_name w (codes "result") then Some (t.result, later ts)
      else if same_name w (codes "target") then Some (t.target, later ts)
      else if same_name w (codes "short") then short_by (prop_front (later ts)) (later ts)
      else prop_or (prop_front ts) w ts

  abbrev pub the_by : Option TokenKind → List Token → Parser Expr
  the_by (Some (kind.Key k.Number)) before ts = number_form (later ts)
  the_by (Some (kind.Key k.Id)) before ts = property_by (prop_front ts) ts
  the_by (Some kind.Name) before ts = the_name (first_text ts) ts
  the_by _ before ts = chunk_form before

  abbrev pub ordinal_form : Option TokenKind → Parser Expr
  ordinal_form (Some (kind.Key (k.Piece p))) ts = chunk_form ts
  ordinal_form _ ts = made t.field (field_at ts)

  abbrev pub factor_by : Option TokenKind → Parser Expr
  factor_by (Some (kind.Key (k.Piece p))) ts = chunk_form ts
  factor_by (Some (kind.Key (k.Ordinal n))) ts = ordinal_form (first_kind (later ts)) ts
  factor_by (Some (kind.Key (k.Part p))) ts = made t.field (field_at ts)
  factor_by (Some (kind.Key k.Card)) ts = made t.field (field_at ts)
  factor_by (Some (kind.Key k.Background)) ts = made t.field (field_at ts)
  factor_by (Some (kind.Key k.Number)) ts = number_form (later ts)
  factor_by (Some (kind.Key k.The)) ts = the_by (first_kind (later ts)) ts (later ts)
  factor_by _ ts = primary_at ts

  unfoldable pub factor_at : Parser Expr
  factor_at ts = factor_by (first_kind ts) ts

  abbrev pub there_by : Option TokenKind → Parser Expr
  there_by (Some (kind.Key k.Is)) ts = and_then (article (later ts)) (λ b r. made (t.there_is b) (inner_ref r))
  there_by _ ts = None

  abbrev pub prefixed_by : Option TokenKind → Parser Expr
  prefixed_by (Some (kind.Key k.Minus)) ts = made (t.unary un.Minus) (deeper prefixed (later ts))
  prefixed_by (Some (kind.Key k.Not)) ts = made (t.unary un.Not) (deeper prefixed (later ts))
  prefixed_by (Some (kind.Key k.There)) ts = there_by (first_kind (later ts)) (later ts)
  prefixed_by _ ts = factor_at ts

  unfoldable pub prefixed_at : Parser Expr
  prefixed_at ts = prefixed_by (first_kind ts) ts

  abbrev pub power_by : Option TokenKind → Expr → Parser Expr
  power_by (Some (kind.Key k.Caret)) x ts =
      if nat_le (depth x) d then made (t.binary o.Power x) (deeper power (later ts)) else None
  power_by _ x ts = Some (x, ts)

  unfoldable pub power_end : Expr → Parser Expr
  power_end x ts = power_by (first_kind ts) x ts

  unfoldable pub power_at : Parser Expr
  power_at ts = and_then (prefixed_at ts) power_end

  -- after an operator of rank n + 1
  unfoldable pub join_at : ℕ → Op → Expr → Parser Expr
  join_at n op x ts = if nat_le (depth x) d then made (t.binary op x) (deeper (rank n) ts) else None

  -- after `is a number`
  unfoldable pub asked_at : UnOp → Expr → Parser Expr
  asked_at op x ts = if nat_le (depth x) d then Some (t.unary op x, ts) else None

  -- one turn of a chain, of rank n + 1
  abbrev pub turn : (Expr → Parser Expr) → ℕ → Expr → List Token → LeadingOperator → Outcome Expr
  turn again n x ts (infix_at r op b) = if nat_eq r (suc n) then and_then (join_at n op x b) again else Some (x, ts)
  turn again n x ts (test_at op c) = if nat_eq equality (suc n) then and_then (asked_at op x c) again else Some (x, ts)
  turn again n x ts neither = Some (x, ts)

  unfoldable pub chain_at : ℕ → ℕ → Expr → Parser Expr
  chain_at n zero x ts = None
  chain_at n (suc j) x ts = turn (chain_at n j) n x ts (leading_operator ts)

  unfoldable pub rank_at : ℕ → Parser Expr
  rank_at zero ts = power_at ts
  rank_at (suc n) ts = and_then (rank_at n ts) (chain_at n (suc (suc d)))

  unfoldable pub level_at : Level → Parser Expr
  level_at (rank n) = rank_at n
  level_at power = power_at
  level_at prefixed = prefixed_at
  level_at factor = factor_at
  level_at primary = primary_at

-- a part of the grammar, with a tree of at most so many levels
unfoldable pub read : ℕ → Level → Parser Expr
read zero p ts = None
read (suc d) p ts = level_at (read d) d p ts

abbrev pub all_of : {A : Type 0} → Outcome A → Option A
all_of None = None
all_of (Some (x, [])) = Some x
all_of (Some (x, t ∷ ts)) = None

-- a whole tree, unless it is too deep
abbrev pub not_too_deep : {A : Type 0} → (A → ℕ) → Option A → Option A
not_too_deep height None = None
not_too_deep height (Some x) = if nat_le (height x) max_depth then Some x else None

-- the expression that the tokens are, all of them
abbrev pub expression : List Token → Option Expr
expression ts = not_too_deep depth (all_of (read max_depth whole ts))

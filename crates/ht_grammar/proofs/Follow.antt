-- What may stand after a part of an expression.
use Rattle.std.proofs.Common.{◌≡◌, ℕ, ◌+◌, ◌<◌, ◌⊎◌, inl, inr, List, [], ◌∷◌, Option, Some, None, refl, sym, ap, ◌∙◌}
use Rattle.std.proofs.Common.{subst, arith}
use Rattle.ht_lex.specs.declared.key.Key.TheVariants as k
use Rattle.ht_lex.specs.declared.key.TokenKind.{TokenKind}
use Rattle.ht_lex.specs.declared.key.TokenKind.TheVariants as kind
use Rattle.ht_lex.specs.Token.{Token, key, first_kind}
use Rattle.ht_values.specs.declared.operator.Op.{Op}
use Rattle.ht_values.specs.declared.operator.UnOp.{UnOp}
use Rattle.ht_grammar.specs.declared.vocabulary.Layer.{Layer}
use Rattle.ht_grammar.specs.Trees.{Expr, Part}
use Rattle.ht_grammar.specs.Trees as t
use Rattle.ht_grammar.specs.Depth.{depth, part_depth}
use Rattle.ht_grammar.specs.Fronts.{LeadingOperator, infix_at, test_at, neither, leading_operator, after_of, past_the}
use Rattle.ht_grammar.specs.Expressions.{Derives, DerivesChunk, DerivesPart, Level, rank, power, prefixed, factor}
use Rattle.ht_grammar.specs.Expressions.{primary}
use Rattle.ht_grammar.specs.Expressions as e
use Rattle.ht_grammar.specs.Reading.{referenced_layer, part_kind_by, unless_part}

-- How loosely the tokens hang on what stands before them: an opening parenthesis or a kind of part 0, an owner 1, `^`
-- 2, an operator by its rank, and nothing 10.
abbrev pub operator_tie : LeadingOperator → ℕ
operator_tie (infix_at r op b) = r + 2
operator_tie (test_at op c) = 7
operator_tie neither = 10

abbrev pub plain_tie : List Token → ℕ
plain_tie (key k.LeftParen ∷ ts) = 0
plain_tie (key (k.Part p) ∷ ts) = 0
plain_tie (key k.Caret ∷ ts) = 2
plain_tie ts = operator_tie (leading_operator ts)

-- the layer of the owner that stands after `of`
abbrev pub layer_after : Option (List Token) → Option Layer
layer_after None = None
layer_after (Some b) = referenced_layer b

abbrev pub owner_tie : List Token → Option Layer → ℕ
owner_tie ts None = plain_tie ts
owner_tie ts (Some l) = 1

unfoldable pub tie : List Token → ℕ
tie ts = owner_tie ts (layer_after (after_of ts))

-- The tokens after a part hang more loosely than this.
abbrev pub bound : Level → ℕ
bound (rank n) = n + 2
bound power = 2
bound prefixed = 1
bound factor = 1
bound primary = 0

pub tie_infix : (m : List Token) {r : ℕ} {op : Op} {b : List Token} → leading_operator m ≡ infix_at r op b
    → tie m ≡ r + 2
unfolding tie leading_operator
tie_infix [] e = cc
tie_infix (key k.Of ∷ ts) e = cc
tie_infix (key k.In ∷ ts) e = cc
tie_infix (key k.LeftParen ∷ ts) e = cc
tie_infix (key (k.Part p) ∷ ts) e = cc
tie_infix (key k.Caret ∷ ts) e = cc
tie_infix (t ∷ ts) e = ap operator_tie e

pub tie_test : (m : List Token) {op : UnOp} {c : List Token} → leading_operator m ≡ test_at op c → tie m ≡ 7
unfolding tie leading_operator
tie_test [] e = cc
tie_test (key k.Of ∷ ts) e = cc
tie_test (key k.In ∷ ts) e = cc
tie_test (key k.LeftParen ∷ ts) e = cc
tie_test (key (k.Part p) ∷ ts) e = cc
tie_test (key k.Caret ∷ ts) e = cc
tie_test (t ∷ ts) e = ap operator_tie e

-- no owner comes where the tokens hang loosely
pub tie_no_owner : (c : List Token) → 1 < tie c → layer_after (after_of c) ≡ None
unfolding tie
tie_no_owner c h = go (layer_after (after_of c)) h
  where
    go : (o : Option Layer) → 1 < owner_tie c o → o ≡ None
    go None h = refl
    go (Some l) h = absurd (omega arith)

pub tie_no_part : (c : List Token) → 0 < tie c → part_kind_by (first_kind c) ≡ None
unfolding tie
tie_no_part (key (k.Part p) ∷ ts) h = absurd (omega arith)
tie_no_part [] h = refl
tie_no_part (t ∷ ts) h = refl

pub tie_of : (m : List Token) {b : List Token} → after_of m ≡ Some b → referenced_layer b ≡ None → tie m ≡ 10
unfolding tie leading_operator
tie_of (key k.Of ∷ ts) {b} e h = let same : ts ≡ b = cc in ap (λ t. owner_tie (key k.Of ∷ ts) (referenced_layer t)) same
    ∙ ap (owner_tie (key k.Of ∷ ts)) h
tie_of (key k.In ∷ ts) {b} e h = let same : ts ≡ b = cc in ap (λ t. owner_tie (key k.In ∷ ts) (referenced_layer t)) same
    ∙ ap (owner_tie (key k.In ∷ ts)) h
tie_of _ e h = cc

pub tie_owner : (m : List Token) {b : List Token} {l : Layer} → after_of m ≡ Some b → referenced_layer b ≡ Some l
    → tie m ≡ 1
unfolding tie
tie_owner m {b} {l} e h = ap (λ o. owner_tie m (layer_after o)) e ∙ ap (owner_tie m) h

pub part_depth_pos : (p : Part) → 0 < part_depth p
part_depth_pos (t.part l p w o) = omega arith
part_depth_pos (t.nth_part n l p o) = omega arith

pub depth_pos : (e : Expr) → 0 < depth e
depth_pos (t.field p) = part_depth_pos p
depth_pos _ = omega arith

-- with a `the` in front, or as it is
pub past_cases : (a m : List Token) → past_the a ≡ m → (a ≡ key k.The ∷ m) ⊎ (a ≡ m)
past_cases (key k.The ∷ ts) m e = inl (ap (λ v. key k.The ∷ v) e)
past_cases a m e = inr e

pub unless_none : (o : Option TokenKind) → unless_part o None ≡ None
unless_none None = refl
unless_none (Some (kind.Key (k.Part p))) = refl
unless_none (Some o) = refl

-- Neither a part nor what a chunk is taken of begins as a card or a background does.
pub part_no_layer : {a c : List Token} {p : Part} → DerivesPart a p c → referenced_layer a ≡ None
unfolding referenced_layer
part_no_layer (e.part e.no_layer w o) = refl
part_no_layer (e.part e.on_card w o) = refl
part_no_layer (e.part e.on_background w o) = refl
part_no_layer (e.nth_part {m = m} e.no_layer o) = unless_none (first_kind m)
part_no_layer (e.nth_part e.on_card o) = refl
part_no_layer (e.nth_part e.on_background o) = refl

pub chunk_no_layer : {a c : List Token} {h : t.Chunk} → DerivesChunk a h c → referenced_layer a ≡ None
unfolding referenced_layer
chunk_no_layer (e.piece i) = refl
chunk_no_layer (e.pieces i j) = refl
chunk_no_layer (e.nth_piece {n} {p} {a} {c} f) = elim (past_cases a (key (k.Ordinal n) ∷ key (k.Piece p) ∷ c) f) [
  | inl same ↦ subst (λ v. referenced_layer v ≡ None) (sym same) refl
  | inr same ↦ subst (λ v. referenced_layer v ≡ None) (sym same) (unless_none (first_kind c))
]

primary_no_layer : {a c : List Token} {x : Expr} → Derives primary a x c → referenced_layer a ≡ None
unfolding referenced_layer
primary_no_layer e.number = refl
primary_no_layer e.quoted = refl
primary_no_layer (e.paren h) = refl
primary_no_layer e.constant = refl
primary_no_layer e.return_ = refl
primary_no_layer (e.call h) = refl
primary_no_layer e.call_bare = refl
primary_no_layer e.name = refl

pub factor_no_layer : {a c : List Token} {x : Expr} → Derives factor a x c → referenced_layer a ≡ None
unfolding referenced_layer
factor_no_layer (e.no_form h) = primary_no_layer h
factor_no_layer (e.chunk h o i) = chunk_no_layer h
factor_no_layer (e.field h f) = part_no_layer h
factor_no_layer (e.result f) = refl
factor_no_layer (e.target f) = refl
factor_no_layer (e.number_of {a = a} {m = m} f o h) = elim (past_cases a (key k.Number ∷ m) f) [
  | inl same ↦ subst (λ v. referenced_layer v ≡ None) (sym same) refl
  | inr same ↦ subst (λ v. referenced_layer v ≡ None) (sym same) refl
]
factor_no_layer (e.property f o h) = refl
factor_no_layer (e.short_property f g i o h) = refl
factor_no_layer (e.run_property f) = refl
factor_no_layer (e.function f o h) = refl

-- What ends an expression hangs on nothing.
pub loose_close : (ts : List Token) → 9 < tie (key k.RightParen ∷ ts)
unfolding tie leading_operator
loose_close ts = omega arith

pub loose_comma : (ts : List Token) → 9 < tie (key k.CommaSign ∷ ts)
unfolding tie leading_operator
loose_comma ts = omega arith

pub loose_to : (ts : List Token) → 9 < tie (key k.To ∷ ts)
unfolding tie leading_operator
loose_to ts = omega arith

pub loose_end : 9 < tie []
unfolding tie leading_operator
loose_end = omega arith

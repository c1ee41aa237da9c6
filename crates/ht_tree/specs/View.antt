-- The trees in memory, as plain trees.
use Rattle.std.specs.Prelude.{◌≡◌, ◌≤◌, ℕ, List, [], ◌∷◌, Result, Ok, Err}
use Rattle.ht_values.specs.Text.{numeral}
use Rattle.ht_tree.specs.declared.call.CallOf.{CallOf}
use Rattle.ht_tree.specs.declared.operators.Unary.{Unary}
use Rattle.ht_tree.specs.declared.operators.Binary.{Binary}
use Rattle.ht_tree.specs.declared.operators.LeftNested.{LeftNested}
use Rattle.ht_tree.specs.declared.operators.RightNested.{RightNested}
use Rattle.ht_tree.specs.declared.operators.Joined.{Joined}
use Rattle.ht_tree.specs.declared.operators.Chain.{Chain}
use Rattle.ht_tree.specs.declared.expr.Exprs.{Exprs}
use Rattle.ht_tree.specs.declared.expr.Form.{Form}
use Rattle.ht_tree.specs.declared.expr.Form.TheVariants as form
use Rattle.ht_tree.specs.declared.expr.ExprForm.{ExprForm}
use Rattle.ht_tree.specs.declared.expr.ExprForm.TheVariants as lent
use Rattle.ht_tree.specs.declared.expr.ExprKind.{ExprKind}
use Rattle.ht_tree.specs.declared.expr.ExprKind.TheVariants as e
use Rattle.ht_tree.specs.declared.chunk.Chunk.{Chunk}
use Rattle.ht_tree.specs.declared.chunk.Chunk.TheVariants as chunk
use Rattle.ht_tree.specs.declared.reference.Which.{Which}
use Rattle.ht_tree.specs.declared.reference.Which.TheVariants as which
use Rattle.ht_tree.specs.declared.reference.Selector.{Selector}
use Rattle.ht_tree.specs.declared.reference.Selector.TheVariants as selector
use Rattle.ht_tree.specs.declared.reference.Owner.{Owner}
use Rattle.ht_tree.specs.declared.reference.Owner.TheVariants as owner
use Rattle.ht_tree.specs.declared.reference.Part.{Part}
use Rattle.ht_tree.specs.declared.reference.Part.TheVariants as part
use Rattle.ht_tree.specs.declared.reference.Ref.{Ref}
use Rattle.ht_tree.specs.declared.reference.Ref.TheVariants as ref
use Rattle.ht_tree.specs.declared.reference.Count.{Count}
use Rattle.ht_tree.specs.declared.reference.Count.TheVariants as count
use Rattle.ht_grammar.specs.Trees as t
use Rattle.ht_grammar.specs.Depth.{depth, max_depth}

abbrev pub exprs_of : List t.Expr → t.Exprs
exprs_of [] = t.none
exprs_of (x ∷ xs) = t.more x (exprs_of xs)

-- the one expression of a list, or else the list
abbrev pub is_only_of : List t.Expr → Result t.Expr Exprs → Type 0
is_only_of xs (Ok x) = xs ≡ x ∷ []
is_only_of xs (Err ys) = ys.items.items ≡ xs

abbrev pub chunk_of : Chunk → t.Chunk
chunk_of (chunk.Piece k x) = t.piece k x
chunk_of (chunk.Pieces k b) = t.pieces k b.value.first b.value.last
chunk_of (chunk.NthPiece n k) = t.nth_piece n k

abbrev pub which_of : Which → t.Which
which_of (which.ById x) = t.by_id x
which_of (which.ByText x) = t.by_text x

abbrev pub selector_of : Selector → t.Selector
selector_of selector.This = t.this
selector_of selector.Next = t.next
selector_of selector.Previous = t.previous
selector_of (selector.Nth n) = t.nth n
selector_of (selector.Which w) = t.which (which_of w)

abbrev pub owner_of : Owner → t.Owner
owner_of owner.NoOwner = t.no_owner
owner_of (owner.OnCard s) = t.on_card (selector_of s.value)
owner_of (owner.OnBackground s) = t.on_background (selector_of s.value)

abbrev pub part_of : Part → t.Part
part_of (part.Plain l k w o) = t.part l k (which_of w) (owner_of o)
part_of (part.Nth n l k o) = t.nth_part n l k (owner_of o)

abbrev pub ref_of : Ref → t.Ref
ref_of ref.Me = t.me
ref_of ref.Target = t.the_target
ref_of ref.ThisStack = t.this_stack
ref_of (ref.Card s) = t.card (selector_of s)
ref_of (ref.Background s) = t.background (selector_of s)
ref_of (ref.Part p) = t.a_part (part_of p)

abbrev pub count_of : Count → t.Count
count_of (count.PiecesOf k x) = t.pieces_of k x
count_of count.Cards = t.cards
count_of count.Backgrounds = t.backgrounds
count_of (count.Parts l k) = t.parts l k
count_of (count.OfObject r) = t.of_object (ref_of r.value)

abbrev pub call_of : CallOf → t.Expr
call_of x = t.call x.name.value (t.more x.argument t.none)

abbrev pub unary_of : Unary → t.Expr
unary_of x = t.unary x.op x.operand

abbrev pub binary_of : Binary → t.Expr
binary_of x = t.binary x.op x.left x.right

abbrev pub left_nested_of : LeftNested → t.Expr
left_nested_of x = t.binary x.second (t.binary x.first x.left x.middle) x.right

abbrev pub right_nested_of : RightNested → t.Expr
right_nested_of x = t.binary x.first x.left (t.binary x.second x.middle x.right)

-- an expression, with operators that join what comes before them
abbrev pub joined_to : t.Expr → List Joined → t.Expr
joined_to x [] = x
joined_to x (j ∷ js) = joined_to (t.binary j.op x j.operand) js

abbrev pub chain_of : Chain → t.Expr
chain_of c = joined_to (t.binary c.op c.left c.right) c.joined.items

-- two operators that are nested from the left, or else the expression
abbrev pub is_left_nested_of : t.Expr → Result LeftNested t.Expr → Type 0
is_left_nested_of x (Ok n) = left_nested_of n ≡ x
is_left_nested_of x (Err y) = y ≡ x

-- an operator with its operands, or else the expression
abbrev pub is_binary_of : t.Expr → Result Binary t.Expr → Type 0
is_binary_of x (Ok b) = binary_of b ≡ x
is_binary_of x (Err y) = y ≡ x

abbrev pub expr_of : ExprKind → t.Expr
expr_of e.Return = t.return_
expr_of (e.Call w xs) = t.call w (exprs_of xs.items.items)
expr_of (e.CallOf w x) = t.call w (t.more x t.none)
expr_of (e.ThereIs b r) = t.there_is b (ref_of r.value)
expr_of (e.Chunk h x) = t.chunk (chunk_of h) x
expr_of (e.Field p) = t.field (part_of p)
expr_of e.Result = t.result
expr_of e.Target = t.target
expr_of (e.NumberOf n) = t.number_of (count_of n)
expr_of (e.Property p r) = t.property p (ref_of r.value)
expr_of (e.RunProperty p) = t.run_property p
expr_of (e.Function f x) = t.function f x

abbrev pub kept_form : Form → t.Expr
kept_form (form.Number n) = t.number (numeral n)
kept_form (form.Digits w) = t.number w.value
kept_form (form.Quoted w) = t.quoted w.value
kept_form (form.Constant c) = t.constant c
kept_form (form.Name w) = t.name w.value
kept_form (form.SharedDigits w) = t.number w.value
kept_form (form.SharedQuoted w) = t.quoted w.value
kept_form (form.Shared w) = t.name w.value
kept_form (form.UnaryOfName op w) = t.unary op (t.name w.value)
kept_form (form.UnaryOfNumber op n) = t.unary op (t.number (numeral n))
kept_form (form.BareCall w) = t.call w.value t.none
kept_form (form.CallOf d x) = call_of x.value
kept_form (form.Paren d x) = t.paren x.value
kept_form (form.Unary d x) = unary_of x.value
kept_form (form.Binary d x) = binary_of x.value
kept_form (form.LeftNested d x) = left_nested_of x.value
kept_form (form.RightNested d x) = right_nested_of x.value
kept_form (form.Chain d x) = chain_of x.value
kept_form (form.Kind d x) = expr_of x.value

abbrev pub form_of : ExprForm → t.Expr
form_of (lent.Number n) = t.number (numeral n)
form_of (lent.Digits w) = t.number w.now
form_of (lent.Quoted w) = t.quoted w.now
form_of (lent.Constant c) = t.constant c
form_of (lent.Name w) = t.name w.now
form_of (lent.UnaryOfName op w) = t.unary op (t.name w.now)
form_of (lent.UnaryOfNumber op n) = t.unary op (t.number (numeral n))
form_of (lent.BareCall w) = t.call w.now t.none
form_of (lent.CallOf x) = call_of x.now
form_of (lent.Paren x) = t.paren x.now
form_of (lent.Unary x) = unary_of x.now
form_of (lent.Binary x) = binary_of x.now
form_of (lent.LeftNested x) = left_nested_of x.now
form_of (lent.RightNested x) = right_nested_of x.now
form_of (lent.Chain x) = chain_of x.now
form_of (lent.Kind x) = expr_of x.now

-- A node knows how deep it is, and isn't too deep.
abbrev pub IsDepthOf : t.Expr → ℕ → Type 0
IsDepthOf x d = (d ≡ depth x) × (d ≤ max_depth)

abbrev pub knows_depth : Form → Type 0
knows_depth (form.CallOf d x) = IsDepthOf (call_of x.value) d
knows_depth (form.Paren d x) = IsDepthOf (t.paren x.value) d
knows_depth (form.Unary d x) = IsDepthOf (unary_of x.value) d
knows_depth (form.Binary d x) = IsDepthOf (binary_of x.value) d
knows_depth (form.LeftNested d x) = IsDepthOf (left_nested_of x.value) d
knows_depth (form.RightNested d x) = IsDepthOf (right_nested_of x.value) d
knows_depth (form.Chain d x) = IsDepthOf (chain_of x.value) d
knows_depth (form.Kind d x) = IsDepthOf (expr_of x.value) d
knows_depth _ = Unit {0}

-- An expression is less deep than those that it is a part of.
use Rattle.std.specs.Prelude.{◌≡◌, ◌+◌, ◌≤◌, max, List, [], ◌∷◌}
use Rattle.std.proofs.Common.{arith, refl}
use denote.Param.Weighed.{most}
use Rattle.ht_tree.specs.declared.expr.Expr.TheDeep.{deep-ExprKind, deep-Chunk, deep-Which, deep-Selector, deep-Owner}
use Rattle.ht_tree.specs.declared.expr.Expr.TheDeep.{deep-Part, deep-Ref, deep-Count, deep-Form}
use Rattle.ht_tree.specs.declared.expr.Expr.TheDeep.{deep-Chain, deep-Joined}
use Rattle.ht_tree.specs.declared.expr.Expr.TheShapes.{weighed-Chain-joined}
use Rattle.ht_tree.specs.declared.operators.Chain.{Chain}
use Rattle.ht_tree.specs.declared.expr.Form.{Form}
use Rattle.ht_tree.specs.declared.expr.Form.TheVariants as form
use Rattle.ht_tree.specs.declared.expr.ExprKind.{ExprKind}
use Rattle.ht_tree.specs.declared.expr.ExprKind.TheVariants as e
use Rattle.ht_tree.specs.declared.chunk.Chunk.{Chunk}
use Rattle.ht_tree.specs.declared.chunk.Chunk.TheVariants as chunk
use Rattle.ht_tree.specs.declared.reference.Which.{Which}
use Rattle.ht_tree.specs.declared.reference.Which.TheVariants as which
use Rattle.ht_tree.specs.declared.reference.Selector.{Selector}
use Rattle.ht_tree.specs.declared.reference.Selector.TheVariants as selector
use Rattle.ht_tree.specs.declared.reference.Owner.{Owner}
use Rattle.ht_tree.specs.declared.reference.Owner.TheVariants as owner
use Rattle.ht_tree.specs.declared.reference.Part.{Part}
use Rattle.ht_tree.specs.declared.reference.Part.TheVariants as part
use Rattle.ht_tree.specs.declared.reference.Ref.{Ref}
use Rattle.ht_tree.specs.declared.reference.Ref.TheVariants as ref
use Rattle.ht_tree.specs.declared.reference.Count.{Count}
use Rattle.ht_tree.specs.declared.reference.Count.TheVariants as count
use Rattle.ht_grammar.specs.Trees as t
use Rattle.ht_grammar.specs.Depth.{depth, depths, chunk_depth, which_depth, selector_depth, owner_depth, part_depth}
use Rattle.ht_grammar.specs.Depth.{ref_depth, count_depth}
use Rattle.ht_tree.specs.View.{exprs_of, chunk_of, which_of, selector_of, owner_of, part_of, ref_of, count_of, expr_of}
use Rattle.ht_tree.specs.declared.operators.Joined.{Joined}
use Rattle.ht_tree.specs.View.{kept_form, joined_to, chain_of}

exprs_fall : (xs : List t.Expr) → most (λ x. depth x + 1) xs ≤ depths (exprs_of xs) + 1
exprs_fall [] = omega arith
exprs_fall (x ∷ xs) = omega (arith, exprs_fall xs)

joined_falls : (x : t.Expr) (js : List Joined) → max (depth x) (most deep-Joined js) ≤ depth (joined_to x js)
joined_falls x [] = omega arith
joined_falls x (j ∷ js) = omega (arith, joined_falls (t.binary j.op x j.operand) js)

chain_falls : (c : Chain) → deep-Chain c ≤ depth (chain_of c)
chain_falls c =
    let weight : weighed-Chain-joined.weight Joined deep-Joined c.joined ≡ most deep-Joined c.joined.items = refl in
    omega (arith, weight, joined_falls (t.binary c.op c.left c.right) c.joined.items)

chunk_falls : (h : Chunk) → deep-Chunk h ≤ chunk_depth (chunk_of h) + 1
chunk_falls (chunk.Piece k x) = omega arith
chunk_falls (chunk.Pieces k b) = omega arith
chunk_falls (chunk.NthPiece n k) = omega arith

which_falls : (w : Which) → deep-Which w ≤ which_depth (which_of w) + 1
which_falls (which.ById x) = omega arith
which_falls (which.ByText x) = omega arith

selector_falls : (p : Selector) → deep-Selector p ≤ selector_depth (selector_of p) + 1
selector_falls selector.This = omega arith
selector_falls selector.Next = omega arith
selector_falls selector.Previous = omega arith
selector_falls (selector.Nth n) = omega arith
selector_falls (selector.Which w) = omega (arith, which_falls w)

owner_falls : (o : Owner) → deep-Owner o ≤ owner_depth (owner_of o)
owner_falls owner.NoOwner = omega arith
owner_falls (owner.OnCard p) = omega (arith, selector_falls p.value)
owner_falls (owner.OnBackground p) = omega (arith, selector_falls p.value)

part_falls : (p : Part) → deep-Part p ≤ part_depth (part_of p)
part_falls (part.Plain l k w o) = omega (arith, which_falls w, owner_falls o)
part_falls (part.Nth n l k o) = omega (arith, owner_falls o)

ref_falls : (r : Ref) → deep-Ref r ≤ ref_depth (ref_of r)
ref_falls ref.Me = omega arith
ref_falls ref.Target = omega arith
ref_falls ref.ThisStack = omega arith
ref_falls (ref.Card p) = omega (arith, selector_falls p)
ref_falls (ref.Background p) = omega (arith, selector_falls p)
ref_falls (ref.Part p) = omega (arith, part_falls p)

count_falls : (n : Count) → deep-Count n ≤ count_depth (count_of n) + 1
count_falls (count.PiecesOf k x) = omega arith
count_falls count.Cards = omega arith
count_falls count.Backgrounds = omega arith
count_falls (count.Parts l k) = omega arith
count_falls (count.OfObject r) = omega (arith, ref_falls r.value)

expr_falls : (x : ExprKind) → deep-ExprKind x ≤ depth (expr_of x)
expr_falls e.Return = omega arith
expr_falls (e.Call w xs) = omega (arith, exprs_fall xs.items.items)
expr_falls (e.CallOf w x) = omega arith
expr_falls (e.ThereIs b r) = omega (arith, ref_falls r.value)
expr_falls (e.Chunk h x) = omega (arith, chunk_falls h)
expr_falls (e.Field p) = omega (arith, part_falls p)
expr_falls e.Result = omega arith
expr_falls e.Target = omega arith
expr_falls (e.NumberOf n) = omega (arith, count_falls n)
expr_falls (e.Property p r) = omega (arith, ref_falls r.value)
expr_falls (e.RunProperty p) = omega arith
expr_falls (e.Function f x) = omega arith

pub form_falls : (x : Form) → max (deep-Form x) 0 ≤ depth (kept_form x)
form_falls (form.Number n) = omega arith
form_falls (form.Digits w) = omega arith
form_falls (form.Quoted w) = omega arith
form_falls (form.Constant c) = omega arith
form_falls (form.Name w) = omega arith
form_falls (form.SharedDigits w) = omega arith
form_falls (form.SharedQuoted w) = omega arith
form_falls (form.Shared w) = omega arith
form_falls (form.UnaryOfName op w) = omega arith
form_falls (form.UnaryOfNumber op n) = omega arith
form_falls (form.BareCall w) = omega arith
form_falls (form.CallOf d x) = omega arith
form_falls (form.Paren d x) = omega arith
form_falls (form.Unary d x) = omega arith
form_falls (form.Binary d x) = omega arith
form_falls (form.LeftNested d x) = omega arith
form_falls (form.RightNested d x) = omega arith
form_falls (form.Chain d x) = omega (arith, chain_falls x.value)
form_falls (form.Kind d x) = omega (arith, expr_falls x.value)

-- What the forms of expressions can't be.
use Rattle.std.proofs.Common.{◌≡◌, ℤ, Bool, true, false, List, [], ◌∷◌, Bor, refl}
use Rattle.ht_values.specs.declared.name.Name.{Name}
use Rattle.ht_values.specs.declared.operator.Op.{Op}
use Rattle.ht_values.specs.declared.text.Text.{Text}
use Rattle.ht_lex.specs.declared.key.Constant.{Constant}
use Rattle.ht_grammar.specs.Trees as tree
use Rattle.ht_tree.specs.declared.expr.Expr.{Expr}
use Rattle.ht_tree.specs.declared.expr.ExprForm.{ExprForm}
use Rattle.ht_tree.specs.declared.expr.ExprForm.TheVariants as lent
use Rattle.ht_tree.specs.declared.expr.ExprKind.{ExprKind}
use Rattle.ht_tree.specs.declared.expr.ExprKind.TheVariants as e
use Rattle.ht_tree.specs.declared.operators.Joined.{Joined}
use Rattle.ht_tree.specs.View.{expr_of, form_of, joined_to}
use Rattle.primitives.specs.Atoms.{is_atom, is_in_parens}

-- what is so of every operator is so of a chain of them
joined_as : (p : tree.Expr → Bool) → ((op : Op) (x y : tree.Expr) → p (tree.binary op x y) ≡ false)
    → (op : Op) (x y : tree.Expr) (js : List Joined) → p (joined_to (tree.binary op x y) js) ≡ false
joined_as p so op x y [] = so op x y
joined_as p so op x y (j ∷ js) = joined_as p so j.op (tree.binary op x y) j.operand js

kind_not_in_parens : (k : ExprKind) → is_in_parens (expr_of k) ≡ false
kind_not_in_parens e.Return = refl
kind_not_in_parens (e.Call w xs) = refl
kind_not_in_parens (e.CallOf w x) = refl
kind_not_in_parens (e.ThereIs b r) = refl
kind_not_in_parens (e.Chunk h x) = refl
kind_not_in_parens (e.Field p) = refl
kind_not_in_parens e.Result = refl
kind_not_in_parens e.Target = refl
kind_not_in_parens (e.NumberOf n) = refl
kind_not_in_parens (e.Property p r) = refl
kind_not_in_parens (e.RunProperty p) = refl
kind_not_in_parens (e.Function f x) = refl

pub not_in_parens : (x : ExprForm) → ((y : Bor Expr) → x ≡ lent.Paren y → ⊥) → is_in_parens (form_of x) ≡ false
not_in_parens (lent.Number n) h = refl
not_in_parens (lent.Digits w) h = refl
not_in_parens (lent.Quoted w) h = refl
not_in_parens (lent.Constant k) h = refl
not_in_parens (lent.Name w) h = refl
not_in_parens (lent.UnaryOfName op w) h = refl
not_in_parens (lent.UnaryOfNumber op n) h = refl
not_in_parens (lent.BareCall w) h = refl
not_in_parens (lent.CallOf y) h = refl
not_in_parens (lent.Paren y) h = absurd (h y refl)
not_in_parens (lent.Unary y) h = refl
not_in_parens (lent.Binary y) h = refl
not_in_parens (lent.LeftNested y) h = refl
not_in_parens (lent.RightNested y) h = refl
not_in_parens (lent.Chain y) h =
    joined_as is_in_parens (λ op a b. refl) y.now.op y.now.left y.now.right y.now.joined.items
not_in_parens (lent.Kind y) h = kind_not_in_parens y.now

pub no_atom : (x : ExprForm) → ((n : ℤ) → x ≡ lent.Number n → ⊥) → ((w : Bor Text) → x ≡ lent.Digits w → ⊥)
    → ((w : Bor Text) → x ≡ lent.Quoted w → ⊥) → ((k : Constant) → x ≡ lent.Constant k → ⊥)
    → ((w : Bor Name) → x ≡ lent.Name w → ⊥) → ((y : Bor ExprKind) → x ≡ lent.Kind y → ⊥)
    → is_atom (form_of x) ≡ false
no_atom (lent.Number n) number digits quoted constant name kind = absurd (number n refl)
no_atom (lent.Digits w) number digits quoted constant name kind = absurd (digits w refl)
no_atom (lent.Quoted w) number digits quoted constant name kind = absurd (quoted w refl)
no_atom (lent.Constant k) number digits quoted constant name kind = absurd (constant k refl)
no_atom (lent.Name w) number digits quoted constant name kind = absurd (name w refl)
no_atom (lent.UnaryOfName op w) number digits quoted constant name kind = refl
no_atom (lent.UnaryOfNumber op n) number digits quoted constant name kind = refl
no_atom (lent.BareCall w) number digits quoted constant name kind = refl
no_atom (lent.CallOf y) number digits quoted constant name kind = refl
no_atom (lent.Paren y) number digits quoted constant name kind = refl
no_atom (lent.Unary y) number digits quoted constant name kind = refl
no_atom (lent.Binary y) number digits quoted constant name kind = refl
no_atom (lent.LeftNested y) number digits quoted constant name kind = refl
no_atom (lent.RightNested y) number digits quoted constant name kind = refl
no_atom (lent.Chain y) number digits quoted constant name kind =
    joined_as is_atom (λ op a b. refl) y.now.op y.now.left y.now.right y.now.joined.items
no_atom (lent.Kind y) number digits quoted constant name kind = absurd (kind y refl)

-- Chains of operators.
use Rattle.std.proofs.Common.{◌≡◌, ◌≤◌, ◌<◌, ℕ, zero, suc, List, [], ◌∷◌, ◌++◌, length, get_or, refl, ap, arith}
use Rattle.ht_grammar.specs.Trees as t
use Rattle.ht_grammar.specs.Depth.{depth}
use Rattle.ht_tree.specs.declared.operators.Joined.{Joined}
use Rattle.ht_tree.specs.View.{joined_to}

pub joined_snoc : (x : t.Expr) (js : List Joined) (j : Joined)
    → joined_to x (js ++ j ∷ []) ≡ t.binary j.op (joined_to x js) j.operand
joined_snoc x [] j = refl
joined_snoc x (k ∷ js) j = joined_snoc (t.binary k.op x k.operand) js j

pub joined_deep : (x : t.Expr) (js : List Joined) → depth x ≤ depth (joined_to x js)
joined_deep x [] = omega arith
joined_deep x (j ∷ js) = omega (arith, joined_deep (t.binary j.op x j.operand) js)

-- an operand is less deep than the chain
pub deep_operand : (x : t.Expr) (js : List Joined) (i : ℕ) (j : Joined) → i < length js → j ≡ get_or js i j
    → depth j.operand < depth (joined_to x js)
deep_operand x [] i j h e = absurd (omega arith)
deep_operand x (k ∷ ks) zero j h e =
    let same : depth j.operand ≡ depth k.operand = ap (λ j. depth j.operand) e in
    omega (arith, joined_deep (t.binary k.op x k.operand) ks)
deep_operand x (k ∷ ks) (suc i) j h e = deep_operand (t.binary k.op x k.operand) ks i j (omega arith) e

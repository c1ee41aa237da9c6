-- How parts of an expression that are computed with make the whole.
use Rattle.std.proofs.Common.{◌≡◌, ℕ, zero, suc, ◌≤◌, ◌<◌, ◌+◌, ◌-◌, List, [], ◌∷◌, max, Some}
use Rattle.std.proofs.Common.{Ok, Result, refl, sym, ap, arith, subst, ◌∙◌}
use Rattle.ht_values.specs.declared.fault.Fault.{Fault}
use Rattle.ht_values.specs.declared.operator.Op.{Op}
use Rattle.ht_values.specs.declared.operator.Op.TheVariants as o
use Rattle.ht_values.specs.declared.operator.UnOp.{UnOp}
use Rattle.ht_values.specs.declared.operator.UnOp.TheVariants as un
use Rattle.ht_values.specs.Operators.{binary, unary}
use Rattle.ht_lex.specs.declared.key.Constant.{Constant}
use Rattle.ht_lex.specs.Constants.{constant_text}
use Rattle.ht_lex.specs.declared.key.Key.{Key}
use Rattle.ht_lex.specs.declared.key.Key.TheVariants as k
use Rattle.ht_lex.specs.declared.key.TokenKind.TheVariants as kind
use Rattle.ht_lex.specs.Token.{Token, name, number, quoted, key, first_kind, first_text, later}
use Rattle.ht_grammar.specs.Trees as tree
use Rattle.ht_grammar.specs.Trees.{Expr}
use Rattle.ht_grammar.specs.Depth.{depth, max_depth}
use Rattle.ht_grammar.specs.Fronts.{infix_at, leading_operator}
use Rattle.ht_grammar.specs.Expressions.{Level, rank, power, prefixed, primary, Derives}
use Rattle.change_journal.specs.History.{History}
use Rattle.containers.specs.Places.{read_name}
use Rattle.meaning.specs.declared.frame.Frame.{Frame}
use Rattle.meaning.specs.Meaning.{Val}
use Rattle.meaning.specs.State.{RunState}
use Rattle.meaning.specs.Values.{Yields}
use Rattle.one_pass.specs.Computed.{Computed, ComputedRight, after}

-- ---- what the kind of the first token tells

pub key_first : (x : Key) (ts : List Token) → first_kind ts ≡ Some (kind.Key x) → ts ≡ key x ∷ later ts
key_first x [] e = cc
key_first x (key y ∷ ts) e = cc
key_first x (t ∷ ts) e = cc

number_first : (ts : List Token) → first_kind ts ≡ Some kind.Number → ts ≡ number (first_text ts) ∷ later ts
number_first [] e = cc
number_first (number t ∷ ts) e = refl
number_first (t ∷ ts) e = cc

quoted_first : (ts : List Token) → first_kind ts ≡ Some kind.Quoted → ts ≡ quoted (first_text ts) ∷ later ts
quoted_first [] e = cc
quoted_first (quoted t ∷ ts) e = refl
quoted_first (t ∷ ts) e = cc

pub name_first : (ts : List Token) → first_kind ts ≡ Some kind.Name → ts ≡ name (first_text ts) ∷ later ts
name_first [] e = cc
name_first (name t ∷ ts) e = refl
name_first (t ∷ ts) e = cc

module _ {w : History} {f : Frame} where
  -- ---- what one token is

  module _ (ts : List Token) (old : List (List ℕ)) where
    leaf : (x : Expr) (v : List ℕ) → Derives primary ts x (later ts) → depth x ≡ 1
        → ((r : RunState) (d : ℕ) → Val w (after f.me old r) f d x (Ok v) w (after f.me old r))
        → Computed w f primary ts old v 1 (later ts) old
    leaf x v g one means = record {
      tree = x;
      derives = g;
      deep = one;
      fits = omega arith;
      grows = omega arith;
      means = λ r d less. means r d;
    }

    placed : {v u : List ℕ} {rest : List Token} → v ≡ u → rest ≡ later ts → Computed w f primary ts old u 1 (later ts) old
        → Computed w f primary ts old v 1 rest old
    placed {u = u} {rest = rest} same past c = subst (λ x. Computed w f primary ts old x 1 rest old) (sym same)
        (subst (λ t. Computed w f primary ts old u 1 t old) (sym past) c)

    pub number_alone : {v : List ℕ} {rest : List Token} → first_kind ts ≡ Some kind.Number → v ≡ first_text ts
        → rest ≡ later ts → Computed w f primary ts old v 1 rest old
    number_alone e same past = placed same past (leaf (tree.number (first_text ts)) (first_text ts)
        (subst (λ t. Derives primary t (tree.number (first_text ts)) (later ts)) (sym (number_first ts e))
        Derives.number) refl (λ r d. Val.number refl))

    pub quoted_alone : {v : List ℕ} {rest : List Token} → first_kind ts ≡ Some kind.Quoted → v ≡ first_text ts
        → rest ≡ later ts → Computed w f primary ts old v 1 rest old
    quoted_alone e same past = placed same past (leaf (tree.quoted (first_text ts)) (first_text ts)
        (subst (λ t. Derives primary t (tree.quoted (first_text ts)) (later ts)) (sym (quoted_first ts e))
        Derives.quoted) refl (λ r d. Val.quoted refl))

    pub name_alone : {v : List ℕ} {rest : List Token} → first_kind ts ≡ Some kind.Name
        → v ≡ read_name w.now f.variables (first_text ts) → rest ≡ later ts → Computed w f primary ts old v 1 rest old
    name_alone e same past = placed same past (leaf (tree.name (first_text ts))
        (read_name w.now f.variables (first_text ts))
        (subst (λ t. Derives primary t (tree.name (first_text ts)) (later ts)) (sym (name_first ts e))
        Derives.name) refl (λ r d. Val.name refl refl))

    pub constant_alone : {cn : Constant} {v : List ℕ} {rest : List Token} → first_kind ts ≡ Some (kind.Key (k.Constant cn))
        → v ≡ constant_text cn → rest ≡ later ts → Computed w f primary ts old v 1 rest old
    constant_alone {cn = cn} e same past = placed same past (leaf (tree.constant cn) (constant_text cn)
        (subst (λ t. Derives primary t (tree.constant cn) (later ts)) (sym (key_first (k.Constant cn) ts e))
        Derives.constant) refl (λ r d. Val.constant refl refl))

  -- ---- an expression of one part of the grammar is one of another

  module _ {ts : List Token} {old : List (List ℕ)} {v : List ℕ} {n : ℕ} {rest : List Token} {new : List (List ℕ)} where
    relevel : {p q : Level} → ((x : Expr) → Derives p ts x rest → Derives q ts x rest)
        → Computed w f p ts old v n rest new → Computed w f q ts old v n rest new
    relevel go c = record {
      tree = c.tree;
      derives = go c.tree c.derives;
      deep = c.deep;
      fits = c.fits;
      grows = c.grows;
      means = c.means;
    }

    pub as_prefixed : Computed w f primary ts old v n rest new → Computed w f prefixed ts old v n rest new
    as_prefixed = relevel (λ x g. Derives.no_prefix (Derives.no_form g))

    pub as_power : Computed w f prefixed ts old v n rest new → Computed w f power ts old v n rest new
    as_power = relevel (λ x g. Derives.not_raised g)

    pub as_operand : Computed w f power ts old v n rest new → Computed w f (rank 0) ts old v n rest new
    as_operand = relevel (λ x g. Derives.tightest g)

    steps_up : (j k m : ℕ) → j + k ≡ m → Computed w f (rank k) ts old v n rest new
        → Computed w f (rank m) ts old v n rest new
    steps_up zero k m e c = subst (λ i. Computed w f (rank i) ts old v n rest new) (omega (arith, e)) c
    steps_up (suc j) k zero e c = absurd (omega (arith, e))
    steps_up (suc j) k (suc m) e c = relevel (λ x g. Derives.tighter g) (steps_up j k m (omega (arith, e)) c)

    pub looser : {k m : ℕ} → k ≤ m → Computed w f (rank k) ts old v n rest new
        → Computed w f (rank m) ts old v n rest new
    looser {k = k} {m = m} less c = steps_up (m - k) k m (omega (arith, less)) c

  -- ---- what is made of parts

  module _ {ts inner : List Token} {old : List (List ℕ)} {v : List ℕ} {n m : ℕ} {rest : List Token}
      {new : List (List ℕ)} where
    pub in_parens : {past : List Token} → first_kind ts ≡ Some (kind.Key k.LeftParen) → inner ≡ later ts
        → Computed w f (rank 7) inner old v n rest new → first_kind rest ≡ Some (kind.Key k.RightParen)
        → past ≡ later rest → max n n < max_depth → m ≡ max n n + 1
        → Computed w f primary ts old v m past new
    in_parens {past = past} first within c last behind less one = record {
      tree = tree.paren c.tree;
      derives = subst (λ t. Derives primary t (tree.paren c.tree) past)
          (sym (key_first k.LeftParen ts first ∙ ap (λ t. key k.LeftParen ∷ t) (sym within)))
          (Derives.paren (subst (λ t. Derives (rank 7) inner c.tree t)
          (key_first k.RightParen rest last ∙ ap (λ t. key k.RightParen ∷ t) (sym behind)) c.derives));
      deep = omega (arith, c.deep, one);
      fits = omega (arith, less, one);
      grows = c.grows;
      means = λ r d enough. Val.paren refl (c.means r d enough);
    }

    under : (op : UnOp) {x : List ℕ} (y : Key)
        → ((a : List Token) (e : Expr) → Derives prefixed a e rest → Derives prefixed (key y ∷ a) (tree.unary op e) rest)
        → first_kind ts ≡ Some (kind.Key y) → inner ≡ later ts → Computed w f prefixed inner old v n rest new
        → unary op v ≡ Ok x → max n n < max_depth → m ≡ max n n + 1 → Computed w f prefixed ts old x m rest new
    under op y go e within c gives less one = record {
      tree = tree.unary op c.tree;
      derives = subst (λ t. Derives prefixed t (tree.unary op c.tree) rest)
          (sym (key_first y ts e ∙ ap (λ t. key y ∷ t) (sym within))) (go inner c.tree c.derives);
      deep = omega (arith, c.deep, one);
      fits = omega (arith, less, one);
      grows = c.grows;
      means = λ r d enough. Val.one_operand refl (c.means r d enough) (Yields.yields gives);
    }

    pub under_minus : {x : List ℕ} → first_kind ts ≡ Some (kind.Key k.Minus) → inner ≡ later ts
        → Computed w f prefixed inner old v n rest new → unary un.Minus v ≡ Ok x → max n n < max_depth
        → m ≡ max n n + 1 → Computed w f prefixed ts old x m rest new
    under_minus = under un.Minus k.Minus (λ a e g. Derives.minus g)

    pub under_not : {x : List ℕ} → first_kind ts ≡ Some (kind.Key k.Not) → inner ≡ later ts
        → Computed w f prefixed inner old v n rest new → unary un.Not v ≡ Ok x → max n n < max_depth
        → m ≡ max n n + 1 → Computed w f prefixed ts old x m rest new
    under_not = under un.Not k.Not (λ a e g. Derives.not_ g)

  module _ {ts : List Token} {old : List (List ℕ)} {p : List ℕ} {n : ℕ} {mid : List Token} {met : List (List ℕ)}
      {v : List ℕ} {m : ℕ} {rest : List Token} {new : List (List ℕ)} {i : ℕ} where
    both : {q : List ℕ} {op : Op} {a b c : Level} {ts2 : List Token} → Computed w f a ts old p n mid met
        → (y : Computed w f b ts2 met q m rest new) → binary op p q ≡ Ok v → max n m < max_depth → i ≡ max n m + 1
        → ((x : Expr) → Derives a ts x mid → Derives c ts (tree.binary op x y.tree) rest)
        → Computed w f c ts old v i rest new
    both x y gives less one go = record {
      tree = tree.binary _ x.tree y.tree;
      derives = go x.tree x.derives;
      deep = omega (arith, x.deep, y.deep, one);
      fits = omega (arith, less, one);
      grows = omega (arith, x.grows, y.grows);
      means = λ r d enough. Val.two_operands refl (x.means r d (omega (arith, y.grows, enough))) (y.means r d enough)
          (Yields.yields gives);
    }

    by_rank : (k r : ℕ) (past : List Token) {op : Op} → k ≤ r → 0 < r → infix_at r op past ≡ leading_operator mid
        → Computed w f (rank k) ts old p n mid met → ComputedRight w f (rank (r - 1)) op p past met v m rest new
        → max n m < max_depth → i ≡ max n m + 1 → Computed w f (rank r) ts old v i rest new
    by_rank k zero past loose pos is x y less one = absurd (omega (arith, pos))
    by_rank k (suc r) past loose pos is x y less one =
        let right = subst (λ i. Computed w f (rank i) past met y.right m rest new) (omega arith) y.computed in
        both (looser loose x) right y.gives less one (λ e g. Derives.join g (sym is) right.derives)

    pub joined : {k r : ℕ} {past : List Token} {op : Op} → infix_at r op past ≡ leading_operator mid
        → Computed w f (rank k) ts old p n mid met → ComputedRight w f (rank (r - 1)) op p past met v m rest new
        → k ≤ r → 0 < r → max n m < max_depth → i ≡ max n m + 1 → Computed w f (rank r) ts old v i rest new
    joined {k = k} {r = r} {past = past} is x y loose pos less one = by_rank k r past loose pos is x y less one

    pub raised : {past : List Token} → Computed w f prefixed ts old p n mid met
        → first_kind mid ≡ Some (kind.Key k.Caret) → past ≡ later mid
        → ComputedRight w f power o.Power p past met v m rest new → max n m < max_depth → i ≡ max n m + 1
        → Computed w f power ts old v i rest new
    raised x e behind y less one = both x y.computed y.gives less one
        (λ t g. Derives.raised (subst (λ u. Derives prefixed ts t u)
        (key_first k.Caret mid e ∙ ap (λ t. key k.Caret ∷ t) (sym behind)) g) y.computed.derives)

  -- ---- right operands

  module _ {ts : List Token} {old : List (List ℕ)} {p v : List ℕ} {n : ℕ} {op : Op} {rest : List Token}
      {new : List (List ℕ)} where
    pub right_of : {l : Level} {q : List ℕ} → Computed w f l ts old q n rest new → binary op p q ≡ Ok v
        → ComputedRight w f l op p ts old v n rest new
    right_of {q = q} c gives = record { right = q; computed = c; gives = gives }

    pub right_looser : {below : ℕ} → ComputedRight w f power op p ts old v n rest new
        → ComputedRight w f (rank below) op p ts old v n rest new
    right_looser y = right_of (looser (omega arith) (as_operand y.computed)) y.gives

  module _ {ts : List Token} {calls : List (List ℕ)} {p v q : List ℕ} {op : Op} {rest : List Token} where
    pub name_right : first_kind ts ≡ Some kind.Name → q ≡ first_text ts → rest ≡ later ts
        → binary op p (read_name w.now f.variables q) ≡ Ok v → ComputedRight w f power op p ts calls v 1 rest calls
    name_right first same past gives = right_of (as_power (as_prefixed
        (name_alone ts calls first (ap (read_name w.now f.variables) same) past))) gives

    pub number_right : first_kind ts ≡ Some kind.Number → q ≡ first_text ts → rest ≡ later ts
        → binary op p q ≡ Ok v → ComputedRight w f power op p ts calls v 1 rest calls
    number_right first same past gives = right_of (as_power (as_prefixed (number_alone ts calls first same past))) gives

-- what is given was computed
pub yielded : {A : Type 0} {c : Result A Fault} {a : A} → Yields c (Ok a) → c ≡ Ok a
yielded (Yields.yields e) = e

-- How expressions with commas between are computed with, one after another.
use Rattle.std.proofs.Common.{◌≡◌, ℕ, ◌+◌, List, [], ◌∷◌, ◌++◌, max, Some}
use Rattle.std.proofs.Common.{Ok, refl, sym, ap, arith, subst, ◌∙◌}
use Rattle.ht_lex.specs.declared.key.Key.TheVariants as k
use Rattle.ht_lex.specs.declared.key.TokenKind.TheVariants as kind
use Rattle.ht_lex.specs.Token.{Token, first_kind, later}
use Rattle.ht_grammar.specs.Trees.{Expr, Exprs, none, more}
use Rattle.ht_grammar.specs.Depth.{depth, depths}
use Rattle.ht_grammar.specs.Expressions.{whole, Derives, DerivesList}
use Rattle.change_journal.specs.History.{History}
use Rattle.meaning.specs.declared.frame.Frame.{Frame}
use Rattle.meaning.specs.Meaning.{Vals}
use Rattle.one_pass.specs.Computed.{Computed, ComputedList, ComputedAll, after, ahead_of}
use Rattle.one_pass.proofs.Operators.{key_first}

ahead_snoc : (xs : Exprs) (x : Expr) (es : Exprs) → ahead_of (ahead_of xs (more x none)) es ≡ ahead_of xs (more x es)
ahead_snoc none x es = refl
ahead_snoc (more y ys) x es = ap (more y) (ahead_snoc ys x es)

depths_snoc : (xs : Exprs) (x : Expr) → depths (ahead_of xs (more x none)) ≡ max (depths xs) (depth x)
depths_snoc none x = omega arith
depths_snoc (more y ys) x = omega (arith, depths_snoc ys x)

module _ {w : History} {f : Frame} {ts : List Token} {old : List (List ℕ)} {before : List (List ℕ)} where
  pub no_values : ComputedList w f ts old before before 0 ts old
  no_values = record {
    trees = none;
    derives = λ es end g. g;
    deep = refl;
    fits = omega arith;
    grows = omega arith;
    means = λ r d enough es all r2 h. h;
  }

  module _ {vs : List (List ℕ)} {n : ℕ} {mid : List Token} {met : List (List ℕ)} {v : List ℕ} {m : ℕ}
      {rest : List Token} {new : List (List ℕ)} (xs : ComputedList w f ts old before vs n mid met)
      (x : Computed w f whole mid met v m rest new) where
    comma_behind : first_kind rest ≡ Some (kind.Key k.CommaSign)
        → ComputedList w f ts old before (vs ++ v ∷ []) (max n m) (later rest) new
    comma_behind comma = record {
      trees = ahead_of xs.trees (more x.tree none);
      derives = λ es end g. subst (λ t. DerivesList ts t end) (sym (ahead_snoc xs.trees x.tree es))
          (xs.derives (more x.tree es) end
          (DerivesList.followed (subst (λ t. Derives whole mid x.tree t) (key_first k.CommaSign rest comma) x.derives) g));
      deep = depths_snoc xs.trees x.tree ∙ omega (arith, xs.deep, x.deep);
      fits = omega (arith, xs.fits, x.fits);
      grows = omega (arith, xs.grows, x.grows);
      means = λ r d enough es all r2 h. subst
          (λ t. Vals w (after f.me old r) f d t before (Ok all) w r2) (sym (ahead_snoc xs.trees x.tree es))
          (xs.means r d (omega (arith, x.grows, enough)) (more x.tree es) all r2
          (Vals.vals_more refl (x.means r d enough) h));
    }

    pub with_comma : {past : List Token} {all : List (List ℕ)} {i : ℕ} → first_kind rest ≡ Some (kind.Key k.CommaSign)
        → past ≡ later rest → all ≡ vs ++ v ∷ [] → i ≡ max n m → ComputedList w f ts old before all i past new
    with_comma {past = past} {all = all} comma behind last deepest =
        subst (λ i. ComputedList w f ts old before all i past new) (sym deepest)
        (subst (λ us. ComputedList w f ts old before us (max n m) past new) (sym last)
        (subst (λ t. ComputedList w f ts old before (vs ++ v ∷ []) (max n m) t new) (sym behind) (comma_behind comma)))

    last_one : ComputedAll w f ts old before (vs ++ v ∷ []) (max n m) rest new
    last_one = record {
      trees = ahead_of xs.trees (more x.tree none);
      derives = xs.derives (more x.tree none) rest (DerivesList.alone x.derives);
      deep = depths_snoc xs.trees x.tree ∙ omega (arith, xs.deep, x.deep);
      fits = omega (arith, xs.fits, x.fits);
      grows = omega (arith, xs.grows, x.grows);
      means = λ r d enough. xs.means r d (omega (arith, x.grows, enough)) (more x.tree none) (vs ++ v ∷ []) (after f.me new r)
          (Vals.vals_more refl (x.means r d enough) (Vals.vals_done refl));
    }

    pub with_last : {all : List (List ℕ)} {i : ℕ} → all ≡ vs ++ v ∷ [] → i ≡ max n m
        → ComputedAll w f ts old before all i rest new
    with_last {all = all} last deepest = subst (λ i. ComputedAll w f ts old before all i rest new) (sym deepest)
        (subst (λ us. ComputedAll w f ts old before us (max n m) rest new) (sym last) last_one)

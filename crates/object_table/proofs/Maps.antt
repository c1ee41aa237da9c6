-- Values put into maps.
use Rattle.std.proofs.Common.{◌≡◌, ◌≢◌, Bool, true, false, cond, refl, sym, subst, ap, ◌∙◌, Option, Some, None, IfSome}
use Rattle.std.proofs.Common.{is_some}
use Rattle.std.specs.Ordering.{eq_by_cmp}
use Rattle.std.specs.declared.cmp.Ordering.{Ordering}
use Rattle.std.specs.Cmp.{IsTotalOrder, Equal-is, tied_itself}
use Rattle.std.specs.FinMap.{FinMap, get, same_map, get-insert, get-remove, IsAntisymmetric}
use Rattle.object_table.specs.Maps.{put_option}

conds : {X : Type 0} (a b : Bool) (x v f : X) → (a ≡ true → b ≡ true → ⊥)
    → cond a x (cond b v f) ≡ cond b v (cond a x f)
conds true true x v f h = absurd (h refl refl)
conds true false x v f h = refl
conds false b x v f h = refl

again : {X : Type 0} (a : Bool) (x v f : X) → cond a x (cond a v f) ≡ cond a x f
again true x v f = refl
again false x v f = refl

module _ {K X : Type 0} {R : K → K → Ordering} (total : IsTotalOrder R) (same : IsAntisymmetric R) where
  pub get-put_option : (m : FinMap R X) (k : K) (v : Option X) (q : K)
      → get (put_option m k v) q ≡ cond (eq_by_cmp R q k) v (get m q)
  get-put_option m k None q = get-remove total m k q
  get-put_option m k (Some v) q = get-insert total m k v q

  -- what was put is there
  pub put_option-get : (m : FinMap R X) (k : K) (v : Option X) → get (put_option m k v) k ≡ v
  put_option-get m k v =
      get-put_option m k v k ∙ ap (λ b. cond b v (get m k)) ((Equal-is (R k k)).1 (tied_itself total k))

  -- a second value at the same key
  pub put_option_again : (m : FinMap R X) (k : K) (v w : Option X)
      → put_option (put_option m k v) k w ≡ put_option m k w
  put_option_again m k v w = same_map total same _ _
      (λ q. get-put_option (put_option m k v) k w q ∙ ap (λ x. cond (eq_by_cmp R q k) w x) (get-put_option m k v q)
      ∙ again (eq_by_cmp R q k) w v (get m q) ∙ sym (get-put_option m k w q))

  -- values at two keys, in either order
  pub put_option_apart : (m : FinMap R X) (j k : K) (v w : Option X) → j ≢ k
      → put_option (put_option m j v) k w ≡ put_option (put_option m k w) j v
  put_option_apart m j k v w h =
      same_map total same _ _ (λ q.
      get-put_option (put_option m j v) k w q
      ∙ ap (λ x. cond (eq_by_cmp R q k) w x) (get-put_option m j v q)
      ∙ conds (eq_by_cmp R q k) (eq_by_cmp R q j) w v (get m q)
      (λ a b. h (sym (same q j ((Equal-is (R q j)).0 b)) ∙ same q k ((Equal-is (R q k)).0 a)))
      ∙ ap (λ x. cond (eq_by_cmp R q j) v x) (sym (get-put_option m k w q))
      ∙ sym (get-put_option (put_option m k w) j v q))

  where_tied : (m : FinMap R X) (k q : K) (b : Bool) → eq_by_cmp R q k ≡ b → cond b (get m k) (get m q) ≡ get m q
  where_tied m k q true e = ap (get m) (sym (same q k ((Equal-is (R q k)).0 e)))
  where_tied m k q false e = refl

  -- the value that is there
  pub put_option_same : (m : FinMap R X) (k : K) → put_option m k (get m k) ≡ m
  put_option_same m k =
      same_map total same _ _ (λ q. get-put_option m k (get m k) q ∙ where_tied m k q (eq_by_cmp R q k) refl)

  -- another key has what it had
  pub get-put_option_apart : (m : FinMap R X) (j k : K) (v : Option X) → j ≢ k → get (put_option m j v) k ≡ get m k
  get-put_option_apart m j k v h = get-put_option m j v k ∙ by (eq_by_cmp R k j) refl
    where
      by : (b : Bool) → eq_by_cmp R k j ≡ b → cond b v (get m k) ≡ get m k
      by true e = absurd (h (sym (same k j ((Equal-is (R k j)).0 e))))
      by false e = refl

  -- the value of a key that has one changes, and no other key gains or loses one
  pub is_some-put_option : (m : FinMap R X) (k : K) (v : X) (q : K) → is_some (get m k) ≡ true
      → is_some (get (put_option m k (Some v)) q) ≡ is_some (get m q)
  is_some-put_option m k v q there = ap is_some (get-put_option m k (Some v) q) ∙ by (eq_by_cmp R q k) refl
    where
      by : (b : Bool) → eq_by_cmp R q k ≡ b → is_some (cond b (Some v) (get m q)) ≡ is_some (get m q)
      by true e = sym there ∙ ap (λ x. is_some (get m x)) (sym (same q k ((Equal-is (R q k)).0 e)))
      by false e = refl

  -- what holds of each value holds still where it holds of the new one
  pub IfSome-put_option : (P : X → Type 0) (m : FinMap R X) (k : K) (v : X) (q : K) → P v → IfSome (get m q) P
      → IfSome (get (put_option m k (Some v)) q) P
  IfSome-put_option P m k v q new old =
      subst (λ o. IfSome o P) (sym (get-put_option m k (Some v) q)) (by (eq_by_cmp R q k))
    where
      by : (b : Bool) → IfSome (cond b (Some v) (get m q)) P
      by true = new
      by false = old

-- What is kept at open keys, by the entries of a map.
use Rattle.std.proofs.Common.{◌≡◌, Bool, true, false, cond, ◌||◌, List, [], ◌∷◌, map, refl, sym, ap, ◌∙◌, Option, Some}
use Rattle.std.proofs.Common.{None, option_and_then, is_some, OnSome}
use Rattle.std.specs.List.{list_any}
use Rattle.std.specs.Map.{lookup}
use Rattle.std.specs.Cmp.{IsTotalOrder, Equal-is, tied_itself}
use Rattle.std.specs.Ordering.{eq_by_cmp, is_eq, ordering_reverse}
use Rattle.std.specs.declared.cmp.Ordering.{Ordering}
use Rattle.std.specs.declared.cmp.Ordering.TheVariants.{Less, Equal, Greater}
use Rattle.std.specs.FinMap.{IsAntisymmetric, get, get-empty, same_map}
use Rattle.std.specs.FinSet as set
use Rattle.object_table.specs.Maps.{put_option}
use Rattle.object_table.specs.Opened.{map_of, keys_of}
use Rattle.object_table.proofs.Maps.{get-put_option, put_option_same}

-- keys in a total order, which tells them apart
pub record AreKeys {K : Type 0} (R : K → K → Ordering) : Type 0 where
  pub total : IsTotalOrder R
  pub apart : IsAntisymmetric R

reversed : (o : Ordering) → is_eq (ordering_reverse o) ≡ is_eq o
reversed Less = refl
reversed Equal = refl
reversed Greater = refl

chosen : {X : Type 0} (b : Bool) (v : Option X) (o : Option (Option X))
    → option_and_then (λ x. x) (cond b (Some v) o) ≡ cond b v (option_and_then (λ x. x) o)
chosen true v o = refl
chosen false v o = refl

found : {X : Type 0} (b : Bool) (v : X) (o : Option X) → is_some (cond b (Some v) o) ≡ (b || is_some o)
found true v o = refl
found false v o = refl

module _ {K : Type 0} {R : K → K → Ordering} (are : AreKeys R) where
  turned : (k q : K) → eq_by_cmp R k q ≡ eq_by_cmp R q k
  turned k q = ap is_eq (are.total.antisymm k q) ∙ reversed (R q k)

  module _ {X : Type 0} where
    -- what is kept at a key, by its entry
    pub get-map_of : (es : List (K × Option X)) (q : K)
        → get (map_of {R = R} es) q ≡ option_and_then (λ x. x) (lookup (eq_by_cmp R q) es)
    get-map_of [] q = get-empty R q
    get-map_of (e ∷ es) q =
        get-put_option are.total are.apart (map_of es) e.0 e.1 q
        ∙ ap (cond (eq_by_cmp R q e.0) e.1) (get-map_of es q)
        ∙ sym (chosen (eq_by_cmp R q e.0) e.1 (lookup (eq_by_cmp R q) es))

    among : (es : List (K × X)) (q : K)
        → list_any (eq_by_cmp R q) (map (λ e. e.0) es) ≡ is_some (lookup (eq_by_cmp R q) es)
    among [] q = refl
    among (e ∷ es) q =
        ap (λ b. eq_by_cmp R q e.0 || b) (among es q) ∙ sym (found (eq_by_cmp R q e.0) e.1 (lookup (eq_by_cmp R q) es))

    -- whether a key is open, by its entry
    pub contains-keys_of : (es : List (K × X)) (q : K)
        → set.contains (keys_of {R = R} es) q ≡ is_some (lookup (eq_by_cmp R q) es)
    contains-keys_of es q = set.contains-from_list are.total (map (λ e. e.0) es) q ∙ among es q

    -- an entry is written; its key is open then
    pub keys_of-updated : (es fs : List (K × X)) (k : K) (w : X)
        → ((q : K) → lookup (eq_by_cmp R q) fs ≡ cond (eq_by_cmp R k q) (Some w) (lookup (eq_by_cmp R q) es))
        → keys_of {R = R} fs ≡ set.insert (keys_of es) k
    keys_of-updated es fs k w updates =
        set.same_set are.total are.apart _ _ (λ q.
        contains-keys_of fs q
        ∙ ap is_some (updates q)
        ∙ found (eq_by_cmp R k q) w (lookup (eq_by_cmp R q) es)
        ∙ (λ i. turned k q i || sym (contains-keys_of es q) i)
        ∙ sym (set.contains-insert are.total (keys_of es) k q))

    module _ (es fs : List (K × Option X)) (k : K) (w : Option X)
        (updates : (q : K) → lookup (eq_by_cmp R q) fs ≡ cond (eq_by_cmp R k q) (Some w) (lookup (eq_by_cmp R q) es))
      where
        -- a value is put at a key
        pub map_of-updated : map_of {R = R} fs ≡ put_option (map_of es) k w
        map_of-updated =
            same_map are.total are.apart _ _ (λ q.
            get-map_of fs q
            ∙ ap (option_and_then (λ x. x)) (updates q)
            ∙ chosen (eq_by_cmp R k q) w (lookup (eq_by_cmp R q) es)
            ∙ (λ i. cond (turned k q i) w (sym (get-map_of es q) i))
            ∙ sym (get-put_option are.total are.apart (map_of es) k w q))

        -- a value that is there already
        pub map_of-same : w ≡ option_and_then (λ x. x) (lookup (eq_by_cmp R k) es) → map_of {R = R} fs ≡ map_of es
        map_of-same is = map_of-updated ∙ ap (put_option (map_of es) k) (is ∙ sym (get-map_of es k))
            ∙ put_option_same are.total are.apart (map_of es) k

  -- a key that is in a set stays
  pub inserted_again : (s : set.FinSet R) (k : K) → set.contains s k ≡ true → s ≡ set.insert s k
  inserted_again s k h =
      set.same_set are.total are.apart _ _ (λ q.
      by q (eq_by_cmp R q k) refl
      ∙ sym (set.contains-insert are.total s k q))
    where
      by : (q : K) (b : Bool) → eq_by_cmp R q k ≡ b → set.contains s q ≡ (b || set.contains s q)
      by q false e = refl
      by q true e = ap (set.contains s) (are.apart q k ((Equal-is (R q k)).0 e)) ∙ h

  -- a key that is put in a set is in it
  pub contains-inserted : (s : set.FinSet R) (k : K) → set.contains (set.insert s k) k ≡ true
  contains-inserted s k = set.contains-insert are.total s k k
      ∙ ap (λ b. b || set.contains s k) ((Equal-is (R k k)).1 (tied_itself are.total k))

module _ {X : Type 0} where
  pub of_found : {P : Type 0} (o : Option X) → P → OnSome o P
  of_found None p = tt
  of_found (Some x) p = p

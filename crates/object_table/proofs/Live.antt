-- How many objects live, as one after another is exchanged.
use Rattle.std.proofs.Common.{◌≡◌, ◌≢◌, ℕ, inl, inr, ◌+◌, ◌-◌, ◌≤◌, Bool, true, false, cond, List, [], ◌∷◌, length}
use Rattle.std.proofs.Common.{refl, ap, ◌∙◌, arith, Option, Some, None, is_some}
use Rattle.std.specs.Ordering.{nat_cmp}
use Rattle.std.specs.Cmp.{nat_cmp_total}
use Rattle.std.specs.FinMap.{FinMap, get, remove, len, get-remove, len-empty, len-insert, len-remove}
use Rattle.std.specs.FinMap.{nat_cmp-IsAntisymmetric}
use Rattle.std.proofs.lemmas.Bool.{cases_eq}
use Rattle.object_table.specs.Maps.{put_option}
use Rattle.object_table.specs.Opened.{map_of}
use Rattle.object_table.proofs.Counting.{not_empty}
use Rattle.object_table.proofs.Maps.{put_option_again, put_option_apart}
use Rattle.object_table.proofs.Slots.{tied_apart}

abbrev pub one : Bool → ℕ
one b = cond b 1 0

module _ {X : Type 0} where
  -- one that is there is counted
  pub one-le-len : (m : FinMap nat_cmp X) (k : ℕ) → one (is_some (get m k)) ≤ len m
  one-le-len m k = by (is_some (get m k)) refl
    where
      by : (b : Bool) → is_some (get m k) ≡ b → one b ≤ len m
      by true e = not_empty m k e
      by false e = omega arith

  pub len-put_option : (m : FinMap nat_cmp X) (k : ℕ) (v : Option X)
      → len (put_option m k v) ≡ len m - one (is_some (get m k)) + one (is_some v)
  len-put_option m k None = len-remove nat_cmp_total m k ∙ by (is_some (get m k))
    where
      by : (b : Bool) → cond b (len m - 1) (len m) ≡ len m - one b + 0
      by true = omega arith
      by false = omega arith
  len-put_option m k (Some v) = len-insert nat_cmp_total m k v ∙ by (is_some (get m k)) refl
    where
      by : (b : Bool) → is_some (get m k) ≡ b → cond b (len m) (len m + 1) ≡ len m - one b + 1
      by true e = omega (arith, not_empty m k e)
      by false e = omega arith

  -- a map of entries has no more than they are
  pub len-map_of : (es : List (ℕ × Option X)) → len (map_of {R = nat_cmp} es) ≤ length es
  len-map_of [] = omega (arith, len-empty nat_cmp X)
  len-map_of (e ∷ es) = omega (arith, len-map_of es, len-put_option (map_of es) e.0 e.1, at_most (is_some e.1))
    where
      at_most : (b : Bool) → one b ≤ 1
      at_most true = omega arith
      at_most false = omega arith

  pub len-others : (m : FinMap nat_cmp X) → len (remove m 0) ≤ len m
  len-others m = omega (arith, len-put_option m 0 None)

  others : (m : FinMap nat_cmp X) (k : ℕ) → k ≢ 0 → get (remove m 0) k ≡ get m k
  others m k n = get-remove nat_cmp_total m 0 k ∙ ap (λ b. cond b None (get m k)) (tied_apart k 0 n)

  -- another object than the first is exchanged
  pub count-other : (m : FinMap nat_cmp X) (k : ℕ) (v : Option X) → k ≢ 0
      → len (remove (put_option m k v) 0) ≡ len (remove m 0) - one (is_some (get m k)) + one (is_some v)
  count-other m k v n =
      ap len (put_option_apart nat_cmp_total nat_cmp-IsAntisymmetric m k 0 v None n)
      ∙ len-put_option (remove m 0) k v
      ∙ ap (λ o. len (remove m 0) - one (is_some o) + one (is_some v)) (others m k n)

  pub counted-other : (m : FinMap nat_cmp X) (k : ℕ) → k ≢ 0 → one (is_some (get m k)) ≤ len (remove m 0)
  counted-other m k n = rw (← others m k n) (one-le-len (remove m 0) k)

  -- the first is exchanged, which isn't counted
  pub count-first : (m : FinMap nat_cmp X) (v : Option X) → len (remove (put_option m 0 v) 0) ≡ len (remove m 0)
  count-first m v = ap len (put_option_again nat_cmp_total nat_cmp-IsAntisymmetric m 0 v None)

  -- an object takes the place of another
  pub count_again : (m : FinMap nat_cmp X) (k : ℕ) (v : X) → is_some (get m k) ≡ true
      → len (remove (put_option m k (Some v)) 0) ≡ len (remove m 0)
  count_again m k v there =
      elim (cases_eq k 0) [
        | inl e ↦ ap (λ x. len (remove (put_option m x (Some v)) 0)) e ∙ count-first m (Some v)
        | inr n ↦ let was = ap one there in omega (arith, was, count-other m k (Some v) n, counted-other m k n)
      ]

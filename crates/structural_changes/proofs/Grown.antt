-- A stack with one object more.
use Rattle.std.proofs.Common.{◌≡◌, ℕ, ◌+◌, ◌<◌, ◌≤◌, Bool, true, false, cond, nat_eq, refl, sym, subst, ap, ◌∙◌, arith}
use Rattle.std.proofs.Common.{Option, Some, None, IsSome, IfSome, is_some}
use Rattle.std.proofs.lemmas.Bool.Decides.{nat_tests}
use Rattle.std.specs.Ordering.{nat_cmp}
use Rattle.std.specs.Cmp.{nat_cmp_total, unsigned_tied}
use Rattle.std.specs.FinMap.{FinMap, get, remove, len, len-insert, contains_key, nat_cmp-IsAntisymmetric}
use Rattle.ht_values.specs.Text.{IsText}
use Rattle.object_table.specs.Content.{Content}
use Rattle.object_table.specs.Maps.{put_option}
use Rattle.object_table.specs.Objects.{object_at, object_count}
use Rattle.structural_changes.proofs.Formed.{IsFormed}
use Rattle.object_table.specs.declared.object.Object.{Object}
use Rattle.object_table.proofs.Maps.{get-put_option, put_option_apart}

abbrev pub objects_and : Content → Object → FinMap nat_cmp Object
objects_and s new = put_option s.objects s.next (Some new)

pub same_id : (a b : ℕ) → nat_eq a b ≡ true → a ≡ b
same_id a b q = grind (arith, nat_tests, q)

-- Beside the new object, the stack has what it had.
module _ (s : Content) (w : IsFormed s) (new : Object) where
  abbrev objects_with : FinMap nat_cmp Object
  objects_with = objects_and s new

  -- no object has the next id
  pub none_new : object_at s s.next ≡ None
  none_new = by (object_at s s.next) refl
    where
      by : (found : Option Object) → object_at s s.next ≡ found → found ≡ None
      by None e = refl
      by (Some o) e = absurd (let less : s.next < s.next = w.ids s.next (ap is_some e) in omega arith)

  pub none_at_new : (id : ℕ) → nat_eq id s.next ≡ true → object_at s id ≡ None
  none_at_new id q = ap (object_at s) (same_id id s.next q) ∙ none_new

  pub object-with : (id : ℕ) → get objects_with id ≡ cond (nat_eq id s.next) (Some new) (object_at s id)
  object-with id = get-put_option nat_cmp_total nat_cmp-IsAntisymmetric s.objects s.next (Some new) id
      ∙ ap (λ b. cond b (Some new) (object_at s id)) (unsigned_tied id s.next)

  -- what is said of the object that is found
  pub found-with : {X : Type 0} (f : Option Object → X) (id : ℕ)
      → f (get objects_with id) ≡ cond (nat_eq id s.next) (f (Some new)) (f (object_at s id))
  found-with f id = ap f (object-with id) ∙ by (nat_eq id s.next)
    where
      by : (b : Bool) → f (cond b (Some new) (object_at s id)) ≡ cond b (f (Some new)) (f (object_at s id))
      by true = refl
      by false = refl

  -- what is said alike of the new object and of none
  pub found-as_before : {X : Type 0} (f : Option Object → X) → f (Some new) ≡ f None → (id : ℕ)
      → f (get objects_with id) ≡ f (object_at s id)
  found-as_before f e id = found-with f id ∙ by (nat_eq id s.next) refl
    where
      by : (b : Bool) → nat_eq id s.next ≡ b → cond b (f (Some new)) (f (object_at s id)) ≡ f (object_at s id)
      by true q = e ∙ sym (ap f (none_at_new id q))
      by false q = refl

  pub ids-with : (id : ℕ) → IsSome (get objects_with id) → id < s.next + 1
  ids-with id there = by (nat_eq id s.next) refl
    where
      by : (b : Bool) → nat_eq id s.next ≡ b → id < s.next + 1
      by true q = let same : id ≡ s.next = same_id id s.next q in omega arith
      by false q = let old : id < s.next = w.ids id
          (ap is_some (sym (object-with id ∙ ap (λ b. cond b (Some new) (object_at s id)) q)) ∙ there) in omega arith

  pub count-with : len (remove objects_with 0) ≤ object_count s + 1
  count-with =
      let low : 3 ≤ s.next = w.next_low in
      let apart : s.next ≡ 0 → ⊥ = λ e. absurd (omega arith) in
      rw (put_option_apart nat_cmp_total nat_cmp-IsAntisymmetric s.objects s.next 0 (Some new) None apart)
      (rw (len-insert nat_cmp_total (remove s.objects 0) s.next new)
      (by (contains_key (remove s.objects 0) s.next)))
    where
      by : (b : Bool) → cond b (len (remove s.objects 0)) (len (remove s.objects 0) + 1) ≤ len (remove s.objects 0) + 1
      by true = omega arith
      by false = omega arith

  pub names-with : IsText new.name × IsText new.script → (id : ℕ)
      → IfSome (get objects_with id) (λ o. IsText o.name × IsText o.script)
  names-with h id =
      subst (λ x. IfSome x (λ o. IsText o.name × IsText o.script)) (sym (object-with id)) (by (nat_eq id s.next))
    where
      by : (b : Bool) → IfSome (cond b (Some new) (object_at s id)) (λ o. IsText o.name × IsText o.script)
      by true = h
      by false = w.names id

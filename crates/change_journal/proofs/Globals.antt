-- A global gets a value.
use Rattle.std.proofs.Common.{◌≡◌, ℕ, List, Bool, true, false, cond, refl, sym, subst, Option, Some, None, IfSome}
use Rattle.std.proofs.lemmas.Cmp.{nat_list_cmp_total}
use Rattle.std.specs.Ordering.{nat_cmp, eq_by_cmp}
use Rattle.std.specs.Cmp.{Equal-is}
use Rattle.std.specs.Cmp.Lexicographic.{slice_cmp}
use Rattle.std.specs.FinMap.{get}
use Rattle.ht_values.specs.Text.{IsText, is_folded}
use Rattle.object_table.specs.Maps.{put_option}
use Rattle.object_table.proofs.Maps.{get-put_option}
use Rattle.journal_entries.specs.State.{Globals, AreGlobals, IsGlobal}
use Rattle.journal_entries.proofs.Naming.{antisymmetric}

new_one : (k : List ℕ) (v : Option (List ℕ)) → is_folded k ≡ true → IsText k × IfSome v IsText
    → IfSome v (λ value. IsGlobal k value)
new_one k None f h = tt
new_one k (Some t) f h = record { folded = f; name = h.0; value = h.1 }

pub globals-put : (m : Globals) (k : List ℕ) (v : Option (List ℕ)) → is_folded k ≡ true → IsText k × IfSome v IsText
    → AreGlobals m → AreGlobals (put_option m k v)
globals-put m k v f h q name = subst (λ o. IfSome o (λ value. IsGlobal name value))
    (sym (get-put_option nat_list_cmp_total antisymmetric m k v name)) (by (eq_by_cmp (slice_cmp nat_cmp) name k) refl)
  where
    by : (b : Bool) → eq_by_cmp (slice_cmp nat_cmp) name k ≡ b
        → IfSome (cond b v (get m name)) (λ value. IsGlobal name value)
    by true e = subst (λ n. IfSome v (λ value. IsGlobal n value))
        (sym (antisymmetric name k ((Equal-is (slice_cmp nat_cmp name k)).0 e))) (new_one k v f h)
    by false e = q name

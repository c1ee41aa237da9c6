-- Rows of which no part has a value, and that are closed.
use Rattle.std.proofs.Common.{◌≡◌, ℕ, Bool, true, false, cond, ◌&&◌, nat_eq, List, [], ◌∷◌, refl, sym, ap, ◌∙◌}
use Rattle.std.proofs.Common.{Option, Some, None, option_and_then, is_none, is_some}
use Rattle.std.proofs.lemmas.Bool.{false≢true}
use Rattle.std.specs.FinMap.{same_map}
use Rattle.std.specs.FinSet.{contains}
use Rattle.std.specs.List.{list_all}
use Rattle.std.specs.Map.{lookup}
use Rattle.std.specs.Ordering.{eq_by_cmp}
use Rattle.object_table.specs.Opened.{values_in, open_in}
use Rattle.object_table.specs.Pairs.{Pair, pair_cmp}
use Rattle.object_table.specs.Rows.{entry_at}
use Rattle.object_table.proofs.Opened.{get-map_of, contains-keys_of}
use Rattle.object_table.proofs.Pairs.{pairs, pair_cmp_total, pair_cmp-IsAntisymmetric}
use Rattle.object_table.proofs.Rows.{by_test}

-- a row without a value has none at any part
pub no_value : {X : Type 0} (row : List (ℕ × Option X)) → list_all (λ e. is_none e.1) row ≡ true → (part : ℕ)
    → option_and_then (λ v. v) (entry_at row part) ≡ None
no_value [] h part = refl
no_value {X} (e ∷ row) h part = each (nat_eq part e.0) e.1 h (λ l. no_value row l part)
  where
    each : (b : Bool) (v : Option X) → (is_none v && list_all (λ e. is_none e.1) row) ≡ true
        → (list_all (λ e. is_none e.1) row ≡ true → option_and_then (λ v. v) (entry_at row part) ≡ None)
        → option_and_then (λ v. v) (cond b (Some v) (entry_at row part)) ≡ None
    each true None h later = refl
    each false None h later = later h
    each b (Some x) h later = absurd (false≢true h)

module _ {X : Type 0} (es fs : List (Pair × Option X)) (card : ℕ)
    (updates : (q : Pair) → lookup (eq_by_cmp pair_cmp q) fs
    ≡ cond (nat_eq card q.1) None (lookup (eq_by_cmp pair_cmp q) es)) where
  -- no value goes where none was
  pub values-closed : ((part : ℕ) → option_and_then (λ v. v) (lookup (eq_by_cmp pair_cmp (part, card)) es) ≡ None)
      → values_in fs ≡ values_in es
  values-closed vacant = same_map pair_cmp_total pair_cmp-IsAntisymmetric _ _ (λ q.
      get-map_of pairs fs q
      ∙ ap (option_and_then (λ x. x)) (updates q)
      ∙ each q (nat_eq card q.1) refl
      ∙ sym (get-map_of pairs es q))
    where
      each : (q : Pair) (b : Bool) → nat_eq card q.1 ≡ b
          → option_and_then (λ x. x) (cond b None (lookup (eq_by_cmp pair_cmp q) es))
          ≡ option_and_then (λ x. x) (lookup (eq_by_cmp pair_cmp q) es)
      each q true e = sym (vacant q.0)
          ∙ ap (λ n. option_and_then (λ x. x) (lookup (eq_by_cmp pair_cmp (q.0, n)) es)) (by_test card q.1 e)
      each q false e = refl

  -- what is open of other cards stays
  pub open-closed : (q : Pair) → nat_eq card q.1 ≡ false → contains (open_in fs) q ≡ contains (open_in es) q
  open-closed q apart =
      contains-keys_of pairs fs q
      ∙ ap is_some (updates q ∙ ap (λ b. cond b None (lookup (eq_by_cmp pair_cmp q) es)) apart)
      ∙ sym (contains-keys_of pairs es q)

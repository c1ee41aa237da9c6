-- Where a name stands among folded names of which no two are the same.
use Rattle.std.proofs.Common.{◌≡◌, ℕ, ◌+◌, ◌<◌, ◌≤◌, true, false, cond, List, [], ◌∷◌, get_or, length}
use Rattle.std.proofs.Common.{Option, Some, None, refl, sym, ◌∙◌, ap, arith, true≢false}
use Rattle.std.specs.List.{position_from, position_or_len}
use Rattle.std.specs.Ordering.{is_eq, nat_cmp}
use Rattle.std.specs.Cmp.Lexicographic.{slice_cmp}
use Rattle.std.specs.Str.{bytes_eq}
use Rattle.std.proofs.lemmas.Cmp.{nat_list_eq_equiv}
use Rattle.std.proofs.lemmas.Grind.{common_steps}
use Rattle.std.proofs.lemmas.Iterator.Adapters.{position_from-zero}
use Rattle.std.proofs.lemmas.List.Quantifiers.{position-Some}
use Rattle.std.proofs.lemmas.List.Sums.{fails_before_first}
use Rattle.std.proofs.lemmas.Map.Text.{is_eq-slice_cmp}
use Rattle.std.proofs.lemmas.Slice.Eq.{bytes_eq-Decides}
use Rattle.ht_values.specs.Text.{folded, same}
use Rattle.name_lists.specs.Places.{place_kept, place_of_name, placed_from}
use Rattle.name_lists.proofs.Right.{AreApart, AreFolded, apart_at, folded_at}

module _ (names : List (List ℕ)) (all_folded : AreFolded names) (name : List ℕ) where
  form_of_same : (q : ℕ) → same (get_or names q []) name ≡ true → get_or names q [] ≡ folded name
  form_of_same q e =
      sym (folded_at names q all_folded) ∙ (bytes_eq-Decides (folded (get_or names q [])) (folded name)).0 e

  -- a name stands at the place where its form is
  pub found : AreApart names → (p : ℕ) → p < length names → get_or names p [] ≡ folded name
      → place_of_name name names ≡ Some p
  found apart p within form = by (place_of_name name names) refl
    where
      here : same (get_or names p []) name ≡ true
      here = (bytes_eq-Decides (folded (get_or names p [])) (folded name)).1 (folded_at names p all_folded ∙ form)

      by : (o : Option ℕ) → place_of_name name names ≡ o → o ≡ Some p
      by None e =
          let past : length names ≤ position_or_len (λ n. same n name) names = grind (arith, common_steps) in
          absurd (true≢false (sym here ∙ fails_before_first (λ n. same n name) names p [] (omega (arith, past, within))))
      by (Some q) e =
          let at = position-Some (λ n. same n name) names q [] e in
          ap Some (apart_at names q p apart at.0 within (form_of_same q at.1 ∙ sym form))

  -- a name whose form is nowhere stands nowhere
  pub missing : ((p : ℕ) → p < length names → bytes_eq (get_or names p []) (folded name) ≡ false)
      → place_of_name name names ≡ None
  missing nowhere = by (place_of_name name names) refl
    where
      by : (o : Option ℕ) → place_of_name name names ≡ o → o ≡ None
      by None e = refl
      by (Some q) e =
          let at = position-Some (λ n. same n name) names q [] e in
          let there : bytes_eq (get_or names q []) (folded name) ≡ true =
          (bytes_eq-Decides (get_or names q []) (folded name)).1 (form_of_same q at.1) in
          absurd (true≢false (sym there ∙ nowhere q at.0))

module _ (name : List ℕ) where
  kept_from : (i : ℕ) (ns : List (List ℕ)) → AreFolded ns
      → place_kept (placed_from i ns) name ≡ position_from (λ n. same n name) i ns
  kept_from i [] h = refl
  kept_from i (n ∷ ns) h =
      let asked : is_eq (slice_cmp nat_cmp (folded name) n) ≡ same n name =
      is_eq-slice_cmp (folded name) n ∙ nat_list_eq_equiv.symm (folded name) n
      ∙ ap (λ t. bytes_eq t (folded name)) (sym h.0) in
      ap (λ b. cond b (Some i) (place_kept (placed_from (i + 1) ns) name)) asked
      ∙ ap (cond (same n name) (Some i)) (kept_from (i + 1) ns h.1)

  -- the place that is kept of a name is where it stands
  pub kept_placed : (ns : List (List ℕ)) → AreFolded ns → place_kept (placed_from 0 ns) name ≡ place_of_name name ns
  kept_placed ns h = kept_from 0 ns h ∙ sym (position_from-zero (λ n. same n name) ns)

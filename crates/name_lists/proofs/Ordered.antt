-- The order of names by their folded forms, and what a search by halves finds there.
use Rattle.std.proofs.Common.{◌≡◌, ℕ, ◌<◌, false, List, [], get_or, length, Some, None, All}
use Rattle.std.proofs.Common.{Err, sym, ◌∙◌, ap, arith, subst, inl, inr}
use Rattle.std.specs.List.Sorted.{IsBinarySearchResult, IsPermutation, IsSortedBy}
use Rattle.std.specs.List.{HoldsAt}
use Rattle.std.specs.Ordering.{is_eq, nat_cmp}
use Rattle.std.specs.Cmp.Lexicographic.{slice_cmp}
use Rattle.std.specs.Str.{bytes_eq}
use Rattle.std.specs.declared.cmp.Ordering.{Ordering}
use Rattle.std.specs.declared.cmp.Ordering.TheVariants.{Equal}
use Rattle.std.proofs.lemmas.Bool.{cases_lt}
use Rattle.std.proofs.lemmas.Cmp.{nat_list_cmp_total}
use Rattle.std.proofs.lemmas.Grind.{get_or_default_zero}
use Rattle.std.proofs.lemmas.List.Sorted.{All-permutation, IsPermutation-sym, searchable_from_sorted}
use Rattle.std.proofs.lemmas.Map.Text.{is_eq-slice_cmp}
use Rattle.std.proofs.lemmas.Slice.Eq.{bytes_eq-Decides}
use Rattle.ht_values.specs.Text.{folded}
use Rattle.name_lists.specs.Order.{IsOrderOf, comes_before}
use Rattle.name_lists.specs.Parameters.{bindings_of, names_bound}
use Rattle.name_lists.specs.Places.{place_of_name}
use Rattle.name_lists.proofs.Found.{found, missing}
use Rattle.name_lists.proofs.Right.{names_apart, names_folded}

-- numbers from 0 on that were sorted by the names at them
pub order_from_sorted : (names : List (List ℕ)) (numbers order : List ℕ) → length numbers ≡ length names
    → ((i : ℕ) → i < length names → get_or numbers i 0 ≡ i) → IsPermutation numbers order
    → IsSortedBy (comes_before names) order → IsOrderOf names order
order_from_sorted names numbers order long counted moved rising = record {
  within = All-permutation (λ p. p < length names) numbers order moved (λ k d within.
      let at : get_or numbers k d ≡ k =
      get_or_default_zero numbers k d within ∙ counted k (omega (arith, long, within)) in
      subst (λ q. q < length names) (sym at) (omega (arith, long, within)));
  each = λ t none p within. subst (λ q. t q ≡ false) (counted p within)
      (All-permutation (λ q. t q ≡ false) order numbers (IsPermutation-sym numbers order moved) none p 0
      (omega (arith, long, within)));
  rising = rising;
}

module _ (written : List (List ℕ)) (order : List ℕ) (is : IsOrderOf (names_bound (bindings_of written)) order) where
  abbrev names : List (List ℕ)
  names = names_bound (bindings_of written)

  -- how the form of the name at a place compares with a form
  abbrev compared : List ℕ → ℕ → Ordering
  compared form p = slice_cmp nat_cmp (get_or names p []) form

  -- what is found is where the name stands
  pub search_found : (name : List ℕ) (at : ℕ) → at < length order
      → HoldsAt (λ p. compared (folded name) p ≡ Equal) order at → place_of_name name names ≡ Some (get_or order at 0)
  search_found name at within equal =
      let p = get_or order at 0 in
      let form : get_or names p [] ≡ folded name =
      (bytes_eq-Decides (get_or names p []) (folded name)).0
      (sym (is_eq-slice_cmp (get_or names p []) (folded name)) ∙ ap is_eq (equal 0)) in
      found names (names_folded written) name (names_apart written) p (is.within at 0 within) form

  -- what isn't found stands nowhere
  pub search_missing : (name : List ℕ) (at : ℕ)
      → IsBinarySearchResult (compared (folded name)) order (Err at) → place_of_name name names ≡ None
  search_missing name at parted =
      let parts = parted (searchable_from_sorted nat_list_cmp_total (λ p. get_or names p []) order (folded name) is.rising) in
      let none : All (λ p. bytes_eq (get_or names p []) (folded name) ≡ false) order =
      λ k d within. sym (is_eq-slice_cmp (get_or names (get_or order k d) []) (folded name))
      ∙ elim (cases_lt k at) [
        | inl below ↦ ap is_eq (parts.0 k d (omega arith) below)
        | inr above ↦ ap is_eq (parts.1 k d above within)
      ] in
      missing names (names_folded written) name (λ p within. is.each (λ q. bytes_eq (get_or names q []) (folded name)) none p within)

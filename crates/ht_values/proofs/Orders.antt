-- Texts and values in order.
use Rattle.std.proofs.Common.{◌≡◌, refl, sym, ◌∙◌, ap, ℕ, Bool, true, false, cond, ◌&&◌, List, Ordering}
use Rattle.std.specs.Prelude.{◌↔◌}
use Rattle.std.specs.Cmp.{IsTotalOrder}
use Rattle.std.specs.Ordering.{int_cmp, int_eq, is_eq, ordering_reverse}
use Rattle.std.specs.declared.cmp.Ordering.TheVariants.{Less, Equal, Greater}
use Rattle.std.proofs.lemmas.Bool.{false≢true}
use Rattle.std.proofs.lemmas.Cmp.{int_cmp_total, nat_list_cmp_total, on_total}
use Rattle.std.proofs.lemmas.Map.Text.{is_eq-slice_cmp}
use Rattle.std.proofs.lemmas.Slice.Eq.{bytes_eq-Decides}
use Rattle.ht_values.specs.Laws.{PlacesAreFirst, TextsAreOrdered, ValuesAreOrdered}
use Rattle.ht_values.specs.Number.{is_numeral, value_of}
use Rattle.ht_values.specs.Operators.{are_numerals, order_of, text_order}
use Rattle.ht_values.specs.Text.{Same, folded, same}
use Rattle.ht_values.proofs.Searches.{found}

pub places_are_first : PlacesAreFirst
places_are_first run t = found (folded run) (folded t)

texts_total : IsTotalOrder text_order
texts_total = on_total folded nat_list_cmp_total

equal_if : (o : Ordering) → is_eq o ≡ true → o ≡ Equal
equal_if Less e = let no : ⊥ = cc in absurd no
equal_if Equal e = refl
equal_if Greater e = let no : ⊥ = cc in absurd no

texts_equal : (a b : List ℕ) → (text_order a b ≡ Equal) ↔ Same a b
texts_equal a b =
    let d = bytes_eq-Decides (folded a) (folded b) in
    let e = is_eq-slice_cmp (folded a) (folded b) in
    (λ o. d.0 (sym e ∙ ap is_eq o), λ s. equal_if (text_order a b) (e ∙ d.1 s))

pub texts_are_ordered : TextsAreOrdered
texts_are_ordered = record { total = texts_total; equal = texts_equal }

module _ (a b : List ℕ) where
  equal_by : (v : Bool) → cond v (int_eq (value_of a) (value_of b)) (same a b)
      ≡ is_eq (cond v (int_cmp (value_of a) (value_of b)) (text_order a b))
  equal_by true = refl
  equal_by false = sym (is_eq-slice_cmp (folded a) (folded b))

  turned_by : (v w : Bool) → cond (v && w) (int_cmp (value_of a) (value_of b)) (text_order a b)
      ≡ ordering_reverse (cond (w && v) (int_cmp (value_of b) (value_of a)) (text_order b a))
  turned_by true true = int_cmp_total.antisymm (value_of a) (value_of b)
  turned_by true false = texts_total.antisymm a b
  turned_by false true = texts_total.antisymm a b
  turned_by false false = texts_total.antisymm a b

module _ (a b c : List ℕ) where
  abbrev ordered : Bool → Bool → List ℕ → List ℕ → Ordering
  ordered v w x y = cond (v && w) (int_cmp (value_of x) (value_of y)) (text_order x y)

  onward_by : (v w u : Bool) → v ≡ w → w ≡ u → ordered v w a b ≡ Less → ordered w u b c ≡ Less → ordered v u a c ≡ Less
  onward_by true true true e f = int_cmp_total.trans (value_of a) (value_of b) (value_of c)
  onward_by false false false e f = texts_total.trans a b c
  onward_by true false u e f = absurd (false≢true (sym e))
  onward_by false true u e f = absurd (false≢true e)
  onward_by true true false e f = absurd (false≢true (sym f))
  onward_by false false true e f = absurd (false≢true f)

  onward : is_numeral a ≡ is_numeral b → is_numeral b ≡ is_numeral c → order_of a b ≡ Less → order_of b c ≡ Less
      → order_of a c ≡ Less
  onward = onward_by (is_numeral a) (is_numeral b) (is_numeral c)

pub values_are_ordered : ValuesAreOrdered
values_are_ordered = record {
  equal = λ a b. equal_by a b (are_numerals a b);
  turned = λ a b. turned_by a b (is_numeral a) (is_numeral b);
  onward = λ a b c. onward a b c;
}

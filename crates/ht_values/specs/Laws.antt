-- What the definitions of values promise.
use Rattle.std.specs.Prelude.{◌≡◌, ℕ, ◌<◌, List, ℤ, pos, ◌+ℤ◌, ◌*ℤ◌, ◌≤ℤ◌, unsigned_abs, IsTrue, ◌↔◌, Ok}
use Rattle.std.specs.Cmp.{IsTotalOrder}
use Rattle.std.specs.Ordering.{is_eq, ordering_reverse}
use Rattle.std.specs.declared.cmp.Ordering.TheVariants.{Less, Equal}
use Rattle.bstr.specs.Find.{FindsNeedle}
use Rattle.ht_values.specs.Number.{is_in_range, is_numeral, number_of}
use Rattle.ht_values.specs.Operators.{are_equal, cut_quotient, order_of, remainder, text_order}
use Rattle.ht_values.specs.Search.{place_of}
use Rattle.ht_values.specs.Text.{Same, folded, numeral}

-- the number of a number's numeral is that number
abbrev pub NumeralsReadBack : Type 0
NumeralsReadBack = (z : ℤ) → IsTrue (is_in_range z) → number_of (numeral z) ≡ Ok z

-- quotient and remainder make the dividend; the remainder is smaller than the divisor, and 0 or of the dividend's sign
pub record IsDivision (x y q r : ℤ) : Type 0 where
  pub whole : ((q *ℤ y) +ℤ r) ≡ x
  pub small : unsigned_abs r < unsigned_abs y
  pub not_below : pos 0 ≤ℤ x → pos 0 ≤ℤ r
  pub not_above : x ≤ℤ pos 0 → r ≤ℤ pos 0

-- `div` and `mod` are such a quotient and remainder
abbrev pub DivAndModDivide : Type 0
DivAndModDivide = (x y q r : ℤ) → cut_quotient x y ≡ Ok q → remainder x y ≡ Ok r → IsDivision x y q r

-- texts are in a total order, in which those are equal that are the same
pub record TextsAreOrdered : Type 0 where
  pub total : IsTotalOrder text_order
  pub equal : (a b : List ℕ) → (text_order a b ≡ Equal) ↔ Same a b

-- values are equal where neither stands before the other; turned round, the order is turned round; and among numerals,
-- as among other texts, it goes on from one pair to the next. (It doesn't from numerals to texts: 9 < 10, 10 < 5x, 5x <
-- 9.)
pub record ValuesAreOrdered : Type 0 where
  pub equal : (a b : List ℕ) → are_equal a b ≡ is_eq (order_of a b)
  pub turned : (a b : List ℕ) → order_of a b ≡ ordering_reverse (order_of b a)
  pub onward : (a b c : List ℕ) → is_numeral a ≡ is_numeral b → is_numeral b ≡ is_numeral c → order_of a b ≡ Less
      → order_of b c ≡ Less → order_of a c ≡ Less

-- the place of a run is the first at which its folded bytes stand
abbrev pub PlacesAreFirst : Type 0
PlacesAreFirst = (run t : List ℕ) → FindsNeedle (folded t) (folded run) 0 (place_of run t)

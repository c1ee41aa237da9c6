-- Pairs of ids by their order.
use Rattle.std.proofs.Common.{◌≡◌, ℕ, Bool, true, false, cond, ◌&&◌, ◌||◌, nat_eq, List, [], ◌∷◌, refl, sym, ap, ◌∙◌}
use Rattle.std.proofs.Common.{Option, option_and_then, is_some}
use Rattle.std.proofs.Common.{arith}
use Rattle.std.proofs.lemmas.Bool.{or_right}
use Rattle.std.proofs.lemmas.Bool.Decides.{nat_tests}
use Rattle.std.specs.FinMap.{same_map}
use Rattle.std.specs.FinSet.{FinSet, contains, contains-insert, same_set, insert}
use Rattle.std.specs.List.{AllByRecursion}
use Rattle.std.specs.Map.{lookup}
use Rattle.object_table.specs.Objects.{contains_id}
use Rattle.object_table.specs.Opened.{values_in, open_in, with_parts}
use Rattle.object_table.specs.Rows.{opened_at}
use Rattle.std.specs.Ordering.{nat_cmp, eq_by_cmp, ordering_then}
use Rattle.std.specs.declared.cmp.Ordering.{Ordering}
use Rattle.std.specs.declared.cmp.Ordering.TheVariants.{Less, Equal, Greater}
use Rattle.std.specs.Cmp.{IsTotalOrder, nat_cmp_total, on_total, then_total, tied_then, unsigned_tied}
use Rattle.std.specs.FinMap.{IsAntisymmetric, nat_cmp-IsAntisymmetric}
use Rattle.object_table.specs.Pairs.{Pair, pair_cmp}
use Rattle.object_table.proofs.Opened.{AreKeys, get-map_of, contains-keys_of, contains-inserted}

-- the test of two pairs
abbrev pub same_pair : Pair → Pair → Bool
same_pair p q = nat_eq p.0 q.0 && nat_eq p.1 q.1

pub pair_cmp_total : IsTotalOrder pair_cmp
pair_cmp_total = then_total (on_total (λ p. p.0) nat_cmp_total) (on_total (λ p. p.1) nat_cmp_total)

both : (a b : Ordering) → ordering_then a b ≡ Equal → (a ≡ Equal) × (b ≡ Equal)
both Equal b e = (refl, e)
both Less b e = let no : Less ≡ Equal → (Less ≡ Equal) × (b ≡ Equal) = λ q. cc in no e
both Greater b e = let no : Greater ≡ Equal → (Greater ≡ Equal) × (b ≡ Equal) = λ q. cc in no e

pub pair_cmp-IsAntisymmetric : IsAntisymmetric pair_cmp
pair_cmp-IsAntisymmetric p q e =
    let parts = both (nat_cmp p.0 q.0) (nat_cmp p.1 q.1) e in
    λ i. (nat_cmp-IsAntisymmetric p.0 q.0 parts.0 i, nat_cmp-IsAntisymmetric p.1 q.1 parts.1 i)

-- pairs that the order does not tell apart
pub pair_tied : (p q : Pair) → eq_by_cmp pair_cmp p q ≡ same_pair p q
pair_tied p q =
    sym (tied_then (nat_cmp p.0 q.0) (nat_cmp p.1 q.1)) ∙ (λ i. unsigned_tied p.0 q.0 i && unsigned_tied p.1 q.1 i)

pub pairs : AreKeys pair_cmp
pairs = record { total = pair_cmp_total; apart = pair_cmp-IsAntisymmetric }

-- ---- the pairs of several parts and a card

turned : (a b : ℕ) → nat_eq a b ≡ nat_eq b a
turned a b = grind (arith, nat_tests)

-- which pairs are in
pub contains-with_parts : (s : FinSet pair_cmp) (parts : List ℕ) (card : ℕ) (q : Pair)
    → contains (with_parts s parts card) q ≡ ((contains_id q.0 parts && nat_eq card q.1) || contains s q)
contains-with_parts s [] card q = refl
contains-with_parts s (part ∷ parts) card q =
    contains-with_parts (insert s (part, card)) parts card q
    ∙ ap (λ b. (contains_id q.0 parts && nat_eq card q.1) || b)
    (contains-insert pair_cmp_total s (part, card) q
    ∙ ap (λ b. b || contains s q) (pair_tied q (part, card)
    ∙ (λ i. turned q.0 part i && turned q.1 card i)))
    ∙ joined (contains_id q.0 parts) (nat_eq part q.0) (nat_eq card q.1) (contains s q)
  where
    joined : (a b c d : Bool) → ((a && c) || ((b && c) || d)) ≡ (((b || a) && c) || d)
    joined true true true d = refl
    joined true true false d = refl
    joined true false true d = refl
    joined true false false d = refl
    joined false true true d = refl
    joined false true false d = refl
    joined false false c d = refl

-- what was in stays
pub with_parts-wider : (s : FinSet pair_cmp) (parts : List ℕ) (card : ℕ) (q : Pair) → contains s q ≡ true
    → contains (with_parts s parts card) q ≡ true
with_parts-wider s parts card q h =
    contains-with_parts s parts card q ∙ or_right (contains_id q.0 parts && nat_eq card q.1) (contains s q) h

-- each of them is in
pub all_with_parts : (s : FinSet pair_cmp) (parts : List ℕ) (card : ℕ)
    → AllByRecursion (λ part. contains (with_parts s parts card) (part, card) ≡ true) parts
all_with_parts s [] card = tt
all_with_parts s (part ∷ parts) card = (
  with_parts-wider (insert s (part, card)) parts card (part, card) (contains-inserted pairs s (part, card)),
  all_with_parts (insert s (part, card)) parts card,
)

module _ {X : Type 0} (es fs : List (Pair × Option X)) (parts : List ℕ) (card : ℕ)
    (updates : (q : Pair) → lookup (eq_by_cmp pair_cmp q) fs ≡ cond (nat_eq card q.1)
    (cond (contains_id q.0 parts) (opened_at (lookup (eq_by_cmp pair_cmp q) es)) (lookup (eq_by_cmp pair_cmp q) es))
    (lookup (eq_by_cmp pair_cmp q) es)) where
  -- the values stay
  pub values-opened : values_in fs ≡ values_in es
  values-opened = same_map pair_cmp_total pair_cmp-IsAntisymmetric _ _ (λ q.
      get-map_of pairs fs q
      ∙ ap (option_and_then (λ x. x)) (updates q)
      ∙ kept (contains_id q.0 parts) (nat_eq card q.1) (lookup (eq_by_cmp pair_cmp q) es)
      ∙ sym (get-map_of pairs es q))
    where
      kept : (a b : Bool) (o : Option (Option X))
          → option_and_then (λ x. x) (cond b (cond a (opened_at o) o) o) ≡ option_and_then (λ x. x) o
      kept true true o = refl
      kept true false o = refl
      kept false true o = refl
      kept false false o = refl

  -- and the parts are open for the card
  pub open-opened : open_in fs ≡ with_parts (open_in es) parts card
  open-opened = same_set pair_cmp_total pair_cmp-IsAntisymmetric _ _ (λ q.
      contains-keys_of pairs fs q
      ∙ ap is_some (updates q)
      ∙ opens (contains_id q.0 parts) (nat_eq card q.1) (lookup (eq_by_cmp pair_cmp q) es)
      ∙ ap (λ b. (contains_id q.0 parts && nat_eq card q.1) || b) (sym (contains-keys_of pairs es q))
      ∙ sym (contains-with_parts (open_in es) parts card q))
    where
      opens : (a b : Bool) (o : Option (Option X))
          → is_some (cond b (cond a (opened_at o) o) o) ≡ ((a && b) || is_some o)
      opens true true o = refl
      opens true false o = refl
      opens false true o = refl
      opens false false o = refl

-- What stands in the lists of a well formed stack.
use Rattle.std.proofs.Common.{◌≡◌, ◌==◌, ◌||◌, ℕ, inl, inr, ◌≤◌, Bool, true, false, List, [], ◌∷◌, length, refl, sym}
use Rattle.std.proofs.Common.{ap, ◌∙◌, arith, Option, Some, None, option_map, unwrap_or, flat_map}
use Rattle.std.proofs.lemmas.Bool.{cases_eq, false≢true, or_right}
use Rattle.std.proofs.lemmas.List.Folds.{list_any-append}
use Rattle.object_table.proofs.Counting.{contains_id-later}
use Rattle.object_table.specs.Content.{Content}
use Rattle.object_table.specs.Objects.{has_kind, object_at, contains_id}
use Rattle.object_table.specs.WellFormed.{NamesEach}
use Rattle.object_table.specs.declared.object.Object.{Object}
use Rattle.object_table.specs.declared.object.Kind.{Kind}

-- an object of a kind is there
pub has_kind-object : (p : Kind → Bool) (s : Content) (id : ℕ) → has_kind p s id ≡ true
    → (o : Object) × (object_at s id ≡ Some o) × (p o.kind ≡ true)
has_kind-object p s id h = by (object_at s id) h
  where
    by : (found : Option Object) → unwrap_or (option_map (λ o. p o.kind) found) false ≡ true
        → (o : Object) × (found ≡ Some o) × (p o.kind ≡ true)
    by None e = absurd (false≢true e)
    by (Some o) e = (o, refl, e)

pub object-has_kind : (p : Kind → Bool) (s : Content) (id : ℕ) (o : Object) → object_at s id ≡ Some o → p o.kind ≡ true
    → has_kind p s id ≡ true
object-has_kind p s id o found passes = ap (λ x. unwrap_or (option_map (λ y. p y.kind) x) false) found ∙ passes

-- a weaker test passes too
pub has_kind-weaker : (p q : Kind → Bool) (s : Content) (id : ℕ) → ((k : Kind) → p k ≡ true → q k ≡ true)
    → has_kind p s id ≡ true → has_kind q s id ≡ true
has_kind-weaker p q s id weaker h =
    let o = has_kind-object p s id h in object-has_kind q s id o.0 o.1 (weaker o.0.kind o.2)

-- what a piece contains, the pieces together contain
pub contains_id-flat_map : (f : ℕ → List ℕ) (xs : List ℕ) (x id : ℕ) → contains_id x xs ≡ true
    → contains_id id (f x) ≡ true → contains_id id (flat_map f xs) ≡ true
contains_id-flat_map f [] x id found h = absurd (false≢true found)
contains_id-flat_map f (y ∷ ys) x id found h =
    list_any-append (λ n. n == id) (f y) (flat_map f ys)
    ∙ elim (cases_eq y x) [
      | inl e ↦ ap (λ b. b || contains_id id (flat_map f ys)) (ap (λ n. contains_id id (f n)) e ∙ h)
      | inr n ↦ or_right (contains_id id (f y)) _ (contains_id-flat_map f ys x id (contains_id-later x y ys n found) h)
    ]

-- a list that names each id of a kind has ids of that kind alone
pub listed : {p : ℕ → Bool} {ids : List ℕ} → NamesEach p ids → (id : ℕ) → contains_id id ids ≡ true → p id ≡ true
listed names id found = sym (names.each id) ∙ found

-- Lists of ids, and of pairs of them, that ascend.
use Rattle.std.proofs.Common.{◌≡◌, ℕ, Bool, true, false, cond, ◌&&◌, ◌||◌, List, [], ◌∷◌, filter, map, nat_eq, eqb}
use Rattle.std.proofs.Common.{refl, sym, subst, ap, ◌∙◌, T, Option, Some, None, is_some, option_map, option_and_then}
use Rattle.std.proofs.Common.{unwrap_or}
use Rattle.std.proofs.Math.Bool.{and-true}
use Rattle.std.proofs.lemmas.Bool.{false≢true}
use Rattle.std.proofs.lemmas.Cmp.{tied_itself}
use Rattle.std.proofs.lemmas.List.Kept.{IsStrictlySortedBy-filter, IsStrictlySortedBy-dedup}
use Rattle.std.proofs.lemmas.List.Sorted.{list_any-IsPermutation}
use Rattle.std.proofs.lemmas.Map.Keys.{sorted_head, sorted_tail}
use Rattle.std.specs.Cmp.{IsTotalOrder, Equal-is, nat_cmp_total, unsigned_tied}
use Rattle.std.specs.FinMap.{FinMap, IsAntisymmetric, contains_key-keys, entries, entries_sorted, get, keys, is_sorted}
use Rattle.std.specs.FinMap.{nat_cmp-IsAntisymmetric}
use Rattle.std.specs.FinMap.Entries.{below_all}
use Rattle.std.specs.List.{AllByRecursion, dedup, dedup_from, list_any}
use Rattle.std.specs.List.Sorted.{IsStrictlySortedBy, IsSorted, IsPermutation}
use Rattle.std.specs.Ordering.{eq_by_cmp, is_lt, nat_cmp}
use Rattle.std.specs.declared.cmp.Ordering.{Ordering}
use Rattle.std.specs.declared.cmp.Ordering.TheVariants.{Less, Equal, Greater}
use Rattle.object_table.specs.Content.{Content}
use Rattle.object_table.specs.Objects.{contains_id, object_at, has_kind, parts_at, is_card, background_of}
use Rattle.object_table.specs.WellFormed.{IsWellFormed}
use Rattle.object_table.specs.declared.object.Object.{Object}
use Rattle.object_table.specs.declared.object.Kind.{Kind}
use Rattle.object_table.specs.declared.object.Kind.TheVariants.{Card}
use Rattle.structural_changes.specs.Writes.{is_card_of, is_part_of}
use Rattle.structural_changes.proofs.Filled.{any-filter, any-keys}

-- whether a list has what an order doesn't tell apart
abbrev pub has : {K : Type 0} → (K → K → Ordering) → K → List K → Bool
has R z = list_any (eq_by_cmp R z)

module _ {K : Type 0} {R : K → K → Ordering} (total : IsTotalOrder R) (same : IsAntisymmetric R) where
  -- ---- one list for its members

  one : (x y : K) → eq_by_cmp R x y ≡ true → x ≡ y
  one x y e = same x y ((Equal-is (R x y)).0 e)

  below : (k : K) (ks : List K) → AllByRecursion (λ y. R k y ≡ Less) ks → (z : K) → has R z ks ≡ true → R k z ≡ Less
  below k [] all z e = absurd (false≢true e)
  below k (y ∷ ys) all z e = by (λ h. below k ys all.1 z h) (eq_by_cmp R z y) refl e
    where
      by : (has R z ys ≡ true → R k z ≡ Less) → (b : Bool) → eq_by_cmp R z y ≡ b → b || has R z ys ≡ true → R k z ≡ Less
      by rest true q h = ap (R k) (one z y q) ∙ all.0
      by rest false q h = rest h

  itself : (x : K) → eq_by_cmp R x x ≡ true
  itself x = (Equal-is (R x x)).1 (tied_itself total x)

  not_below : (x : K) → R x x ≡ Less → ⊥
  not_below x e = false≢true (ap is_eq_to (sym e) ∙ ap is_eq_to (tied_itself total x))
    where
      is_eq_to : Ordering → Bool
      is_eq_to Equal = true
      is_eq_to _ = false

  here : (x : K) (xs : List K) → has R x (x ∷ xs) ≡ true
  here x xs = ap (λ b. b || has R x xs) (itself x)

  -- what is said of the members says so of the others
  others : (x : K) (xs ys : List K) → AllByRecursion (λ y. R x y ≡ Less) xs → AllByRecursion (λ y. R x y ≡ Less) ys
      → ((z : K) → has R z (x ∷ xs) ≡ has R z (x ∷ ys)) → (z : K) → has R z xs ≡ has R z ys
  others x xs ys all alls alike z = by (eq_by_cmp R z x) refl (alike z)
    where
      not_in : (zs : List K) → AllByRecursion (λ y. R x y ≡ Less) zs → eq_by_cmp R z x ≡ true → has R z zs ≡ false
      not_in zs h q = is (has R z zs) refl
        where
          is : (b : Bool) → has R z zs ≡ b → b ≡ false
          is true e = absurd (not_below x (ap (R x) (sym (one z x q)) ∙ below x zs h z e))
          is false e = refl

      by : (b : Bool) → eq_by_cmp R z x ≡ b → b || has R z xs ≡ b || has R z ys → has R z xs ≡ has R z ys
      by true q h = not_in xs all q ∙ sym (not_in ys alls q)
      by false q h = h

  nothing_in : (x : K) (xs : List K) → ((z : K) → false ≡ has R z (x ∷ xs)) → ⊥
  nothing_in x xs h = false≢true (h x ∙ here x xs)

  -- two lists that ascend and have the same members are one
  pub ascending_once : (xs ys : List K) → IsStrictlySortedBy R xs → IsStrictlySortedBy R ys
      → ((z : K) → has R z xs ≡ has R z ys) → xs ≡ ys
  ascending_once [] [] s t alike = refl
  ascending_once [] (y ∷ ys) s t alike = absurd (nothing_in y ys alike)
  ascending_once (x ∷ xs) [] s t alike = absurd (nothing_in x xs (λ z. sym (alike z)))
  ascending_once (x ∷ xs) (y ∷ ys) s t alike =
      let all = sorted_head R x xs s in
      let alls = sorted_head R y ys t in
      let e : x ≡ y = first (eq_by_cmp R x y) refl (eq_by_cmp R y x) refl (sym (alike x) ∙ here x xs)
      (alike y ∙ here y ys) all alls in
      let all_y : AllByRecursion (λ z. R y z ≡ Less) xs = subst (λ k. AllByRecursion (λ z. R k z ≡ Less) xs) e all in
      let alike_y : (z : K) → has R z (y ∷ xs) ≡ has R z (y ∷ ys) = λ z. ap (λ k. has R z (k ∷ xs)) (sym e) ∙ alike z in
      λ i. e i ∷ ascending_once xs ys (sorted_tail R x xs s) (sorted_tail R y ys t) (others y xs ys all_y alls alike_y)
      i
    where
      first : (a : Bool) → eq_by_cmp R x y ≡ a → (b : Bool) → eq_by_cmp R y x ≡ b → a || has R x ys ≡ true
          → b || has R y xs ≡ true → AllByRecursion (λ z. R x z ≡ Less) xs → AllByRecursion (λ z. R y z ≡ Less) ys
          → x ≡ y
      first true p b q h k all alls = one x y p
      first false p true q h k all alls = sym (one y x q)
      first false p false q h k all alls =
          absurd (not_below x (total.trans x y x (below x xs all y k) (below y ys alls x h)))

  -- ---- where such lists come from

  all_below : {X : Type 0} (x : K) (es : List (K × X)) → T (below_all R x es)
      → AllByRecursion (λ y. R x y ≡ Less) (map (λ e. e.0) es)
  all_below x [] h = tt
  all_below x (e ∷ es) h = by (λ k. all_below x es k) (R x e.0) refl h
    where
      by : (T (below_all R x es) → AllByRecursion (λ y. R x y ≡ Less) (map (λ d. d.0) es)) → (o : Ordering)
          → R x e.0 ≡ o → T (is_lt o && below_all R x es) → AllByRecursion (λ y. R x y ≡ Less) (map (λ e. e.0) (e ∷ es))
      by rest Less q h = (q, rest h)
      by rest Equal q h = absurd h
      by rest Greater q h = absurd h

  keys_ascend : {X : Type 0} (es : List (K × X)) → T (is_sorted R es) → IsStrictlySortedBy R (map (λ e. e.0) es)
  unfolding IsStrictlySortedBy
  keys_ascend [] h = tt
  keys_ascend (e ∷ es) h = by (λ k. keys_ascend es k) (below_all R e.0 es) refl h
    where
      by : (T (is_sorted R es) → IsStrictlySortedBy R (map (λ d. d.0) es)) → (b : Bool) → below_all R e.0 es ≡ b
          → T (b && is_sorted R es) → IsStrictlySortedBy R (map (λ e. e.0) (e ∷ es))
      by rest true q h = (all_below e.0 es (subst T (sym q) tt), rest h)
      by rest false q h = absurd h

  has-dedup_from : (E : K → K → Bool) → ((x y : K) → E x y ≡ eq_by_cmp R x y) → (z k : K) (xs : List K)
      → has R z (dedup_from E k xs) ≡ has R z (k ∷ xs)
  has-dedup_from E ties z k [] = refl
  has-dedup_from E ties z k (x ∷ xs) = by (has-dedup_from E ties z k xs) (has-dedup_from E ties z x xs) (E x k) refl
    where
      both : (b c : Bool) → b || c ≡ b || (b || c)
      both true c = refl
      both false c = refl

      by : has R z (dedup_from E k xs) ≡ has R z (k ∷ xs) → has R z (dedup_from E x xs) ≡ has R z (x ∷ xs) → (b : Bool)
          → E x k ≡ b → has R z (cond b (dedup_from E k xs) (k ∷ dedup_from E x xs)) ≡ has R z (k ∷ x ∷ xs)
      by a c true q = a ∙ both (eq_by_cmp R z k) (has R z xs)
          ∙ ap (λ y. eq_by_cmp R z k || (eq_by_cmp R z y || has R z xs)) (sym (one x k (sym (ties x k) ∙ q)))
      by a c false q = ap (λ b. eq_by_cmp R z k || b) c

  has-dedup : (E : K → K → Bool) → ((x y : K) → E x y ≡ eq_by_cmp R x y) → (z : K) (xs : List K)
      → has R z (dedup E xs) ≡ has R z xs
  has-dedup E ties z [] = refl
  has-dedup E ties z (x ∷ xs) = has-dedup_from E ties z x xs

  pub keys_where_ascend : {X : Type 0} (m : FinMap R X) (p : K → Bool) → IsStrictlySortedBy R (filter p (keys m))
  keys_where_ascend m p = IsStrictlySortedBy-filter R p (keys m) (keys_ascend (entries m) (entries_sorted m))

  has-keys_where : {X : Type 0} (m : FinMap R X) (p : K → Bool) (z : K)
      → has R z (filter p (keys m)) ≡ p z && is_some (get m z)
  has-keys_where m p z = any-filter total same z p (keys m) ∙ ap (λ b. p z && b) (sym (contains_key-keys m z))

  -- keys that were sorted, each once
  pub sorted_once : (E : K → K → Bool) → ((x y : K) → E x y ≡ eq_by_cmp R x y) → (found sorted : List K)
      → IsPermutation found sorted → IsSorted R sorted
      → IsStrictlySortedBy R (dedup E sorted) × ((z : K) → has R z (dedup E sorted) ≡ has R z found)
  sorted_once E ties found sorted moved
      ascend = (
        IsStrictlySortedBy-dedup total ties sorted ascend,
        λ z. has-dedup E ties z sorted
            ∙ sym (list_any-IsPermutation (eq_by_cmp R z) found sorted moved),
      )

  -- keys that ascend are those that pass, where they are just those
  pub ascending_keys : {X : Type 0} (m : FinMap R X) (p : K → Bool) (ks : List K) → IsStrictlySortedBy R ks
      → ((z : K) → has R z ks ≡ p z && is_some (get m z)) → ks ≡ filter p (keys m)
  ascending_keys m p ks ascend is =
      ascending_once ks (filter p (keys m)) ascend (keys_where_ascend m p) (λ z. is z ∙ sym (has-keys_where m p z))

-- ids that were sorted, each once, are the keys that pass, where before they were just those
pub sorted_ids : {X : Type 0} (m : FinMap nat_cmp X) (p : ℕ → Bool) (found sorted : List ℕ)
    → ((z : ℕ) → contains_id z found ≡ p z && is_some (get m z)) → IsPermutation found sorted → IsSorted nat_cmp sorted
    → dedup eqb sorted ≡ filter p (keys m)
sorted_ids m p found sorted is moved ascend =
    let once = sorted_once nat_cmp_total nat_cmp-IsAntisymmetric eqb (λ x y. sym (unsigned_tied x y)) found sorted moved
    ascend in
    ascending_keys nat_cmp_total nat_cmp-IsAntisymmetric m p (dedup eqb sorted) once.0
    (λ z. once.1 z ∙ any-keys z found ∙ is z)

contains-filter : (id : ℕ) (p : ℕ → Bool) (xs : List ℕ) → contains_id id (filter p xs) ≡ p id && contains_id id xs
contains-filter id p xs = sym (any-keys id (filter p xs)) ∙ any-filter nat_cmp_total nat_cmp-IsAntisymmetric id p xs
    ∙ ap (λ b. p id && b) (any-keys id xs)

-- the cards of a background, as they stand in the order of cards
pub cards_found : (s : Content) → IsWellFormed s → (background id : ℕ)
    → contains_id id (filter (is_card_of s background) s.cards) ≡ is_card_of s background id && is_some (object_at s id)
cards_found s w background id = contains-filter id (is_card_of s background) s.cards
    ∙ ap (λ b. is_card_of s background id && b) (w.cards.each id) ∙ by (object_at s id)
  where
    home : Kind → Bool
    home k = unwrap_or (option_map (λ b. nat_eq b background) (background_of k)) false

    of_kind : (k : Kind) → home k && is_card k ≡ home k && true
    of_kind (Card b c) = refl
    of_kind _ = refl

    by : (found : Option Object) → let is : Bool = unwrap_or
        (option_map (λ b. nat_eq b background) (option_and_then (λ o. background_of o.kind) found)) false in is &&
        unwrap_or (option_map (λ o. is_card o.kind) found) false ≡ is && is_some found
    by None = refl
    by (Some o) = of_kind o.kind

-- the parts of a background that pass, as they stand in its list
pub parts_found : (s : Content) (p : Kind → Bool) (background id : ℕ)
    → contains_id id (filter (has_kind p s) (parts_at s background))
    ≡ is_part_of p s background id && is_some (object_at s id)
parts_found s p background id = contains-filter id (has_kind p s) (parts_at s background)
    ∙ by (object_at s id) (contains_id id (parts_at s background))
  where
    by : (found : Option Object) (b : Bool)
        → unwrap_or (option_map (λ o. p o.kind) found) false && b
        ≡ (unwrap_or (option_map (λ o. p o.kind) found) false && b) && is_some found
    by None b = refl
    by (Some o) b = sym (and-true (p o.kind && b))

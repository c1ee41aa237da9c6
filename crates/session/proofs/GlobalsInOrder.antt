-- Globals in the order of their names.
use Rattle.std.proofs.Common.{◌≡◌, ◌≢◌, ℕ, zero, suc, ◌+◌, ◌<◌, false, Option, option_map, List, [], ◌∷◌, ◌++◌, length}
use Rattle.std.proofs.Common.{map, take, get_or, refl, sym, ◌∙◌, ap, arith, add-one, Some, None, slice_get}
use Rattle.std.specs.Borrow.{Bor}
use Rattle.std.specs.BTreeMap.{insert_entry}
use Rattle.std.specs.Cmp.Lexicographic.{slice_cmp, nat_list_cmp_total}
use Rattle.std.specs.declared.cmp.Ordering.{Ordering}
use Rattle.std.specs.declared.cmp.Ordering.TheVariants.{Less, Equal, Greater}
use Rattle.std.specs.FinMap.{get, find, put, entries, from_entries, empty, len-entries, len-empty, entries-insert}
use Rattle.std.specs.FinMap.{from_entries_push, slice_cmp-IsAntisymmetric, nat_cmp-IsAntisymmetric}
use Rattle.std.specs.FinMap.Entries.{by_order}
use Rattle.std.specs.Map.Iter.{deref_pair}
use Rattle.std.specs.Ordering.{nat_cmp, is_eq, match_ordering}
use Rattle.std.proofs.Math.Seq.{take-suc}
use Rattle.std.proofs.lemmas.List.{nil_from_length}
use Rattle.std.proofs.lemmas.Option.{slice_get_within, get_or_from_slice_get}
use Rattle.journal_entries.specs.State.{Globals}
use Rattle.journal_entries.specs.Named.{AreDistinct, IsNew, listed, numbered, with_value}

-- an entry in its place among borrowed ones, and among what they borrow
put_shown : (k v : Bor (List ℕ)) (es : List (Bor (List ℕ) × Bor (List ℕ)))
    → map deref_pair (insert_entry (λ x y. slice_cmp nat_cmp x.now y.now) es k v)
    ≡ put (slice_cmp nat_cmp) k.now v.now (map deref_pair es)
put_shown k v [] = refl
put_shown k v (e ∷ es) =
    elim (slice_cmp nat_cmp k.now e.0.now)
    as (λ o. map deref_pair (match_ordering o ((k, v) ∷ e ∷ es) ((e.0, v) ∷ es)
    (e ∷ insert_entry (λ x y. slice_cmp nat_cmp x.now y.now) es k v))
    ≡ by_order o ((k.now, v.now) ∷ map deref_pair (e ∷ es)) ((e.0.now, v.now) ∷ map deref_pair es)
    (deref_pair e ∷ put (slice_cmp nat_cmp) k.now v.now (map deref_pair es))) [
      | Less ↦ refl
      | Equal ↦ refl
      | Greater ↦ ap (λ t. deref_pair e ∷ t) (put_shown k v es)
    ]

apart : (q n : List ℕ) → n ≢ q → is_eq (slice_cmp nat_cmp q n) ≡ false
apart q n ne = of_order (slice_cmp nat_cmp q n) refl
  where
    of_order : (o : Ordering) → slice_cmp nat_cmp q n ≡ o → is_eq o ≡ false
    of_order Less e = refl
    of_order Equal e = absurd (ne (sym (slice_cmp-IsAntisymmetric nat_cmp-IsAntisymmetric q n e)))
    of_order Greater e = refl

new_at : (n : List ℕ) (es : List (List ℕ × List ℕ)) (i : ℕ) (d : List ℕ × List ℕ) → IsNew n (map (λ e. e.0) es)
    → i < length es → n ≢ (get_or es i d).0
new_at n [] i d new lt = absurd (omega arith)
new_at n (e ∷ es) zero d new lt = new.0
new_at n (e ∷ es) (suc i) d new lt = new_at n es i d new.1 (omega arith)

-- a name isn't among those before it
name_is_new : (es : List (List ℕ × List ℕ)) (i : ℕ) (d : List ℕ × List ℕ) → AreDistinct (map (λ e. e.0) es)
    → i < length es → find (slice_cmp nat_cmp) (get_or es i d).0 (take i es) ≡ None
name_is_new [] i d apart_names lt = absurd (omega arith)
name_is_new (e ∷ es) zero d apart_names lt = refl
name_is_new (e ∷ es) (suc i) d apart_names
    lt = rw (apart (get_or es i d).0 e.0 (new_at e.0 es i d apart_names.0 (omega arith)))
    (name_is_new es i d apart_names.1 (omega arith))

-- one global more
pub in_order_more : (es : List (List ℕ × List ℕ)) (i : ℕ) (ordered : List (Bor (List ℕ) × Bor (List ℕ)))
    (k v : Bor (List ℕ)) → AreDistinct (map (λ e. e.0) es) → slice_get es i ≡ Some (k.now, v.now)
    → map deref_pair ordered ≡ entries (from_entries {R = slice_cmp nat_cmp} (take i es))
    → map deref_pair (insert_entry (λ x y. slice_cmp nat_cmp x.now y.now) ordered k v)
    ≡ entries (from_entries {R = slice_cmp nat_cmp} (take (i + 1) es))
in_order_more es i ordered k v names at so_far =
    let d : List ℕ × List ℕ = (k.now, v.now) in
    let lt : i < length es = slice_get_within es i d at in
    let here : get_or es i d ≡ d = get_or_from_slice_get es i d d at in
    let new : find (slice_cmp nat_cmp) k.now (take i es) ≡ None = rw here at (name_is_new es i d names lt) in
    let pushed : take (i + 1) es ≡ take i es ++ (k.now, v.now) ∷ [] =
    rw add-one (take-suc es i d lt ∙ ap (λ x. take i es ++ x ∷ []) here) in
    put_shown k v ordered ∙ ap (put (slice_cmp nat_cmp) k.now v.now) so_far
    ∙ sym (entries-insert nat_list_cmp_total (from_entries (take i es)) k.now v.now)
    ∙ ap entries
    (sym (from_entries_push nat_list_cmp_total (slice_cmp-IsAntisymmetric nat_cmp-IsAntisymmetric) (take i es) k.now
    v.now new))
    ∙ ap (λ xs. entries (from_entries {R = slice_cmp nat_cmp} xs)) (sym pushed)

-- the map of no entries has none
pub entries-empty : entries (empty {X = List ℕ} {R = slice_cmp nat_cmp}) ≡ []
entries-empty = nil_from_length (entries empty) (sym (len-entries empty) ∙ len-empty (slice_cmp nat_cmp) (List ℕ))

-- ---- the globals by the numbers of their names

-- how many globals have a value among the names with the first numbers
abbrev pub place : List (List ℕ) → Globals → ℕ → ℕ
place ns m i = length (listed (take i ns) m)

abbrev one : {X : Type 0} → Option X → ℕ
one None = 0
one (Some x) = 1

length-with_value : (n : List ℕ) (o : Option (List ℕ)) (es : List (List ℕ × List ℕ))
    → length (with_value n o es) ≡ length es + one o
length-with_value n None es = omega arith
length-with_value n (Some v) es = omega arith

place_more : (ns : List (List ℕ)) (m : Globals) (i : ℕ) → i < length ns
    → place ns m (suc i) ≡ place ns m i + one (get m (get_or ns i []))
place_more [] m i lt = absurd (omega arith)
place_more (n ∷ ns) m zero lt = length-with_value n (get m n) []
place_more (n ∷ ns) m (suc i) lt = omega (
  arith,
  length-with_value n (get m n) (listed (take (suc i) ns) m),
  length-with_value n (get m n)
      (listed (take i ns) m),
  place_more ns m i (omega arith),
)

past_first : (n : List ℕ) (o : Option (List ℕ)) (a b : List (List ℕ × List ℕ))
    → slice_get (with_value n o b) (length (with_value n o a)) ≡ slice_get b (length a)
past_first n None a b = refl
past_first n (Some v) a b = refl

at_place : (ns : List (List ℕ)) (m : Globals) (i : ℕ) (v : List ℕ) → i < length ns → get m (get_or ns i []) ≡ Some v
    → slice_get (listed ns m) (place ns m i) ≡ Some (get_or ns i [], v)
at_place [] m i v lt e = absurd (omega arith)
at_place (n ∷ ns) m zero v lt e = rw e refl
at_place (n ∷ ns) m (suc i) v lt e =
    past_first n (get m n) (listed (take i ns) m) (listed ns m) ∙ at_place ns m i v (omega arith) e

-- a number's name has a value, and is where it is listed
pub place_some : (ns : List (List ℕ)) (m : Globals) (i : ℕ) (k v : List ℕ) → i < length ns
    → Some (k, v) ≡ numbered ns m i
    → (slice_get (listed ns m) (place ns m i) ≡ Some (k, v)) × (place ns m (i + 1) ≡ place ns m i + 1)
place_some ns m i k v lt e = by (get m (get_or ns i [])) refl
  where
    by : (o : Option (List ℕ)) → get m (get_or ns i []) ≡ o
        → (slice_get (listed ns m) (place ns m i) ≡ Some (k, v)) × (place ns m (i + 1) ≡ place ns m i + 1)
    by None q =
        let none : Some (k, v) ≡ None → ⊥ = λ x. cc in absurd (none (e ∙ ap (option_map (λ w. (get_or ns i [], w))) q))
    by (Some w) q = (
      at_place ns m i w lt q
          ∙ sym (e ∙ ap (option_map (λ x. (get_or ns i [], x))) q),
      rw add-one
          (place_more ns m i lt ∙ ap (λ o. place ns m i + one o) q),
    )

-- or it has none
pub place_none : (ns : List (List ℕ)) (m : Globals) (i : ℕ) → i < length ns → None ≡ numbered ns m i
    → place ns m (i + 1) ≡ place ns m i
place_none ns m i lt e = by (get m (get_or ns i [])) refl
  where
    by : (o : Option (List ℕ)) → get m (get_or ns i []) ≡ o → place ns m (i + 1) ≡ place ns m i
    by None q = rw add-one (place_more ns m i lt ∙ ap (λ o. place ns m i + one o) q ∙ omega arith)
    by (Some w) q = let none : None ≡ Some (get_or ns i [], w)
        → ⊥ = λ x. cc in absurd (none (e ∙ ap (option_map (λ x. (get_or ns i [], x))) q))

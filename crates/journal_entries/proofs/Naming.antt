-- Globals as finite maps.
use Rattle.std.proofs.lemmas.List.Sums.{length-filter}
use Rattle.std.proofs.Common.{map, filter, count_by, is_some, ◌≡◌, ◌≢◌, ◌++◌, ℕ, zero, suc, ◌<◌, Bool, true, false}
use Rattle.std.proofs.Common.{cond, List, [], ◌∷◌, length, get_or, set, refl, sym, ap, ◌∙◌, arith, Option, Some, None}
use Rattle.std.specs.Ordering.{nat_cmp, eq_by_cmp}
use Rattle.std.specs.Cmp.{Equal-is, tied_itself}
use Rattle.std.specs.Cmp.Lexicographic.{slice_cmp}
use Rattle.std.proofs.lemmas.Cmp.{nat_list_cmp_total}
use Rattle.std.specs.FinMap.{FinMap, find, get, from_entries, same_map, get-from_entries, nat_cmp-IsAntisymmetric}
use Rattle.std.specs.FinMap.{slice_cmp-IsAntisymmetric, IsAntisymmetric}
use Rattle.journal_entries.specs.Named.{entries_of, with_value, listed, IsNew, AreDistinct, Lists}
use Rattle.object_table.specs.Maps.{put_option}
use Rattle.object_table.proofs.Maps.{get-put_option}

abbrev tied : List ℕ → List ℕ → Bool
tied a b = eq_by_cmp (slice_cmp nat_cmp) a b

pub antisymmetric : IsAntisymmetric (slice_cmp nat_cmp)
antisymmetric = slice_cmp-IsAntisymmetric nat_cmp-IsAntisymmetric

tied_equal : (a b : List ℕ) → tied a b ≡ true → a ≡ b
tied_equal a b e = antisymmetric a b ((Equal-is (slice_cmp nat_cmp a b)).0 e)

pub tied_same : (a : List ℕ) → tied a a ≡ true
tied_same a = (Equal-is (slice_cmp nat_cmp a a)).1 (tied_itself nat_list_cmp_total a)

pub tied_apart : (a b : List ℕ) → a ≢ b → tied a b ≡ false
tied_apart a b h = elim (tied a b) as (λ t. tied a b ≡ t → t ≡ false)
    [ true ↦ λ e. absurd (h (tied_equal a b e)) | false ↦ λ _. refl ] refl

IsNew-get : (n : List ℕ) (ns : List (List ℕ)) (i : ℕ) → IsNew n ns → i < length ns → n ≢ get_or ns i []
IsNew-get n [] i h l = absurd (omega arith)
IsNew-get n (m ∷ ms) zero h l = h.0
IsNew-get n (m ∷ ms) (suc i) h l = IsNew-get n ms i h.1 (omega arith)

find_new : (n : List ℕ) (ns : List (List ℕ)) (vs : List (Option (List ℕ))) → IsNew n ns
    → find (slice_cmp nat_cmp) n (entries_of ns vs) ≡ None
find_new n [] vs h = refl
find_new n (m ∷ ms) [] h = refl
find_new n (m ∷ ms) (None ∷ vs) h = find_new n ms vs h.1
find_new n (m ∷ ms) (Some v ∷ vs) h = rw (tied_apart n m h.0) (find_new n ms vs h.1)

pub find-named : (ns : List (List ℕ)) (vs : List (Option (List ℕ))) (i : ℕ) → AreDistinct ns → i < length ns
    → length ns ≡ length vs → find (slice_cmp nat_cmp) (get_or ns i []) (entries_of ns vs) ≡ get_or vs i None
find-named [] vs i a l e = absurd (omega arith)
find-named (n ∷ ns) [] i a l e = absurd (omega arith)
find-named (n ∷ ns) (None ∷ vs) zero a l e = find_new n ns vs a.0
find-named (n ∷ ns) (Some v ∷ vs) zero a l e = rw (tied_same n) refl
find-named (n ∷ ns) (None ∷ vs) (suc i) a l e = find-named ns vs i a.1 (omega arith) (omega arith)
find-named (n ∷ ns) (Some v ∷ vs) (suc i) a l e =
    let far : get_or ns i [] ≢ n = λ p. IsNew-get n ns i a.0 (omega arith) (sym p) in
    rw (tied_apart (get_or ns i []) n far) (find-named ns vs i a.1 (omega arith) (omega arith))

swap_conds : {X : Type 0} (a b : Bool) (x v f : X) → (a ≡ true → b ≡ true → ⊥)
    → cond a x (cond b v f) ≡ cond b v (cond a x f)
swap_conds true true x v f h = absurd (h refl refl)
swap_conds true false x v f h = refl
swap_conds false b x v f h = refl

at_name : (q n : List ℕ) (ns : List (List ℕ)) (vs : List (Option (List ℕ))) (v : Option (List ℕ)) → IsNew n ns
    → tied q n ≡ true → find (slice_cmp nat_cmp) q (entries_of (n ∷ ns) (v ∷ vs)) ≡ v
at_name q n ns vs None h e = rw (tied_equal q n e) (find_new n ns vs h)
at_name q n ns vs (Some v) h e = ap (λ t. cond t (Some v) (find (slice_cmp nat_cmp) q (entries_of ns vs))) e

past_name : (q n : List ℕ) (ns : List (List ℕ)) (vs : List (Option (List ℕ))) (v : Option (List ℕ)) → tied q n ≡ false
    → find (slice_cmp nat_cmp) q (entries_of (n ∷ ns) (v ∷ vs)) ≡ find (slice_cmp nat_cmp) q (entries_of ns vs)
past_name q n ns vs None e = refl
past_name q n ns vs (Some v) e = ap (λ t. cond t (Some v) (find (slice_cmp nat_cmp) q (entries_of ns vs))) e

-- the first slot is written
first_set : (n q : List ℕ) (ns : List (List ℕ)) (vs : List (Option (List ℕ))) (w v : Option (List ℕ)) → IsNew n ns
    → find (slice_cmp nat_cmp) q (entries_of (n ∷ ns) (v ∷ vs))
    ≡ cond (tied q n) v (find (slice_cmp nat_cmp) q (entries_of (n ∷ ns) (w ∷ vs)))
first_set n q ns vs w v h =
    elim (tied q n) as (λ t. tied q n ≡ t
    → find (slice_cmp nat_cmp) q (entries_of (n ∷ ns) (v ∷ vs))
    ≡ cond t v (find (slice_cmp nat_cmp) q (entries_of (n ∷ ns) (w ∷ vs)))) [
      | true ↦ λ e. at_name q n ns vs v h e
      | false ↦ λ e. past_name q n ns vs v e ∙ sym (past_name q n ns vs w e)
    ] refl

pub find-named-set : (q : List ℕ) (ns : List (List ℕ)) (vs : List (Option (List ℕ))) (i : ℕ) (v : Option (List ℕ))
    → AreDistinct ns → i < length ns → length ns ≡ length vs
    → find (slice_cmp nat_cmp) q (entries_of ns (set vs i v))
    ≡ cond (tied q (get_or ns i [])) v (find (slice_cmp nat_cmp) q (entries_of ns vs))
find-named-set q [] vs i v a l e = absurd (omega arith)
find-named-set q (n ∷ ns) [] i v a l e = absurd (omega arith)
find-named-set q (n ∷ ns) (w ∷ vs) zero v a l e = first_set n q ns vs w v a.0
find-named-set q (n ∷ ns) (None ∷ vs) (suc i) v a l e = find-named-set q ns vs i v a.1 (omega arith) (omega arith)
find-named-set q (n ∷ ns) (Some w ∷ vs) (suc i) v a l e =
    rw (find-named-set q ns vs i v a.1 (omega arith) (omega arith))
    (swap_conds (tied q n) (tied q (get_or ns i [])) (Some w) v _
    (λ s t. IsNew-get n ns i a.0 (omega arith) (sym (tied_equal q n s) ∙ tied_equal q (get_or ns i []) t)))

pub get-named : (ns : List (List ℕ)) (vs : List (Option (List ℕ))) (i : ℕ) → AreDistinct ns → i < length ns
    → length ns ≡ length vs → get (from_entries {R = slice_cmp nat_cmp} (entries_of ns vs)) (get_or ns i [])
    ≡ get_or vs i None
get-named ns vs i a l e =
    get-from_entries nat_list_cmp_total (entries_of ns vs) (get_or ns i []) ∙ find-named ns vs i a l e

pub named-set : (ns : List (List ℕ)) (vs : List (Option (List ℕ))) (i : ℕ) (v : Option (List ℕ)) → AreDistinct ns
    → i < length ns → length ns ≡ length vs
    → from_entries {R = slice_cmp nat_cmp} (entries_of ns (set vs i v))
    ≡ put_option (from_entries (entries_of ns vs)) (get_or ns i []) v
named-set ns vs i v a l e =
    same_map nat_list_cmp_total antisymmetric _ _ (λ q.
    get-from_entries nat_list_cmp_total (entries_of ns (set vs i v)) q
    ∙ find-named-set q ns vs i v a l e
    ∙ ap (λ x. cond (tied q (get_or ns i [])) v x) (sym (get-from_entries nat_list_cmp_total (entries_of ns vs) q))
    ∙ sym (get-put_option nat_list_cmp_total antisymmetric (from_entries {R = slice_cmp nat_cmp} (entries_of ns vs))
    (get_or ns i []) v q))

IsNew-push : (m : List ℕ) (ns : List (List ℕ)) (n : List ℕ) → IsNew m ns → m ≢ n → IsNew m (ns ++ n ∷ [])
IsNew-push m [] n h e = (e, tt)
IsNew-push m (k ∷ ks) n h e = (h.0, IsNew-push m ks n h.1 e)

pub AreDistinct-push : (ns : List (List ℕ)) (n : List ℕ) → AreDistinct ns
    → ((i : ℕ) → i < length ns → get_or ns i [] ≢ n) → AreDistinct (ns ++ n ∷ [])
AreDistinct-push [] n a h = (tt, tt)
AreDistinct-push (m ∷ ms) n a h =
    (IsNew-push m ms n a.0 (h 0 (omega arith)), AreDistinct-push ms n a.1 (λ i l. h (suc i) (omega arith)))

pub entries_of-none : (ns : List (List ℕ)) (vs : List (Option (List ℕ))) (n : List ℕ) → length ns ≡ length vs
    → entries_of (ns ++ n ∷ []) (vs ++ None ∷ []) ≡ entries_of ns vs
entries_of-none [] [] n e = refl
entries_of-none [] (v ∷ vs) n e = absurd (omega arith)
entries_of-none (m ∷ ms) [] n e = absurd (omega arith)
entries_of-none (m ∷ ms) (None ∷ vs) n e = entries_of-none ms vs n (omega arith)
entries_of-none (m ∷ ms) (Some v ∷ vs) n e = ap (λ es. (m, v) ∷ es) (entries_of-none ms vs n (omega arith))

-- the value of a name that isn't there
pub get-new : (n : List ℕ) (ns : List (List ℕ)) (vs : List (Option (List ℕ))) → IsNew n ns
    → get (from_entries {R = slice_cmp nat_cmp} (entries_of ns vs)) n ≡ None
get-new n ns vs h = get-from_entries nat_list_cmp_total (entries_of ns vs) n ∙ find_new n ns vs h

-- each name's value is the one beside it
abbrev HaveValues : List (List ℕ) → List (Option (List ℕ)) → FinMap (slice_cmp nat_cmp) (List ℕ) → Type 0
HaveValues [] vs m = Unit {0}
HaveValues (n ∷ ns) [] m = ⊥
HaveValues (n ∷ ns) (v ∷ vs) m = (get m n ≡ v) × HaveValues ns vs m

listed-values : (ns : List (List ℕ)) (vs : List (Option (List ℕ))) (m : FinMap (slice_cmp nat_cmp) (List ℕ))
    → HaveValues ns vs m → listed ns m ≡ entries_of ns vs
listed-values [] vs m h = refl
listed-values (n ∷ ns) [] m h = absurd h
listed-values (n ∷ ns) (v ∷ vs) m h =
    ap (λ w. with_value n w (listed ns m)) h.0 ∙ ap (λ es. with_value n v es) (listed-values ns vs m h.1)

have_values : (ns : List (List ℕ)) (vs : List (Option (List ℕ))) (m : FinMap (slice_cmp nat_cmp) (List ℕ))
    → length ns ≡ length vs → ((i : ℕ) → i < length ns → get m (get_or ns i []) ≡ get_or vs i None) → HaveValues ns vs m
have_values [] vs m l h = tt
have_values (n ∷ ns) [] m l h = absurd (omega arith)
have_values (n ∷ ns) (v ∷ vs) m l h =
    (h 0 (omega arith), have_values ns vs m (omega arith) (λ i k. h (suc i) (omega arith)))

-- the globals that have a value are those that the lists hold
pub listed-entries : (ns : List (List ℕ)) (vs : List (Option (List ℕ))) → AreDistinct ns → length ns ≡ length vs
    → listed ns (from_entries {R = slice_cmp nat_cmp} (entries_of ns vs)) ≡ entries_of ns vs
listed-entries ns vs a l = listed-values ns vs _ (have_values ns vs _ l (λ i k. get-named ns vs i a k l))

-- a name that stands at no number is new
pub IsNew-absent : (n : List ℕ) (ns : List (List ℕ)) → ((k : ℕ) → k < length ns → get_or ns k [] ≢ n) → IsNew n ns
IsNew-absent n [] h = tt
IsNew-absent n (m ∷ ms) h = (λ e. h 0 (omega arith) (sym e), IsNew-absent n ms (λ k l. h (suc k) (omega arith)))

-- two numbers of one name are one
pub same_number : (ns : List (List ℕ)) (i j : ℕ) → AreDistinct ns → i < length ns → j < length ns
    → get_or ns j [] ≡ get_or ns i [] → j ≡ i
same_number [] i j a l m e = absurd (omega arith)
same_number (n ∷ ns) zero zero a l m e = refl
same_number (n ∷ ns) zero (suc j) a l m e = absurd (IsNew-get n ns j a.0 (omega arith) (sym e))
same_number (n ∷ ns) (suc i) zero a l m e = absurd (IsNew-get n ns i a.0 (omega arith) e)
same_number (n ∷ ns) (suc i) (suc j) a l m e = ap suc (same_number ns i j a.1 (omega arith) (omega arith) e)

filter-entries : (ns : List (List ℕ)) (vs : List (Option (List ℕ))) → length ns ≡ length vs
    → length (filter is_some vs) ≡ length (entries_of ns vs)
filter-entries [] [] e = refl
filter-entries [] (v ∷ vs) e = absurd (omega arith)
filter-entries (n ∷ ns) [] e = absurd (omega arith)
filter-entries (n ∷ ns) (None ∷ vs) e = filter-entries ns vs (omega arith)
filter-entries (n ∷ ns) (Some v ∷ vs) e = ap suc (filter-entries ns vs (omega arith))

pub count_by-entries : (ns : List (List ℕ)) (vs : List (Option (List ℕ))) → length ns ≡ length vs
    → count_by is_some vs ≡ length (entries_of ns vs)
count_by-entries ns vs e = sym (length-filter is_some vs) ∙ filter-entries ns vs e

-- ---- how many have a value

filter-none : {X : Type 0} (vs : List (Option X))
    → length (filter is_some (vs ++ None ∷ [])) ≡ length (filter is_some vs)
filter-none [] = refl
filter-none (None ∷ vs) = filter-none vs
filter-none (Some x ∷ vs) = ap suc (filter-none vs)

-- a name comes, with no value
pub count_by-none : {X : Type 0} (vs : List (Option X)) → count_by is_some (vs ++ None ∷ []) ≡ count_by is_some vs
count_by-none vs = sym (length-filter is_some (vs ++ None ∷ [])) ∙ filter-none vs ∙ length-filter is_some vs

-- ---- listed

IsNew-keys : (n : List ℕ) (ns : List (List ℕ)) (vs : List (Option (List ℕ))) → IsNew n ns
    → IsNew n (map (λ e. e.0) (entries_of ns vs))
IsNew-keys n [] vs h = tt
IsNew-keys n (m ∷ ms) [] h = tt
IsNew-keys n (m ∷ ms) (None ∷ vs) h = IsNew-keys n ms vs h.1
IsNew-keys n (m ∷ ms) (Some v ∷ vs) h = (h.0, IsNew-keys n ms vs h.1)

keys_distinct : (ns : List (List ℕ)) (vs : List (Option (List ℕ))) → AreDistinct ns
    → AreDistinct (map (λ e. e.0) (entries_of ns vs))
keys_distinct [] vs h = tt
keys_distinct (n ∷ ns) [] h = tt
keys_distinct (n ∷ ns) (None ∷ vs) h = keys_distinct ns vs h.1
keys_distinct (n ∷ ns) (Some v ∷ vs) h = (IsNew-keys n ns vs h.0, keys_distinct ns vs h.1)

-- the globals that have a value are listed, each once
pub Lists-listed : (ns : List (List ℕ)) (vs : List (Option (List ℕ))) → AreDistinct ns → length ns ≡ length vs
    → Lists (listed ns (from_entries {R = slice_cmp nat_cmp} (entries_of ns vs))) (from_entries (entries_of ns vs))
Lists-listed ns vs a l = rw (listed-entries ns vs a l) (record { whole = refl; names = keys_distinct ns vs a })

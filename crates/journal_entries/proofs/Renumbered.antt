-- New numbers for the names of globals change nothing of what entries mean.
use Rattle.std.proofs.Common.{◌≡◌, ◌≢◌, ◌++◌, ℕ, zero, suc, ◌+◌, ◌<◌, ◌≤◌, ◌⊎◌, List, [], ◌∷◌, length, map, get_or, set}
use Rattle.std.proofs.Common.{take, drop, reverse, replicate, refl, sym, subst, ap, ◌∙◌, arith, Option, Some, None}
use Rattle.std.specs.Prelude.{unwrap_or}
use Rattle.std.proofs.Common.{false, is_some, inl, inr, IfSome, IsSome, append_assoc, length-append, length-set}
use Rattle.std.proofs.Math.ListN.{get_or-append}
use Rattle.std.proofs.lemmas.List.{get_or-set_same, get_or-set_other, drop-set-lt, take_more_set, drop_more, take_more}
use Rattle.std.proofs.lemmas.List.{get_or-drop, length-replicate}
use Rattle.std.proofs.lemmas.Bool.{cases_eq}
use Rattle.std.proofs.lemmas.List.Sums.{sum_by-cons}
use Rattle.std.specs.Ordering.{nat_cmp}
use Rattle.std.specs.Cmp.Lexicographic.{slice_cmp}
use Rattle.std.specs.FinMap.{get, empty, from_entries}
use Rattle.object_table.specs.Maps.{put_option}
use Rattle.stack_places.proofs.Exchanging.{false_true}
use Rattle.journal_entries.specs.State.{State, Globals}
use Rattle.journal_entries.specs.Places.{global}
use Rattle.journal_entries.specs.Trails.{at}
use Rattle.journal_entries.specs.Named.{Extends, AreDistinct, entries_of}
use Rattle.journal_entries.specs.Exchange.{PresentView, shape_of, name_at, back, back_taken, forth, forth_taken}
use Rattle.journal_entries.specs.Exchange.{exchanged, taken, mark_of, trail_of, entry_weight, weight, IsReady, AreReady}
use Rattle.journal_entries.specs.Renumbered.{RenumberingView, number_in, new_number, IsOf, IsMore, IsNeeded}
use Rattle.journal_entries.specs.Renumbered.{HasValued}
use Rattle.journal_entries.proofs.Naming.{named-set, get-named}
use Rattle.journal_entries.specs.Renumbered.{AreNeeded, renumbered, all_renumbered}
use Rattle.journal_entries.specs.declared.entry.Entry.{Entry}
use Rattle.journal_entries.specs.declared.entry.Entry.TheVariants.{Global, Current, Stack, External}

-- ---- entries

right : (names new : List (List ℕ)) (i : ℕ) (n : Option ℕ)
    → IfSome n (λ k. (k < length new) × (name_at new k ≡ name_at names i)) → IsSome n
    → (unwrap_or n 0 < length new) × (name_at new (unwrap_or n 0) ≡ name_at names i)
right names new i None h s = absurd (false_true s)
right names new i (Some k) h s = h

named : (names : List (List ℕ)) (r : RenumberingView) (i : ℕ) → IsOf names r → IsSome (number_in r i)
    → (new_number r i < length r.names) × (name_at r.names (new_number r i) ≡ name_at names i)
named names r i o s = right names r.names i (number_in r i) (o.each i) s

exchanged-renumbered : (names : List (List ℕ)) (r : RenumberingView) (s : State) (e : Entry) → IsOf names r
    → IsNeeded r e → exchanged r.names s (renumbered r e) ≡ exchanged names s e
unfolding exchanged renumbered IsNeeded
exchanged-renumbered names r s (Global i v) o q =
    ap (λ k. record s { globals = put_option s.globals k v }) (named names r i o q).1
exchanged-renumbered names r s (Current c) o q = refl
exchanged-renumbered names r s (Stack e) o q = refl
exchanged-renumbered names r s (External i p) o q = refl

taken-renumbered : (names : List (List ℕ)) (r : RenumberingView) (s : State) (e : Entry) → IsOf names r → IsNeeded r e
    → taken r.names s (renumbered r e) ≡ renumbered r (taken names s e)
unfolding taken renumbered IsNeeded
taken-renumbered names r s (Global i v) o q =
    ap (λ k. Global (new_number r i) (get s.globals k)) (named names r i o q).1
taken-renumbered names r s (Current c) o q = refl
taken-renumbered names r s (Stack e) o q = refl
taken-renumbered names r s (External i p) o q = refl

mark_of-renumbered : (names : List (List ℕ)) (r : RenumberingView) (e : Entry) → IsOf names r → IsNeeded r e
    → mark_of r.names (renumbered r e) ≡ mark_of names e
unfolding mark_of renumbered IsNeeded
mark_of-renumbered names r (Global i v) o q = ap (λ k. at (global k)) (named names r i o q).1
mark_of-renumbered names r (Current c) o q = refl
mark_of-renumbered names r (Stack e) o q = refl
mark_of-renumbered names r (External i p) o q = refl

entry_weight-renumbered : (r : RenumberingView) (e : Entry) → entry_weight (renumbered r e) ≡ entry_weight e
unfolding entry_weight renumbered
entry_weight-renumbered r (Global i v) = refl
entry_weight-renumbered r (Current c) = refl
entry_weight-renumbered r (Stack e) = refl
entry_weight-renumbered r (External i p) = refl

pub weight-renumbered : (r : RenumberingView) (es : List Entry) → weight (all_renumbered r es) ≡ weight es
weight-renumbered r [] = refl
weight-renumbered r (e ∷ es) =
    sum_by-cons entry_weight (renumbered r e) (all_renumbered r es)
    ∙ (λ i. entry_weight-renumbered r e i + weight-renumbered r es i) ∙ sym (sum_by-cons entry_weight e es)

pub back-renumbered : (names : List (List ℕ)) (r : RenumberingView) (s : State) (es : List Entry) → IsOf names r
    → AreNeeded r es → back r.names s (all_renumbered r es) ≡ back names s es
back-renumbered names r s [] o q = refl
back-renumbered names r s (e ∷ es) o q =
    exchanged-renumbered names r (back r.names s (all_renumbered r es)) e o q.0
    ∙ ap (λ x. exchanged names x e) (back-renumbered names r s es o q.1)

back_taken-renumbered : (names : List (List ℕ)) (r : RenumberingView) (s : State) (es : List Entry) → IsOf names r
    → AreNeeded r es → back_taken r.names s (all_renumbered r es) ≡ all_renumbered r (back_taken names s es)
back_taken-renumbered names r s [] o q = refl
back_taken-renumbered names r s (e ∷ es) o q =
    let first = taken-renumbered names r (back r.names s (all_renumbered r es)) e o q.0
    ∙ ap (λ x. renumbered r (taken names x e)) (back-renumbered names r s es o q.1) in
    let rest = back_taken-renumbered names r s es o q.1 in
    λ i. first i ∷ rest i

pub forth-renumbered : (names : List (List ℕ)) (r : RenumberingView) (s : State) (es : List Entry) → IsOf names r
    → AreNeeded r es → forth r.names s (all_renumbered r es) ≡ forth names s es
forth-renumbered names r s [] o q = refl
forth-renumbered names r s (e ∷ es) o q =
    ap (λ x. forth r.names x (all_renumbered r es)) (exchanged-renumbered names r s e o q.0)
    ∙ forth-renumbered names r (exchanged names s e) es o q.1

forth_taken-renumbered : (names : List (List ℕ)) (r : RenumberingView) (s : State) (es : List Entry) → IsOf names r
    → AreNeeded r es → forth_taken r.names s (all_renumbered r es) ≡ all_renumbered r (forth_taken names s es)
forth_taken-renumbered names r s [] o q = refl
forth_taken-renumbered names r s (e ∷ es) o q =
    let first = taken-renumbered names r s e o q.0 in
    let rest = ap (λ x. forth_taken r.names x (all_renumbered r es)) (exchanged-renumbered names r s e o q.0)
    ∙ forth_taken-renumbered names r (exchanged names s e) es o q.1 in
    λ i. first i ∷ rest i

-- what batches weigh both ways
pub undo-renumbered : (names : List (List ℕ)) (r : RenumberingView) (s : State) (es : List Entry) → IsOf names r
    → AreNeeded r es → weight (back_taken r.names s (all_renumbered r es)) ≡ weight (back_taken names s es)
undo-renumbered names r s es o q =
    ap weight (back_taken-renumbered names r s es o q) ∙ weight-renumbered r (back_taken names s es)

pub redo-renumbered : (names : List (List ℕ)) (r : RenumberingView) (s : State) (es : List Entry) → IsOf names r
    → AreNeeded r es → weight (forth_taken r.names s (all_renumbered r es)) ≡ weight (forth_taken names s es)
redo-renumbered names r s es o q =
    ap weight (forth_taken-renumbered names r s es o q) ∙ weight-renumbered r (forth_taken names s es)

marks-renumbered : (names : List (List ℕ)) (r : RenumberingView) (es : List Entry) → IsOf names r → AreNeeded r es
    → map (mark_of r.names) (all_renumbered r es) ≡ map (mark_of names) es
marks-renumbered names r [] o q = refl
marks-renumbered names r (e ∷ es) o q =
    let first = mark_of-renumbered names r e o q.0 in
    let rest = marks-renumbered names r es o q.1 in
    λ i. first i ∷ rest i

pub trail_of-renumbered : (names : List (List ℕ)) (r : RenumberingView) (es : List Entry) → IsOf names r
    → AreNeeded r es → trail_of r.names (all_renumbered r es) ≡ trail_of names es
trail_of-renumbered names r es o q = ap reverse (marks-renumbered names r es o q)

-- the present state with the new numbers
abbrev pub with_names : PresentView → RenumberingView → PresentView
with_names h r = record h { names = r.names }

IsReady-renumbered : (h : PresentView) (r : RenumberingView) (e : Entry) → IsOf h.names r → IsNeeded r e
    → IsReady (shape_of h) e → IsReady (shape_of (with_names h r)) (renumbered r e)
unfolding IsReady renumbered IsNeeded
IsReady-renumbered h r (Global i v) o q d = (named h.names r i o q).0
IsReady-renumbered h r (Current c) o q d = tt
IsReady-renumbered h r (Stack e) o q d = d
IsReady-renumbered h r (External i p) o q d = d

pub AreReady-renumbered : (h : PresentView) (r : RenumberingView) (es : List Entry) → IsOf h.names r → AreNeeded r es
    → AreReady (shape_of h) es → AreReady (shape_of (with_names h r)) (all_renumbered r es)
AreReady-renumbered h r [] o q d = tt
AreReady-renumbered h r (e ∷ es) o q d =
    (IsReady-renumbered h r e o q.0 d.0, AreReady-renumbered h r es o q.1 d.1)

-- ---- what is needed

IsNeeded-more : (r k : RenumberingView) (e : Entry) → IsMore r k → IsNeeded r e → IsNeeded k e
unfolding IsNeeded
IsNeeded-more r k (Global i v) m q = m i q
IsNeeded-more r k (Current c) m q = tt
IsNeeded-more r k (Stack e) m q = tt
IsNeeded-more r k (External i p) m q = tt

pub AreNeeded-more : (r k : RenumberingView) (es : List Entry) → IsMore r k → AreNeeded r es → AreNeeded k es
AreNeeded-more r k [] m q = tt
AreNeeded-more r k (e ∷ es) m q = (IsNeeded-more r k e m q.0, AreNeeded-more r k es m q.1)

AreNeeded-push : (r : RenumberingView) (es : List Entry) (e : Entry) → AreNeeded r es → IsNeeded r e
    → AreNeeded r (es ++ e ∷ [])
AreNeeded-push r [] e q n = (n, tt)
AreNeeded-push r (f ∷ es) e q n = (q.0, AreNeeded-push r es e q.1 n)

-- one step of the loop that needs each
pub need_step : (r k : RenumberingView) (es : List Entry) (i : ℕ) (x : Entry) → i < length es → x ≡ get_or es i x
    → IsMore r k → AreNeeded r (take i es) → IsNeeded k x → AreNeeded k (take (i + 1) es)
need_step r k es i x h e m q n =
    rw (take_more es i x h, ← e) (AreNeeded-push k (take i es) x (AreNeeded-more r k (take i es) m q) n)

pub AreNeeded-drop : (r : RenumberingView) (es : List Entry) (i : ℕ) (x : Entry) → i < length es → x ≡ get_or es i x
    → AreNeeded r (drop i es) → IsNeeded r x × AreNeeded r (drop (i + 1) es)
AreNeeded-drop r es i x l e q =
    subst (λ xs. AreNeeded r xs) (drop_more es i x l ∙ ap (λ y. y ∷ drop (i + 1) es) (sym e)) q

-- one step of a loop that replaces each
pub map_step : {X : Type 0} (f : X → X) (xs : List X) (i : ℕ) (x : X) → i < length xs → x ≡ get_or xs i x
    → take (i + 1) (set xs i (f x)) ++ map f (drop (i + 1) (set xs i (f x))) ≡ take i xs ++ map f (drop i xs)
map_step f xs i x h e =
    rw (drop-set-lt (i + 1) xs i (f x) (omega arith), take_more_set xs i (f x) h, drop_more xs i x h, ← e)
    (append_assoc (take i xs) (f x ∷ []) (map f (drop (i + 1) xs)))

-- ---- a name that is needed

right-wider : (names old new : List (List ℕ)) (i : ℕ) (n : Option ℕ) → Extends old new
    → IfSome n (λ k. (k < length old) × (name_at old k ≡ name_at names i))
    → IfSome n (λ k. (k < length new) × (name_at new k ≡ name_at names i))
right-wider names old new i None w h = tt
right-wider names old new i (Some k) w h = (
  omega (arith, h.0, ap length w.1, length-append old w.0),
  ap (λ ns. get_or ns k []) w.1 ∙ get_or-append old w.0 [] k h.0 ∙ h.1,
)

-- more names stand at the end
pub IsOf-wider : (names : List (List ℕ)) (r : RenumberingView) (new : List (List ℕ)) → Extends r.names new
    → IsOf names r → IsOf names (record { numbers = r.numbers; names = new })
IsOf-wider names r new w o =
    record { count = o.count; each = λ i. right-wider names r.names new i (number_in r i) w (o.each i) }

-- an old number gets a new one
abbrev pub with_number : RenumberingView → List (List ℕ) → ℕ → ℕ → RenumberingView
with_number r new i n = record { numbers = set r.numbers i (Some n); names = new }

pub IsOf-more : (names : List (List ℕ)) (r : RenumberingView) (new : List (List ℕ)) (i n : ℕ) → i < length names
    → Extends r.names new → n < length new → name_at new n ≡ name_at names i → IsOf names r
    → IsOf names (with_number r new i n)
IsOf-more names r new i n l w b e o = record {
  count = length-set r.numbers i (Some n) ∙ o.count;
  each = λ j. each-at j (cases_eq j i);
}
  where
    there : i < length r.numbers
    there = omega (arith, l, o.count)

    each-at : (j : ℕ) → (j ≡ i) ⊎ (j ≢ i) → IfSome (number_in (with_number r new i n) j)
        (λ k. (k < length new) × (name_at new k ≡ name_at names j))
    each-at j (inl s) = subst (λ m. IfSome m (λ k. (k < length new) × (name_at new k ≡ name_at names j)))
        (sym (ap (λ k. get_or (set r.numbers i (Some n)) k None) s
        ∙ get_or-set_same r.numbers i (Some n) None there))
        (b, e ∙ ap (name_at names) (sym s))
    each-at j (inr d) = subst (λ m. IfSome m (λ k. (k < length new) × (name_at new k ≡ name_at names j)))
        (sym (get_or-set_other r.numbers i j (Some n) None d))
        (right-wider names r.names new j (number_in r j) w (o.each j))

pub number_in-new : (r : RenumberingView) (new : List (List ℕ)) (i n : ℕ) → i < length r.numbers
    → number_in (with_number r new i n) i ≡ Some n
number_in-new r new i n l = get_or-set_same r.numbers i (Some n) None l

pub IsMore-new : (r : RenumberingView) (new : List (List ℕ)) (i n : ℕ) → i < length r.numbers
    → IsMore r (with_number r new i n)
IsMore-new r new i n l = λ j s. more j s (cases_eq j i)
  where
    more : (j : ℕ) → IsSome (number_in r j) → (j ≡ i) ⊎ (j ≢ i) → IsSome (number_in (with_number r new i n) j)
    more j s (inl e) = subst (λ m. IsSome m)
        (sym (ap (λ k. get_or (set r.numbers i (Some n)) k None) e ∙ number_in-new r new i n l)) refl
    more j s (inr d) = subst (λ m. IsSome m) (sym (get_or-set_other r.numbers i j (Some n) None d)) s

-- no name is needed
pub IsOf-none : (names : List (List ℕ)) (count : ℕ) → count ≡ length names
    → IsOf names (record { numbers = replicate count None; names = [] })
IsOf-none names count e = record {
  count = length-replicate count None ∙ e;
  each = λ i. subst (λ m. IfSome m (λ k. (k < 0) × (name_at [] k ≡ name_at names i))) (sym (none count i)) tt;
}
  where
    none : (n i : ℕ) → get_or {A = Option ℕ} (replicate n None) i None ≡ None
    none zero i = refl
    none (suc n) zero = refl
    none (suc n) (suc i) = none n i

-- ---- values

pub not_some : {X : Type 0} (x : Option X) → is_some x ≡ false → IsSome x → ⊥
not_some x e s = false_true (sym e ∙ s)

-- the values up to a number have moved to the new names
abbrev pub moved : ℕ → List (Option (List ℕ)) → List (Option (List ℕ))
moved i [] = []
moved zero (v ∷ vs) = None ∷ moved zero vs
moved (suc i) (v ∷ vs) = v ∷ moved i vs

length-moved : (i : ℕ) (vs : List (Option (List ℕ))) → length (moved i vs) ≡ length vs
length-moved i [] = refl
length-moved zero (v ∷ vs) = ap suc (length-moved zero vs)
length-moved (suc i) (v ∷ vs) = ap suc (length-moved i vs)

none-moved : (ns : List (List ℕ)) (vs : List (Option (List ℕ))) → entries_of ns (moved zero vs) ≡ []
none-moved [] vs = refl
none-moved (n ∷ ns) [] = refl
none-moved (n ∷ ns) (v ∷ vs) = none-moved ns vs

pub texts-none : (ns : List (List ℕ)) (vs : List (Option (List ℕ)))
    → empty ≡ from_entries {R = slice_cmp nat_cmp} (entries_of ns (moved zero vs))
texts-none ns vs = sym (ap (λ es. from_entries {R = slice_cmp nat_cmp} es) (none-moved ns vs))

pub moved-all : (i : ℕ) (vs : List (Option (List ℕ))) → length vs ≤ i → moved i vs ≡ vs
moved-all i [] h = refl
moved-all zero (v ∷ vs) h = absurd (omega arith)
moved-all (suc i) (v ∷ vs) h = ap (λ xs. v ∷ xs) (moved-all i vs (omega arith))

moved-set : (i : ℕ) (vs : List (Option (List ℕ))) → set (moved i vs) i (get_or vs i None) ≡ moved (i + 1) vs
moved-set i [] = refl
moved-set zero (v ∷ vs) = refl
moved-set (suc i) (v ∷ vs) =
    let m : suc i + 1 ≡ suc (i + 1) = omega arith in rw m (ap (λ xs. v ∷ xs) (moved-set i vs))

-- a name without a value may stay where it is
pub moved-none : (i : ℕ) (vs : List (Option (List ℕ))) → get_or vs i None ≡ None → moved i vs ≡ moved (i + 1) vs
moved-none i [] h = refl
moved-none zero (v ∷ vs) h = ap (λ x. x ∷ moved zero vs) (sym h)
moved-none (suc i) (v ∷ vs) h =
    let m : suc i + 1 ≡ suc (i + 1) = omega arith in rw m (ap (λ xs. v ∷ xs) (moved-none i vs h))

pub texts-moved : (ns : List (List ℕ)) (vs : List (Option (List ℕ))) (i : ℕ) → AreDistinct ns → i < length ns
    → length ns ≡ length vs
    → put_option (from_entries {R = slice_cmp nat_cmp} (entries_of ns (moved i vs))) (get_or ns i []) (get_or vs i None)
    ≡ from_entries {R = slice_cmp nat_cmp} (entries_of ns (moved (i + 1) vs))
texts-moved ns vs i a l e =
    sym (named-set ns (moved i vs) i (get_or vs i None) a l (omega (arith, e, length-moved i vs)))
    ∙ ap (λ xs. from_entries {R = slice_cmp nat_cmp} (entries_of ns xs)) (moved-set i vs)

-- a name that isn't needed has none
pub without_value : (ns : List (List ℕ)) (vs : List (Option (List ℕ))) (r : RenumberingView) (i : ℕ) → AreDistinct ns
    → i < length ns → length ns ≡ length vs
    → HasValued ns (from_entries {R = slice_cmp nat_cmp} (entries_of ns vs)) r → number_in r i ≡ None
    → get_or vs i None ≡ None
without_value ns vs r i a l e h n = none (get_or vs i None) refl
  where
    none : (v : Option (List ℕ)) → get_or vs i None ≡ v → v ≡ None
    none None q = refl
    none (Some x) q = absurd (not_some {X = ℕ} None refl (subst (λ m. IsSome m) n
        (h i l (subst (λ m. IsSome m) (sym (get-named ns vs i a l e ∙ q)) refl))))

-- ---- loops over the names

-- a new number that is there has the old one's name
pub has_number : (names : List (List ℕ)) (r : RenumberingView) (i n : ℕ) → IsOf names r → number_in r i ≡ Some n
    → (n < length r.names) × (name_at r.names n ≡ name_at names i)
has_number names r i n o e = subst (λ m. IfSome m (λ k. (k < length r.names) × (name_at r.names k ≡ name_at names i))) e
    (o.each i)

pub same_at : {X : Type 0} (xs ys : List X) (i : ℕ) (d : X) → drop i xs ≡ drop i ys → get_or xs i d ≡ get_or ys i d
same_at xs ys i d h =
    let z : i + 0 ≡ i = omega arith in
    ap (λ k. get_or xs k d) (sym z) ∙ sym (get_or-drop i xs 0 d) ∙ ap (λ zs. get_or zs 0 d) h ∙ get_or-drop i ys 0 d
    ∙ ap (λ k. get_or ys k d) z

-- one step of the loop that needs the names with values
pub valued_step : (names : List (List ℕ)) (texts : Globals) (r k : RenumberingView) (i : ℕ) → IsMore r k
    → (IsSome (get texts (name_at names i)) → IsSome (number_in k i))
    → ((j : ℕ) → j < i → IsSome (get texts (name_at names j)) → IsSome (number_in r j))
    → (j : ℕ) → j < i + 1 → IsSome (get texts (name_at names j)) → IsSome (number_in k j)
valued_step names texts r k i m here before j l s = elim (cases_eq j i) [
  | inl e ↦ subst (λ n. IsSome (number_in k n)) (sym e) (here (subst (λ n. IsSome (get texts (name_at names n))) e s))
  | inr d ↦ m j (before j (omega (arith, d)) s)
]

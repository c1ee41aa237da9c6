-- Rows of values at ids that rise, and the entries of several rows.
use Rattle.std.proofs.Common.{◌≡◌, ◌≢◌, ℕ, zero, suc, ◌+◌, ◌-◌, ◌<◌, ◌≤◌, Bool, true, false, cond, ◌&&◌, ◌||◌, List}
use Rattle.std.proofs.Common.{[], ◌∷◌, ◌++◌, length, set, get_or, map, refl, sym, subst, ap, ◌∙◌, arith, Option, Some}
use Rattle.std.proofs.Common.{None, is_some, option_and_then, nat_eq, Result, Ok, Err, IfOk, IfErr}
use Rattle.std.specs.FinSet.{contains}
use Rattle.std.specs.List.{insert}
use Rattle.std.specs.Map.{lookup}
use Rattle.std.specs.List.Sorted.{IsSearchInRange, IsBinarySearchResult, IsNonDecreasingBy}
use Rattle.std.specs.Option.{option_or}
use Rattle.std.specs.Ordering.{nat_cmp, eq_by_cmp, ordering_index}
use Rattle.std.specs.Cmp.{unsigned_tied}
use Rattle.std.proofs.lemmas.Bool.{false≢true}
use Rattle.std.proofs.lemmas.Bool.Decides.{nat_tests}
use Rattle.std.proofs.lemmas.Cmp.{ranked}
use Rattle.std.proofs.lemmas.List.{length-map}
use Rattle.std.proofs.lemmas.List.Edits.{length-insert, get_or-insert_below, get_or-insert_at, get_or-insert_above}
use Rattle.std.proofs.lemmas.List.Sorted.{IsNonDecreasingBy-from_default}
use Rattle.object_table.specs.Objects.{contains_id}
use Rattle.object_table.specs.Pairs.{Pair, pair_cmp}
use Rattle.object_table.specs.Rows.{entry_at, ids_in, AreRising, IsAt, IsGapFor, AreApart, entries_of}
use Rattle.object_table.specs.Rows.{opened_at}
use Rattle.object_table.specs.Opened.{keys_of}
use Rattle.object_table.specs.Pages.{number_at}
use Rattle.object_table.specs.Slots.{AreNumbered}
use Rattle.object_table.proofs.Opened.{contains-keys_of}
use Rattle.object_table.proofs.Pairs.{same_pair, pair_tied}
use Rattle.object_table.proofs.Slots.{ids, IsWritten, IsSlotOf, at_least_one, place_within, stands_at, slot_found}
use Rattle.object_table.proofs.Slots.{slot_written, still_numbered}

same_test : (a b : ℕ) → a ≡ b → nat_eq a b ≡ true
same_test a b e = grind (arith, nat_tests)

apart_test : (a b : ℕ) → a ≢ b → nat_eq a b ≡ false
apart_test a b n = grind (arith, nat_tests)

pub by_test : (a b : ℕ) → nat_eq a b ≡ true → a ≡ b
by_test a b e = grind (arith, nat_tests)

turned : (a b : ℕ) → nat_eq a b ≡ nat_eq b a
turned a b = grind (arith, nat_tests)

not_both : (id x q : ℕ) → x ≢ id → nat_eq q x ≡ true → nat_eq id q ≡ true → ⊥
not_both id x q n e f = n (sym (by_test q x e) ∙ sym (by_test id q f))

-- an id stands at none of the first places
abbrev pub NoneBefore : List ℕ → ℕ → ℕ → Type 0
NoneBefore ids id i = (j : ℕ) → j < i → get_or ids j 0 ≢ id

later : (x : ℕ) (ids : List ℕ) (id i : ℕ) → NoneBefore (x ∷ ids) id (suc i) → NoneBefore ids id i
later x ids id i none j h = none (suc j) (omega arith)

-- ---- ids that rise

module _ (ids : List ℕ) (rising : AreRising ids) (id i : ℕ) (at : IsAt ids id i) where
  pub none_before : NoneBefore ids id i
  none_before j h same = omega (arith, rising j i h at.within, at.is)

module _ (ids : List ℕ) (id i : ℕ) (gap : IsGapFor ids id i) where
  pub none_less : NoneBefore ids id i
  none_less j h same = omega (arith, gap.less j h)

  pub none_there : NoneBefore ids id (length ids)
  none_there j h same = grind (arith, gap.less j, gap.more j)

  -- it keeps them rising
  pub rising-insert : AreRising ids → AreRising (insert ids i id)
  rising-insert rising j k less within =
      let news = insert ids i id in
      let long = length-insert ids i id gap.within in
      let below : (n : ℕ) → n < i → get_or news n 0 ≡ get_or ids n 0 =
      λ n h. get_or-insert_below ids i id 0 n h gap.within in
      let here : (n : ℕ) → n ≡ i → get_or news n 0 ≡ id = λ n e. rw e (get_or-insert_at ids i id 0 gap.within) in
      let above : (n : ℕ) → i < n → get_or news n 0
      ≡ get_or ids (n - 1) 0 = λ n h. subst (λ q. get_or news q 0 ≡ get_or ids (n - 1) 0) {x = n - 1 + 1}
      (omega arith) (get_or-insert_above ids i id 0 (n - 1) (omega arith) gap.within) in
      grind (
        arith,
        below j,
        here j,
        above j,
        below k,
        here k,
        above k,
        rising j k,
        rising j (k - 1),
        rising (j - 1)
            (k - 1),
        gap.less j,
        gap.more (k - 1),
      )

-- ---- a row

module _ {Y : Type 0} where
  id-read : (es : List (ℕ × Y)) (i : ℕ) (d : ℕ × Y) → i < length es → get_or (ids_in es) i 0 ≡ (get_or es i d).0
  id-read [] i d h = absurd (omega arith)
  id-read (e ∷ es) zero d h = refl
  id-read (e ∷ es) (suc i) d h = id-read es i d (omega arith)

  -- the comparisons with an id rise, as a search by halves asks
  comparisons_rise : (es : List (ℕ × Y)) → AreRising (ids_in es) → (id : ℕ) → (ℕ × Y)
      → IsNonDecreasingBy (λ e. ordering_index (nat_cmp e.0 id)) es
  comparisons_rise es rising id d =
      IsNonDecreasingBy-from_default (λ e. ordering_index (nat_cmp e.0 id)) es d (λ i j le within.
      let long : length (ids_in es) ≡ length es = length-map es (λ e. e.0) in
      let one : get_or (ids_in es) i 0 ≡ (get_or es i d).0 = id-read es i d (omega (arith, le, within)) in
      let two : get_or (ids_in es) j 0 ≡ (get_or es j d).0 = id-read es j d within in
      let rise : (get_or es i d).0 ≤ (get_or es j d).0 =
      grind (arith, rising i j, λ (same : i ≡ j). ap (λ n. (get_or es n d).0) same) in
      grind (arith, nat_tests))

  -- a search by halves ends at the id, or at the gap for it
  pub searched : (es : List (ℕ × Y)) → AreRising (ids_in es) → (id : ℕ) (r : Result ℕ ℕ) → IsSearchInRange r (length es)
      → IsBinarySearchResult (λ e. nat_cmp e.0 id) es r
      → record { found : IfOk r (IsAt (ids_in es) id); absent : IfErr r (IsGapFor (ids_in es) id) }
  searched [] rising id (Ok i) within equal = absurd (omega arith)
  searched [] rising id (Err i) within
      parted = record {
        found = tt;
        absent =
            record { within = within; less = λ j h. absurd (omega arith); more = λ j h l. absurd (omega arith) };
      }
  searched (d ∷ es) rising id (Ok i) within equal =
      let long : length (ids_in (d ∷ es)) ≡ length (d ∷ es) = length-map (d ∷ es) (λ e. e.0) in
      record {
        found = record {
          within = omega (arith, within, long);
          is = id-read (d ∷ es) i d within
              ∙ ranked _ id _ (sym (equal d));
        };
        absent = tt;
      }
  searched (d ∷ es) rising id (Err i) within parted =
      let long : length (ids_in (d ∷ es)) ≡ length (d ∷ es) = length-map (d ∷ es) (λ e. e.0) in
      let both = parted (comparisons_rise (d ∷ es) rising id d) in
      let read : (j : ℕ) → j < length (d ∷ es) → get_or (ids_in (d ∷ es)) j 0 ≡ (get_or (d ∷ es) j d).0 =
      λ j h. id-read (d ∷ es) j d h in
      record {
        found = tt;
        absent = record {
          within = omega (arith, within, long);
          less = λ j h. subst (λ n. n < id) (sym (read j (omega (arith, h, within))))
              (ranked _ id _ (sym (both.0 j d (omega arith) h)));
          more = λ j h l. subst (λ n. id < n) (sym (read j (omega (arith, l, long))))
              (ranked _ id _ (sym (both.1 j d h (omega (arith, l, long)))));
        };
      }

  -- an entry that is read at a place is there
  pub at_read : (es : List (ℕ × Y)) (id i : ℕ) (e : ℕ × Y) → i < length es → e ≡ get_or es i e → e.0 ≡ id
      → IsAt (ids_in es) id i
  at_read es id i e within read same =
      let long : length (ids_in es) ≡ length es = length-map es (λ x. x.0) in
      record {
        within = omega (arith, within, long);
        is = id-read es i e within ∙ sym (ap (λ x. x.0) read) ∙ same;
      }

  -- an id that comes after the last one would go behind all
  pub gap_behind : (es : List (ℕ × Y)) (id : ℕ) (e : ℕ × Y) → AreRising (ids_in es) → length es - 1 < length es
      → e ≡ get_or es (length es - 1) e → e.0 < id → IsGapFor (ids_in es) id (length es)
  gap_behind es id e rising within read more =
      let long : length (ids_in es) ≡ length es = length-map es (λ x. x.0) in
      let last = at_read es e.0 (length es - 1) e within read refl in
      record {
        within = omega (arith, long);
        less = λ j h. grind (
          arith,
          last.is,
          rising j (length es - 1),
          λ (same : j ≡ length es - 1). ap (λ n. get_or (ids_in es) n 0) same,
        );
        more = λ j h l. absurd (omega (arith, h, l, long));
      }

  -- an id that stands nowhere
  pub entry-none : (es : List (ℕ × Y)) (id : ℕ) → NoneBefore (ids_in es) id (length (ids_in es)) → entry_at es id ≡ None
  entry-none [] id none = refl
  entry-none (e ∷ es) id none =
      ap (λ b. cond b (Some e.1) (entry_at es id)) (apart_test id e.0 (λ s. none 0 (omega arith) (sym s)))
      ∙ entry-none es id (later e.0 (ids_in es) id (length (ids_in es)) none)

  -- the entry at the place of an id
  pub entry-read : (es : List (ℕ × Y)) (id i : ℕ) (d : ℕ × Y) → IsAt (ids_in es) id i → NoneBefore (ids_in es) id i
      → entry_at es id ≡ Some (get_or es i d).1
  entry-read [] id i d at none = absurd (omega (arith, at.within))
  entry-read (e ∷ es) id zero d at none = ap (λ b. cond b (Some e.1) (entry_at es id)) (same_test id e.0 (sym at.is))
  entry-read (e ∷ es) id (suc i) d at none =
      ap (λ b. cond b (Some e.1) (entry_at es id)) (apart_test id e.0 (λ s. none 0 (omega arith) (sym s)))
      ∙ entry-read es id i d (record { within = omega (arith, at.within); is = at.is })
      (later e.0 (ids_in es) id i none)

  over : (b : Bool) (x y : Y) (o : Option Y) → cond b (Some y) o ≡ cond b (Some y) (cond b (Some x) o)
  over true x y o = refl
  over false x y o = refl

  either : (b c : Bool) (x y : Y) (o : Option Y) → (b ≡ true → c ≡ true → ⊥)
      → cond b (Some x) (cond c (Some y) o) ≡ cond c (Some y) (cond b (Some x) o)
  either true true x y o h = absurd (h refl refl)
  either true false x y o h = refl
  either false c x y o h = refl

  -- a value is written at the place of an id
  pub entry-set : (es : List (ℕ × Y)) (id i : ℕ) (y : Y) → IsAt (ids_in es) id i → NoneBefore (ids_in es) id i → (q : ℕ)
      → entry_at (set es i (id, y)) q ≡ cond (nat_eq id q) (Some y) (entry_at es q)
  entry-set [] id i y at none q = absurd (omega (arith, at.within))
  entry-set (e ∷ es) id zero y at none q =
      ap (λ b. cond b (Some y) (entry_at es q)) (turned q id)
      ∙ over (nat_eq id q) e.1 y (entry_at es q)
      ∙ ap (λ b. cond (nat_eq id q) (Some y) (cond b (Some e.1) (entry_at es q)))
      (turned id q ∙ ap (nat_eq q) (sym at.is))
  entry-set (e ∷ es) id (suc i) y at none q =
      ap (λ o. cond (nat_eq q e.0) (Some e.1) o)
      (entry-set es id i y (record { within = omega (arith, at.within); is = at.is })
      (later e.0 (ids_in es) id i none) q)
      ∙ either (nat_eq q e.0) (nat_eq id q) e.1 y (entry_at es q) (not_both id e.0 q (none 0 (omega arith)))

  -- a value is put before the place where an id would stand
  pub entry-insert : (es : List (ℕ × Y)) (id i : ℕ) (y : Y) → NoneBefore (ids_in es) id i → (q : ℕ)
      → entry_at (insert es i (id, y)) q ≡ cond (nat_eq id q) (Some y) (entry_at es q)
  entry-insert es id zero y none q = ap (λ b. cond b (Some y) (entry_at es q)) (turned q id)
  entry-insert [] id (suc i) y none q = ap (λ b. cond b (Some y) None) (turned q id)
  entry-insert (e ∷ es) id (suc i) y none q =
      ap (λ o. cond (nat_eq q e.0) (Some e.1) o) (entry-insert es id i y (later e.0 (ids_in es) id i none) q)
      ∙ either (nat_eq q e.0) (nat_eq id q) e.1 y (entry_at es q) (not_both id e.0 q (none 0 (omega arith)))

  pub ids-set : (es : List (ℕ × Y)) (id i : ℕ) (y : Y) → IsAt (ids_in es) id i → ids_in (set es i (id, y)) ≡ ids_in es
  ids-set [] id i y at = refl
  ids-set (e ∷ es) id zero y at = ap (λ n. n ∷ ids_in es) (sym at.is)
  ids-set (e ∷ es) id (suc i) y at =
      ap (λ ns. e.0 ∷ ns) (ids-set es id i y (record { within = omega (arith, at.within); is = at.is }))

  pub ids-insert : (es : List (ℕ × Y)) (id i : ℕ) (y : Y) → ids_in (insert es i (id, y)) ≡ insert (ids_in es) i id
  ids-insert es id zero y = refl
  ids-insert [] id (suc i) y = refl
  ids-insert (e ∷ es) id (suc i) y = ap (λ ns. e.0 ∷ ns) (ids-insert es id i y)

  -- an entry has the id of its place
  pub own-id : (es : List (ℕ × Y)) (id i : ℕ) (e : ℕ × Y) → IsAt (ids_in es) id i → e ≡ get_or es i e → e.0 ≡ id
  own-id es id i e at is = ap (λ x. x.0) is
      ∙ sym (id-read es i e (let long : length (ids_in es)
      ≡ length es = length-map es (λ x. x.0) in omega (arith, at.within, long))) ∙ at.is

  pub insert-last : (es : List (ℕ × Y)) (e : ℕ × Y) → es ++ e ∷ [] ≡ insert es (length es) e
  insert-last [] e = refl
  insert-last (x ∷ es) e = ap (λ l. x ∷ l) (insert-last es e)

  pub ids-append : (es : List (ℕ × Y)) (id : ℕ) (y : Y) → ids_in (es ++ (id, y) ∷ []) ≡ ids_in es ++ id ∷ []
  ids-append [] id y = refl
  ids-append (e ∷ es) id y = ap (λ ns. e.0 ∷ ns) (ids-append es id y)

  -- an entry that is added is there
  pub entry-added : (es : List (ℕ × Y)) (id : ℕ) (y : Y) → is_some (entry_at (es ++ (id, y) ∷ []) id) ≡ true
  entry-added [] id y = ap (λ b. is_some (cond b (Some y) None)) (same_test id id refl)
  entry-added (e ∷ es) id y = each (nat_eq id e.0) (entry-added es id y)
    where
      each : (b : Bool) → is_some (entry_at (es ++ (id, y) ∷ []) id) ≡ true
          → is_some (cond b (Some e.1) (entry_at (es ++ (id, y) ∷ []) id)) ≡ true
      each true h = refl
      each false h = h

  -- the id of each entry has one
  pub entry-there : (es : List (ℕ × Y)) (i : ℕ) (e : ℕ × Y) → i < length es → e ≡ get_or es i e
      → is_some (entry_at es e.0) ≡ true
  entry-there [] i e h read = absurd (omega arith)
  entry-there (x ∷ es) zero e h read =
      ap (λ b. is_some (cond b (Some x.1) (entry_at es e.0))) (same_test e.0 x.0 (ap (λ y. y.0) read))
  entry-there (x ∷ es) (suc i) e h read = each (nat_eq e.0 x.0) (entry-there es i e (omega arith) read)
    where
      each : (b : Bool) → is_some (entry_at es e.0) ≡ true → is_some (cond b (Some x.1) (entry_at es e.0)) ≡ true
      each true h = refl
      each false h = h

  -- an id has an entry where it is one of them
  pub entry-among : (es : List (ℕ × Y)) (id : ℕ) → is_some (entry_at es id) ≡ contains_id id (ids_in es)
  entry-among [] id = refl
  entry-among (e ∷ es) id =
      found (nat_eq id e.0) (entry-among es id) ∙ ap (λ b. b || contains_id id (ids_in es)) (turned id e.0)
    where
      found : (b : Bool) → is_some (entry_at es id) ≡ contains_id id (ids_in es)
          → is_some (cond b (Some e.1) (entry_at es id)) ≡ (b || contains_id id (ids_in es))
      found true h = refl
      found false h = h

-- ---- rows that are apart

pub contains-append : (xs : List ℕ) (x id : ℕ) → contains_id x (xs ++ id ∷ []) ≡ (contains_id x xs || nat_eq id x)
contains-append [] x id = or_false (nat_eq id x)
  where
    or_false : (b : Bool) → (b || false) ≡ b
    or_false true = refl
    or_false false = refl
contains-append (y ∷ ys) x id = ap (λ b. nat_eq y x || b) (contains-append ys x id) ∙ joined (nat_eq y x)
  where
    joined : (b : Bool) → (b || (contains_id x ys || nat_eq id x)) ≡ ((b || contains_id x ys) || nat_eq id x)
    joined true = refl
    joined false = refl

pub apart-append : (ids : List ℕ) (id : ℕ) → AreApart ids → contains_id id ids ≡ false → AreApart (ids ++ id ∷ [])
apart-append [] id are none = (refl, tt)
apart-append (x ∷ xs) id are none = (
  contains-append xs x id ∙ (λ i. are.0 i || first (nat_eq x id) none i) ∙ ap (λ b. false || b) refl,
  apart-append xs id are.1 (rest (nat_eq x id) none),
)
  where
    first : (b : Bool) → (b || contains_id id xs) ≡ false → nat_eq id x ≡ false
    first true n = absurd (false≢true (sym n))
    first false n =
        apart_test id x (λ e. false≢true (sym none ∙ ap (λ b. b || contains_id id xs) (same_test x id (sym e))))

    rest : (b : Bool) → (b || contains_id id xs) ≡ false → contains_id id xs ≡ false
    rest true n = absurd (false≢true (sym n))
    rest false n = n

-- ---- the entries of rows

module _ {Y : Type 0} where
  appended : (p : Pair → Bool) (xs ys : List (Pair × Y)) → lookup p (xs ++ ys) ≡ option_or (lookup p xs) (lookup p ys)
  appended p [] ys = refl
  appended p (x ∷ xs) ys = each (p x.0) (appended p xs ys)
    where
      each : (b : Bool) → lookup p (xs ++ ys) ≡ option_or (lookup p xs) (lookup p ys)
          → cond b (Some x.1) (lookup p (xs ++ ys)) ≡ option_or (cond b (Some x.1) (lookup p xs)) (lookup p ys)
      each true h = refl
      each false h = h

  -- a row has the entries of its card alone
  of_row : (card : ℕ) (row : List (ℕ × Y)) (q : Pair)
      → lookup (same_pair q) (map (λ e. ((e.0, card), e.1)) row) ≡ cond (nat_eq q.1 card) (entry_at row q.0) None
  of_row card [] q = each (nat_eq q.1 card)
    where
      each : (b : Bool) → ◌≡◌ {A = Option Y} None (cond b None None)
      each true = refl
      each false = refl
  of_row card (e ∷ row) q = each (nat_eq q.0 e.0) (nat_eq q.1 card) (of_row card row q)
    where
      each : (a b : Bool) → lookup (same_pair q) (map (λ e. ((e.0, card), e.1)) row) ≡ cond b (entry_at row q.0) None
          → cond (a && b) (Some e.1) (lookup (same_pair q) (map (λ e. ((e.0, card), e.1)) row))
          ≡ cond b (cond a (Some e.1) (entry_at row q.0)) None
      each true true h = refl
      each true false h = h
      each false true h = h
      each false false h = h

  none-of : (rs : List (ℕ × List (ℕ × Y))) (q : Pair) → entry_at rs q.1 ≡ None
      → lookup (same_pair q) (entries_of rs) ≡ None
  none-of [] q n = refl
  none-of (r ∷ rs) q n =
      appended (same_pair q) _ (entries_of rs)
      ∙ ap (λ o. option_or o (lookup (same_pair q) (entries_of rs))) (of_row r.0 r.1 q)
      ∙ each (nat_eq q.1 r.0) n (none-of rs q)
    where
      each : (b : Bool) → cond b (Some r.1) (entry_at rs q.1) ≡ None
          → (entry_at rs q.1 ≡ None → lookup (same_pair q) (entries_of rs) ≡ None)
          → option_or (cond b (entry_at r.1 q.0) None) (lookup (same_pair q) (entries_of rs)) ≡ None
      each true m others = absurd (false≢true (ap is_some (sym m)))
      each false m others = others m

  no_entry : (o : Option (List (ℕ × Y))) → is_some o ≡ false → o ≡ None
  no_entry None h = refl
  no_entry (Some x) h = absurd (false≢true (sym h))

  of_pair : (rs : List (ℕ × List (ℕ × Y))) (q : Pair) → AreApart (ids_in rs)
      → lookup (same_pair q) (entries_of rs) ≡ option_and_then (λ row. entry_at row q.0) (entry_at rs q.1)
  of_pair [] q are = refl
  of_pair (r ∷ rs) q are =
      appended (same_pair q) _ (entries_of rs)
      ∙ ap (λ o. option_or o (lookup (same_pair q) (entries_of rs))) (of_row r.0 r.1 q)
      ∙ each (nat_eq q.1 r.0) refl (of_pair rs q are.1)
    where
      kept : (o : Option Y) → option_or o None ≡ o
      kept None = refl
      kept (Some y) = refl

      each : (b : Bool) → nat_eq q.1 r.0 ≡ b
          → lookup (same_pair q) (entries_of rs) ≡ option_and_then (λ row. entry_at row q.0) (entry_at rs q.1)
          → option_or (cond b (entry_at r.1 q.0) None) (lookup (same_pair q) (entries_of rs))
          ≡ option_and_then (λ row. entry_at row q.0) (cond b (Some r.1) (entry_at rs q.1))
      each true e others =
          let absent : entry_at rs q.1 ≡ None =
          no_entry _ (entry-among rs q.1 ∙ ap (λ n. contains_id n (ids_in rs)) (by_test q.1 r.0 e) ∙ are.0) in
          ap (λ o. option_or (entry_at r.1 q.0) o) (none-of rs q absent) ∙ kept (entry_at r.1 q.0)
      each false e others = others

  same_lookup : (q : Pair) (es : List (Pair × Y)) → lookup (eq_by_cmp pair_cmp q) es ≡ lookup (same_pair q) es
  same_lookup q es = ap (λ (p : Pair → Bool). lookup p es) (λ i x. pair_tied q x i)

  -- the entry of a pair is the one of its part in the row of its card
  pub entry-of_pair : (rs : List (ℕ × List (ℕ × Y))) (q : Pair) → AreApart (ids_in rs)
      → lookup (eq_by_cmp pair_cmp q) (entries_of rs) ≡ option_and_then (λ row. entry_at row q.0) (entry_at rs q.1)
  entry-of_pair rs q are = same_lookup q (entries_of rs) ∙ of_pair rs q are

  -- an empty row adds no entry
  pub entries-empty_row : (rs : List (ℕ × List (ℕ × Y))) (card : ℕ) → entries_of (rs ++ (card, []) ∷ []) ≡ entries_of rs
  entries-empty_row [] card = refl
  entries-empty_row (r ∷ rs) card = ap (λ es. map (λ e. ((e.0, r.0), e.1)) r.1 ++ es) (entries-empty_row rs card)

  -- a row is written
  pub entries-rewritten : (rs ss : List (ℕ × List (ℕ × Y))) (card : ℕ) (row new : List (ℕ × Y))
      (f : ℕ → Option Y → Option Y) → AreApart (ids_in rs) → AreApart (ids_in ss) → entry_at rs card ≡ Some row
      → ((c : ℕ) → entry_at ss c ≡ cond (nat_eq card c) (Some new) (entry_at rs c))
      → ((p : ℕ) → entry_at new p ≡ f p (entry_at row p)) → (q : Pair)
      → lookup (eq_by_cmp pair_cmp q) (entries_of ss) ≡ cond (nat_eq card q.1)
      (f q.0 (lookup (eq_by_cmp pair_cmp q) (entries_of rs))) (lookup (eq_by_cmp pair_cmp q) (entries_of rs))
  entries-rewritten rs ss card row new f are are' is rows parts q =
      entry-of_pair ss q are'
      ∙ ap (option_and_then (λ r. entry_at r q.0)) (rows q.1)
      ∙ each (nat_eq card q.1) refl
      ∙ ap (λ o. cond (nat_eq card q.1) (f q.0 o) o) (sym (entry-of_pair rs q are))
    where
      each : (b : Bool) → nat_eq card q.1 ≡ b
          → option_and_then (λ r. entry_at r q.0) (cond b (Some new) (entry_at rs q.1))
          ≡ cond b (f q.0 (option_and_then (λ r. entry_at r q.0) (entry_at rs q.1)))
          (option_and_then (λ r. entry_at r q.0) (entry_at rs q.1))
      each true e = parts q.0
          ∙ ap (λ o. f q.0 (option_and_then (λ r. entry_at r q.0) o))
          (sym is ∙ ap (entry_at rs) (by_test card q.1 e))
      each false e = refl

  -- an entry is written in a row
  pub entries-written : (rs ss : List (ℕ × List (ℕ × Y))) (part card : ℕ) (row new : List (ℕ × Y)) (y : Y)
      → AreApart (ids_in rs) → AreApart (ids_in ss) → entry_at rs card ≡ Some row
      → ((c : ℕ) → entry_at ss c ≡ cond (nat_eq card c) (Some new) (entry_at rs c))
      → ((p : ℕ) → entry_at new p ≡ cond (nat_eq part p) (Some y) (entry_at row p))
      → (q : Pair) → lookup (eq_by_cmp pair_cmp q) (entries_of ss)
      ≡ cond (eq_by_cmp pair_cmp (part, card) q) (Some y) (lookup (eq_by_cmp pair_cmp q) (entries_of rs))
  entries-written rs ss part card row new y are are' is rows parts q =
      entries-rewritten rs ss card row new (λ p o. cond (nat_eq part p) (Some y) o) are are' is rows parts q
      ∙ both (nat_eq part q.0) (nat_eq card q.1) (lookup (eq_by_cmp pair_cmp q) (entries_of rs))
      ∙ ap (λ b. cond b (Some y) (lookup (eq_by_cmp pair_cmp q) (entries_of rs))) (sym (pair_tied (part, card) q))
    where
      both : (a b : Bool) (o : Option Y) → cond b (cond a (Some y) o) o ≡ cond (a && b) (Some y) o
      both true true o = refl
      both true false o = refl
      both false true o = refl
      both false false o = refl

  -- what stands first at an id, as maps ask for it
  pub entry-tied : (es : List (ℕ × Y)) (id : ℕ) → lookup (eq_by_cmp nat_cmp id) es ≡ entry_at es id
  entry-tied es id = ap (λ (p : ℕ → Bool). lookup p es) (λ i x. unsigned_tied id x i)

-- ---- parts that are opened

module _ {X : Type 0} (es : List (ℕ × Option X)) (id : ℕ) where
  -- a part that is there has a value or none
  pub entry-stays : is_some (entry_at es id) ≡ true → (q : ℕ)
      → entry_at es q ≡ cond (nat_eq id q) (opened_at (entry_at es id)) (entry_at es q)
  entry-stays there q = each (nat_eq id q) refl
    where
      again : (o : Option (Option X)) → is_some o ≡ true → o ≡ opened_at o
      again None h = absurd (false≢true h)
      again (Some v) h = refl

      each : (b : Bool) → nat_eq id q ≡ b → entry_at es q ≡ cond b (opened_at (entry_at es id)) (entry_at es q)
      each true e = ap (entry_at es) (sym (by_test id q e)) ∙ again (entry_at es id) there
      each false e = refl

  module _ (i : ℕ) (gap : IsGapFor (ids_in es) id i) where
    pub rising-opened : AreRising (ids_in es) → AreRising (ids_in (insert es i (id, None)))
    rising-opened rising =
        subst AreRising (sym (ids-insert es id i None)) (rising-insert (ids_in es) id i gap rising)

    -- one that isn't there has none
    pub entry-opened : (q : ℕ)
        → entry_at (insert es i (id, None)) q ≡ cond (nat_eq id q) (opened_at (entry_at es id)) (entry_at es q)
    entry-opened q =
        let absent : entry_at es id ≡ None = entry-none es id (none_there (ids_in es) id i gap) in
        entry-insert es id i None (none_less (ids_in es) id i gap) q
        ∙ ap (λ o. cond (nat_eq id q) (opened_at o) (entry_at es q)) (sym absent)

-- one part more is opened
pub opened_more : {X : Type 0} (old now new : List (ℕ × Option X)) (parts : List ℕ) (part : ℕ)
    → ((c : ℕ) → entry_at now c ≡ cond (contains_id c parts) (opened_at (entry_at old c)) (entry_at old c))
    → ((c : ℕ) → entry_at new c ≡ cond (nat_eq part c) (opened_at (entry_at now part)) (entry_at now c)) → (c : ℕ)
    → entry_at new c ≡ cond (contains_id c (parts ++ part ∷ [])) (opened_at (entry_at old c)) (entry_at old c)
opened_more {X} old now new parts part before step c =
    step c
    ∙ own (nat_eq part c) refl
    ∙ ap (λ o. cond (nat_eq part c) (opened_at o) o) (before c)
    ∙ twice (contains_id c parts) (nat_eq part c) (entry_at old c)
    ∙ ap (λ b. cond b (opened_at (entry_at old c)) (entry_at old c)) (sym (contains-append parts c part))
  where
    own : (b : Bool) → nat_eq part c ≡ b
        → cond b (opened_at (entry_at now part)) (entry_at now c) ≡ cond b (opened_at (entry_at now c)) (entry_at now c)
    own true e = ap (λ n. opened_at (entry_at now n)) (by_test part c e)
    own false e = refl

    twice : (a b : Bool) (o : Option (Option X))
        → cond b (opened_at (cond a (opened_at o) o)) (cond a (opened_at o) o) ≡ cond (a || b) (opened_at o) o
    twice true true o = refl
    twice true false o = refl
    twice false true o = refl
    twice false false o = refl

-- what is found in something is found in what is there
pub outer_some : {A B : Type 0} (f : A → Option B) (o : Option A) → is_some (option_and_then f o) ≡ true
    → is_some o ≡ true
outer_some f None h = absurd (false≢true h)
outer_some f (Some a) h = refl

-- ---- the row of a card, by the number that the pages have

module _ {Y : Type 0} (pages : List (List ℕ)) (rs : List (ℕ × List (ℕ × Y))) (card n : ℕ) (are : AreNumbered pages rs)
    (is : n ≡ number_at pages card) (there : is_some (entry_at rs card) ≡ true) where
  row-open : contains (keys_of {R = nat_cmp} rs) card ≡ true
  row-open = contains-keys_of ids rs card ∙ ap (λ o. is_some o) (entry-tied rs card) ∙ there

  pub row-counted : 1 ≤ n
  row-counted = at_least_one pages rs card n are is row-open

  pub row-within : n - 1 < length rs
  row-within = place_within pages rs card n are is row-open

  module _ (apart : AreApart (ids_in rs)) (e : ℕ × List (ℕ × Y)) (read : e ≡ get_or rs (n - 1) e) where
    row-stands : IsSlotOf card (n - 1) e rs
    row-stands = stands_at pages rs card n are is row-open e read

    pub row-found : entry_at rs card ≡ Some e.1
    row-found = sym (entry-tied rs card) ∙ sym (slot_found card (n - 1) e rs row-stands)

    -- the entry of a pair is the one of its part in that row
    pub pair-found : (part : ℕ) → lookup (eq_by_cmp pair_cmp (part, card)) (entries_of rs) ≡ entry_at e.1 part
    pair-found part = entry-of_pair rs (part, card) apart ∙ ap (option_and_then (λ r. entry_at r part)) row-found

    module _ (new : List (ℕ × Y)) where
      written : IsWritten rs (set rs (n - 1) (e.0, new)) card new
      written = slot_written card (n - 1) e rs row-stands new

      pub rows-kept : AreNumbered pages (set rs (n - 1) (e.0, new)) × AreApart (ids_in (set rs (n - 1) (e.0, new)))
      rows-kept = (still_numbered card (n - 1) e rs row-stands pages new are, subst AreApart (sym written.1) apart)

      row-written : (c : ℕ) → entry_at (set rs (n - 1) (e.0, new)) c ≡ cond (nat_eq card c) (Some new) (entry_at rs c)
      row-written c = sym (entry-tied (set rs (n - 1) (e.0, new)) c) ∙ written.0 c
          ∙ (λ i. cond (unsigned_tied card c i) (Some new) (entry-tied rs c i))

      -- a value is written at a part of that row
      pub pair-written : (part : ℕ) (y : Y)
          → ((p : ℕ) → entry_at new p ≡ cond (nat_eq part p) (Some y) (entry_at e.1 p))
          → (q : Pair) → lookup (eq_by_cmp pair_cmp q) (entries_of (set rs (n - 1) (e.0, new)))
          ≡ cond (eq_by_cmp pair_cmp (part, card) q) (Some y) (lookup (eq_by_cmp pair_cmp q) (entries_of rs))
      pair-written part y parts = entries-written rs (set rs (n - 1) (e.0, new)) part card e.1 new y apart rows-kept.1
          row-found row-written parts

      -- that row is written
      pub pairs-written : (f : ℕ → Option Y → Option Y)
          → ((p : ℕ) → entry_at new p ≡ f p (entry_at e.1 p)) → (q : Pair)
          → lookup (eq_by_cmp pair_cmp q) (entries_of (set rs (n - 1) (e.0, new)))
          ≡ cond (nat_eq card q.1) (f q.0 (lookup (eq_by_cmp pair_cmp q) (entries_of rs)))
          (lookup (eq_by_cmp pair_cmp q) (entries_of rs))
      pairs-written f parts =
          let ss = set rs (n - 1) (e.0, new) in
          entries-rewritten rs ss card e.1 new f apart rows-kept.1 row-found row-written parts

-- Slots of ids, by the entries of a map.
use Rattle.std.proofs.Common.{◌≡◌, ◌≢◌, ◌==◌, ℕ, zero, suc, ◌+◌, ◌-◌, ◌<◌, ◌≤◌, if◌then◌else◌, Bool, true, false, cond}
use Rattle.std.proofs.Common.{List, [], ◌∷◌, ◌++◌, length, set, get_or, slice_get, map, refl, sym, ap, subst, ◌∙◌}
use Rattle.std.proofs.Common.{arith, Option, Some, None, is_some, option_map, option_and_then, nat_eq}
use Rattle.std.specs.Option.{option_or}
use Rattle.std.specs.Map.{lookup}
use Rattle.std.specs.Ordering.{nat_cmp, eq_by_cmp}
use Rattle.std.specs.Cmp.{Equal-is, nat_cmp_total, unsigned_tied}
use Rattle.std.specs.FinMap.{get, nat_cmp-IsAntisymmetric}
use Rattle.std.specs.FinSet.{contains, from_list}
use Rattle.std.proofs.lemmas.Bool.{false≢true}
use Rattle.std.proofs.lemmas.Bool.Decides.{nat_tests}
use Rattle.object_table.specs.Maps.{put_option}
use Rattle.object_table.specs.Opened.{map_of, keys_of}
use Rattle.object_table.specs.Pages.{number_at}
use Rattle.object_table.specs.Slots.{objects_in, parts_in, slots_of, following, slot_number, slot_at, AreNumbered}
use Rattle.object_table.specs.declared.object.Object.{Object}
use Rattle.object_table.specs.declared.slot_table.Slot.{Slot}
use Rattle.object_table.proofs.Opened.{AreKeys, contains-keys_of, get-map_of, map_of-updated, map_of-same}

pub tied_apart : (q n : ℕ) → q ≢ n → eq_by_cmp nat_cmp q n ≡ false
tied_apart q n h = unsigned_tied q n ∙ grind (arith, nat_tests)

pub tied_same : (q n : ℕ) → q ≡ n → eq_by_cmp nat_cmp q n ≡ true
tied_same q n h = unsigned_tied q n ∙ grind (arith, nat_tests)

pub nat_eq_sym : (a b : ℕ) → nat_eq a b ≡ nat_eq b a
nat_eq_sym a b = grind (arith, nat_tests)

pub ids : AreKeys nat_cmp
ids = record { total = nat_cmp_total; apart = nat_cmp-IsAntisymmetric }

-- whether a key is an id, as the map asks
abbrev at_id : ℕ → ℕ → Bool
at_id id = eq_by_cmp nat_cmp id

-- ---- what f reads in each slot: its object, or its list of parts

module _ {X : Type 0} (f : Slot → Option X) where
  abbrev read : List (ℕ × Slot) → List (ℕ × Option X)
  read es = map (λ e. (e.0, f e.1)) es

  mapped : (b : Bool) (s : Slot) (o : Option Slot)
      → option_map f (cond b (Some s) o) ≡ cond b (Some (f s)) (option_map f o)
  mapped true s o = refl
  mapped false s o = refl

  lookup-read : (es : List (ℕ × Slot)) (p : ℕ → Bool) → lookup p (read es) ≡ option_map f (lookup p es)
  lookup-read [] p = refl
  lookup-read (e ∷ es) p =
      ap (λ o. cond (p e.0) (Some (f e.1)) o) (lookup-read es p) ∙ sym (mapped (p e.0) e.1 (lookup p es))

  joined : (o : Option Slot) → option_and_then (λ x. x) (option_map f o) ≡ option_and_then f o
  joined None = refl
  joined (Some s) = refl

  -- what is read in the slot of an id
  pub get-read : (es : List (ℕ × Slot)) (q : ℕ)
      → get (map_of {R = nat_cmp} (read es)) q ≡ option_and_then f (lookup (at_id q) es)
  get-read es q = get-map_of ids (read es) q ∙ ap (option_and_then (λ x. x)) (lookup-read es (at_id q))
      ∙ joined (lookup (at_id q) es)

  module _ (es fs : List (ℕ × Slot)) (k : ℕ) (s : Slot)
      (updates : (q : ℕ) → lookup (at_id q) fs ≡ cond (at_id k q) (Some s) (lookup (at_id q) es)) where
    updates-read : (q : ℕ) → lookup (at_id q) (read fs) ≡ cond (at_id k q) (Some (f s)) (lookup (at_id q) (read es))
    updates-read q =
        lookup-read fs (at_id q)
        ∙ ap (option_map f) (updates q)
        ∙ mapped (at_id k q) s (lookup (at_id q) es)
        ∙ ap (λ o. cond (at_id k q) (Some (f s)) o) (sym (lookup-read es (at_id q)))

    -- a slot is written
    pub read-updated : map_of {R = nat_cmp} (read fs) ≡ put_option (map_of (read es)) k (f s)
    read-updated = map_of-updated ids (read es) (read fs) k (f s) updates-read

    -- and has what it had
    pub read-same : f s ≡ option_and_then f (lookup (at_id k) es) → map_of {R = nat_cmp} (read fs) ≡ map_of (read es)
    read-same e = map_of-same ids (read es) (read fs) k (f s) updates-read
        (e ∙ sym (ap (option_and_then (λ x. x)) (lookup-read es (at_id k)) ∙ joined (lookup (at_id k) es)))

-- ---- exchanges in the slot of an id

-- a value is written at an id; the ids stay
abbrev pub IsWritten : {V : Type 0} → List (ℕ × V) → List (ℕ × V) → ℕ → V → Type 0
IsWritten es fs k s = ((q : ℕ) → lookup (at_id q) fs ≡ cond (at_id k q) (Some s) (lookup (at_id q) es))
    × (map (λ e. e.0) fs ≡ map (λ e. e.0) es)

module _ (es fs : List (ℕ × Slot)) (k : ℕ) (now : Slot) where
  -- an object is put there
  pub object_put : (o : Option Object) → Some now ≡ lookup (at_id k) es
      → IsWritten es fs k (record { object = o; parts = now.parts })
      → slots_of fs ≡ record (slots_of es) { objects = put_option (objects_in es) k o }
  object_put o there written =
      let s : Slot = record { object = o; parts = now.parts } in
      let objects = read-updated (λ t. t.object) es fs k s written.0 in
      let parts = read-same (λ t. t.parts) es fs k s written.0 (ap (option_and_then (λ t. t.parts)) there) in
      λ i. record { objects = objects i; parts = parts i; ids = from_list (written.1 i) }

  -- a list of parts is put there
  pub parts_put : (l : Option (List ℕ)) → Some now ≡ lookup (at_id k) es
      → IsWritten es fs k (record { object = now.object; parts = l })
      → slots_of fs ≡ record (slots_of es) { parts = put_option (parts_in es) k l }
  parts_put l there written =
      let s : Slot = record { object = now.object; parts = l } in
      let objects = read-same (λ t. t.object) es fs k s written.0 (ap (option_and_then (λ t. t.object)) there) in
      let parts = read-updated (λ t. t.parts) es fs k s written.0 in
      λ i. record { objects = objects i; parts = parts i; ids = from_list (written.1 i) }

-- ---- slots by their numbers

following_small : (n m : ℕ) → n ≤ m → following n ≤ suc m
following_small zero m h = omega arith
following_small (suc n) m h = omega arith

some_within : {X : Type 0} (es : List X) (n : ℕ) → n < length es → is_some (slice_get es n) ≡ true
some_within [] n h = absurd (omega arith)
some_within (e ∷ es) zero h = refl
some_within (e ∷ es) (suc n) h = some_within es n (omega arith)

pub mapped_some : {X Y : Type 0} (f : X → Y) (o : Option X) → is_some (option_map f o) ≡ is_some o
mapped_some f None = refl
mapped_some f (Some x) = refl

abbrev joined_number : ℕ → ℕ → ℕ
joined_number zero m = m
joined_number (suc n) m = suc n

tied_again : (q k : ℕ) → at_id q k ≡ (q == k)
tied_again q k = unsigned_tied q k

module _ {V : Type 0} where
  other_slot : (e : ℕ × V) (es : List (ℕ × V)) (n : ℕ) → slot_at es n ≡ slot_at (e ∷ es) (following n)
  other_slot e es zero = refl
  other_slot e es (suc n) = refl

  -- the slot of an id has its number
  pub lookup-number : (es : List (ℕ × V)) (q : ℕ) → lookup (at_id q) es ≡ slot_at es (slot_number es q)
  lookup-number [] q = refl
  lookup-number (e ∷ es) q = by (at_id q e.0) (lookup-number es q ∙ other_slot e es (slot_number es q))
    where
      by : (b : Bool) → lookup (at_id q) es ≡ slot_at (e ∷ es) (following (slot_number es q))
          → cond b (Some e.1) (lookup (at_id q) es) ≡ slot_at (e ∷ es) (cond b 1 (following (slot_number es q)))
      by true h = refl
      by false h = h

  pub number-small : (es : List (ℕ × V)) (q : ℕ) → slot_number es q ≤ length es
  number-small [] q = omega arith
  number-small (e ∷ es) q = by (at_id q e.0) (following_small (slot_number es q) (length es) (number-small es q))
    where
      by : (b : Bool) → following (slot_number es q) ≤ suc (length es)
          → cond b 1 (following (slot_number es q)) ≤ suc (length es)
      by true h = omega arith
      by false h = h

  some_slot : (es : List (ℕ × V)) (n : ℕ) → is_some (slot_at es n) ≡ true → 1 ≤ n
  some_slot es zero h = absurd (false≢true h)
  some_slot es (suc n) h = omega arith

  -- what stands at the number that the pages have
  pub slot-numbered : (pages : List (List ℕ)) (es : List (ℕ × V)) (q n : ℕ) → AreNumbered pages es
      → n ≡ number_at pages q → slot_at es n ≡ lookup (at_id q) es
  slot-numbered pages es q n are is = ap (slot_at es) (is ∙ are q) ∙ sym (lookup-number es q)

  -- an id that is open has a number, and one that isn't has none
  pub has_number : (es : List (ℕ × V)) (q : ℕ) → is_some (lookup (at_id q) es) ≡ true → 1 ≤ slot_number es q
  has_number es q h = some_slot es (slot_number es q) (sym (ap (λ o. is_some o) (lookup-number es q)) ∙ h)

  pub none_numbered : (es : List (ℕ × V)) (q : ℕ) → slot_number es q ≡ 0 → lookup (at_id q) es ≡ None
  none_numbered es q z = lookup-number es q ∙ ap (slot_at es) z

  slot_within : (es : List (ℕ × V)) (n : ℕ) → 1 ≤ n → n ≤ length es → is_some (slot_at es n) ≡ true
  slot_within es zero low high = absurd (omega arith)
  slot_within es (suc n) low high = mapped_some (λ e. e.1) (slice_get es n) ∙ some_within es n (omega arith)

  -- an id that has a number is open
  pub numbered_there : (es : List (ℕ × V)) (q : ℕ) → 1 ≤ slot_number es q → is_some (lookup (at_id q) es) ≡ true
  numbered_there es q h =
      ap (λ o. is_some o) (lookup-number es q) ∙ slot_within es (slot_number es q) h (number-small es q)

  pub open_numbered : (es : List (ℕ × V)) (q : ℕ) → 1 ≤ slot_number es q → contains (keys_of {R = nat_cmp} es) q ≡ true
  open_numbered es q h = contains-keys_of ids es q ∙ numbered_there es q h

  pub number_open : (es : List (ℕ × V)) (q : ℕ) → contains (keys_of {R = nat_cmp} es) q ≡ true → 1 ≤ slot_number es q
  number_open es q h = has_number es q (sym (contains-keys_of ids es q) ∙ h)

  -- ---- a slot is added

  number-added : (k : ℕ) (s : V) (es : List (ℕ × V)) (q : ℕ)
      → slot_number (es ++ (k, s) ∷ []) q ≡ joined_number (slot_number es q) (cond (at_id q k) (suc (length es)) 0)
  number-added k s [] q = by (at_id q k)
    where
      by : (b : Bool) → cond b 1 0 ≡ cond b (suc 0) 0
      by true = refl
      by false = refl
  number-added k s (e ∷ es) q =
      by (at_id q e.0) (ap following (number-added k s es q) ∙ later (slot_number es q) (at_id q k))
    where
      later : (n : ℕ) (b : Bool) → following (joined_number n (cond b (suc (length es)) 0))
          ≡ joined_number (following n) (cond b (suc (suc (length es))) 0)
      later zero true = refl
      later zero false = refl
      later (suc n) b = refl

      by : (b : Bool) → following (slot_number (es ++ (k, s) ∷ []) q)
          ≡ joined_number (following (slot_number es q)) (cond (at_id q k) (suc (suc (length es))) 0)
          → cond b 1 (following (slot_number (es ++ (k, s) ∷ []) q))
          ≡ joined_number (cond b 1 (following (slot_number es q))) (cond (at_id q k) (suc (suc (length es))) 0)
      by true h = refl
      by false h = h

  -- the pages have the numbers again, once the one of the added slot is set
  pub numbered-added : (pages news : List (List ℕ)) (es : List (ℕ × V)) (k n : ℕ) (s : V) → AreNumbered pages es
      → number_at pages k ≡ 0 → n ≡ length es + 1
      → ((q : ℕ) → number_at news q ≡ (if q == k then n else number_at pages q)) → AreNumbered news (es ++ (k, s) ∷ [])
  numbered-added pages news es k n s are none is written q =
      written q
      ∙ by (q == k) refl
      ∙ ap (λ b. joined_number (slot_number es q) (cond b (suc (length es)) 0)) (sym (tied_again q k))
      ∙ sym (number-added k s es q)
    where
      same_key : (q == k) ≡ true → q ≡ k
      same_key e = grind (arith, nat_tests)

      by : (b : Bool) → (q == k) ≡ b → cond b n (number_at pages q)
          ≡ joined_number (slot_number es q) (cond b (suc (length es)) 0)
      by true e =
          let last : n ≡ suc (length es) = omega arith in
          last ∙ sym (ap (λ m. joined_number m (suc (length es)))
          (sym (are q) ∙ ap (number_at pages) (same_key e) ∙ none))
      by false e = are q ∙ kept (slot_number es q)
        where
          kept : (m : ℕ) → m ≡ joined_number m 0
          kept zero = refl
          kept (suc m) = refl

  appended : (k : ℕ) (s : V) (q : ℕ) (es : List (ℕ × V))
      → lookup (at_id q) (es ++ (k, s) ∷ []) ≡ option_or (lookup (at_id q) es) (cond (at_id q k) (Some s) None)
  appended k s q [] = refl
  appended k s q (e ∷ es) = each (at_id q e.0) (appended k s q es)
    where
      each : (b : Bool) → lookup (at_id q) (es ++ (k, s) ∷ [])
          ≡ option_or (lookup (at_id q) es) (cond (at_id q k) (Some s) None)
          → cond b (Some e.1) (lookup (at_id q) (es ++ (k, s) ∷ []))
          ≡ option_or (cond b (Some e.1) (lookup (at_id q) es)) (cond (at_id q k) (Some s) None)
      each true h = refl
      each false h = h

  pub added-updates : (es : List (ℕ × V)) (k : ℕ) (s : V) → lookup (at_id k) es ≡ None → (q : ℕ)
      → lookup (at_id q) (es ++ (k, s) ∷ []) ≡ cond (at_id k q) (Some s) (lookup (at_id q) es)
  added-updates es k s none q = appended k s q es ∙ by (at_id q k) refl
    where
      turned : at_id k q ≡ at_id q k
      turned = unsigned_tied k q ∙ nat_eq_sym k q ∙ sym (unsigned_tied q k)

      kept : (o : Option V) → option_or o None ≡ o
      kept None = refl
      kept (Some x) = refl

      by : (b : Bool) → at_id q k ≡ b
          → option_or (lookup (at_id q) es) (cond b (Some s) None) ≡ cond (at_id k q) (Some s) (lookup (at_id q) es)
      by true e =
          let same : q ≡ k = nat_cmp-IsAntisymmetric q k ((Equal-is (nat_cmp q k)).0 e) in
          ap (λ o. option_or o (Some s)) (ap (λ j. lookup (at_id j) es) same ∙ none)
          ∙ sym (ap (λ b. cond b (Some s) (lookup (at_id q) es)) (turned ∙ e))
      by false e = kept (lookup (at_id q) es) ∙ sym (ap (λ b. cond b (Some s) (lookup (at_id q) es)) (turned ∙ e))

  -- ---- a slot is written

  keys-written : (d : ℕ × V) (s : V) (es : List (ℕ × V)) (p : ℕ)
      → map (λ e. e.0) (set es p ((get_or es p d).0, s)) ≡ map (λ e. e.0) es
  keys-written d s [] p = refl
  keys-written d s (e ∷ es) zero = refl
  keys-written d s (e ∷ es) (suc p) = ap (λ ks. e.0 ∷ ks) (keys-written d s es p)

  numbers-kept : (d : ℕ × V) (s : V) (es : List (ℕ × V)) (p q : ℕ)
      → slot_number (set es p ((get_or es p d).0, s)) q ≡ slot_number es q
  numbers-kept d s [] p q = refl
  numbers-kept d s (e ∷ es) zero q = refl
  numbers-kept d s (e ∷ es) (suc p) q = ap (λ n. cond (at_id q e.0) 1 (following n)) (numbers-kept d s es p q)

  module _ (k q : ℕ) (d : ℕ × V) (s : V) where
    over : (b : Bool) (x : V) (o : Option V) → cond b (Some s) o ≡ cond b (Some s) (cond b (Some x) o)
    over true x o = refl
    over false x o = refl

    apart : (x : ℕ) (b c : Bool) → at_id q x ≡ b → at_id k q ≡ c → at_id k x ≡ false → (y : V) (o : Option V)
        → cond b (Some y) (cond c (Some s) o) ≡ cond c (Some s) (cond b (Some y) o)
    apart x true true e f differs y o =
        let same : k ≡ q = nat_cmp-IsAntisymmetric k q ((Equal-is (nat_cmp k q)).0 f) in
        absurd (false≢true (sym differs ∙ ap (λ j. at_id j x) same ∙ e))
    apart x true false e f differs y o = refl
    apart x false true e f differs y o = refl
    apart x false false e f differs y o = refl

    not_first : (m : ℕ) → following m ≡ 1 → ⊥
    not_first zero e = omega arith
    not_first (suc m) e = omega arith

    not_next : (m p : ℕ) → following m ≡ suc (suc p) → m ≡ suc p
    not_next zero p e = absurd (omega arith)
    not_next (suc m) p e = omega arith

    updates-written : (es : List (ℕ × V)) (p : ℕ) → slot_number es k ≡ suc p
        → lookup (at_id q) (set es p ((get_or es p d).0, s)) ≡ cond (at_id k q) (Some s) (lookup (at_id q) es)
    updates-written [] p n = absurd (omega arith)
    updates-written (e ∷ es) zero n = by (at_id k e.0) refl n
      where
        by : (b : Bool) → at_id k e.0 ≡ b → cond b 1 (following (slot_number es k)) ≡ 1
            → cond (at_id q e.0) (Some s) (lookup (at_id q) es)
            ≡ cond (at_id k q) (Some s) (cond (at_id q e.0) (Some e.1) (lookup (at_id q) es))
        by true f m =
            let same : k ≡ e.0 = nat_cmp-IsAntisymmetric k e.0 ((Equal-is (nat_cmp k e.0)).0 f) in
            let turned : at_id q e.0 ≡ at_id k q =
            ap (λ j. at_id q j) (sym same) ∙ unsigned_tied q k ∙ nat_eq_sym q k ∙ sym (unsigned_tied k q) in
            over (at_id q e.0) e.1 (lookup (at_id q) es)
            ∙ ap (λ b. cond b (Some s) (cond (at_id q e.0) (Some e.1) (lookup (at_id q) es))) turned
        by false f m = absurd (not_first (slot_number es k) m)
    updates-written (e ∷ es) (suc p) n = by (at_id k e.0) refl n (updates-written es p)
      where
        by : (b : Bool) → at_id k e.0 ≡ b → cond b 1 (following (slot_number es k)) ≡ suc (suc p)
            → (slot_number es k ≡ suc p → lookup (at_id q) (set es p ((get_or es p d).0, s))
            ≡ cond (at_id k q) (Some s) (lookup (at_id q) es))
            → cond (at_id q e.0) (Some e.1) (lookup (at_id q) (set es p ((get_or es p d).0, s)))
            ≡ cond (at_id k q) (Some s) (cond (at_id q e.0) (Some e.1) (lookup (at_id q) es))
        by true f m later = absurd (omega arith)
        by false f m later =
            ap (λ o. cond (at_id q e.0) (Some e.1) o) (later (not_next (slot_number es k) p m))
            ∙ apart e.0 (at_id q e.0) (at_id k q) refl refl f e.1 (lookup (at_id q) es)

  -- the slot of an id, at its place
  pub record IsSlotOf (k p : ℕ) (e : ℕ × V) (es : List (ℕ × V)) : Type 0 where
    pub number : slot_number es k ≡ suc p
    pub is : e ≡ get_or es p e

  module _ (k p : ℕ) (e : ℕ × V) (es : List (ℕ × V)) (at : IsSlotOf k p e es) where
    slice_some : (xs : List (ℕ × V)) (n : ℕ) → n < length xs → slice_get xs n ≡ Some (get_or xs n e)
    slice_some [] n h = absurd (omega arith)
    slice_some (x ∷ xs) zero h = refl
    slice_some (x ∷ xs) (suc n) h = slice_some xs n (omega arith)

    pub slot_found : Some e.1 ≡ lookup (at_id k) es
    slot_found =
        let within : p < length es = let few = number-small es k in let n = at.number in omega arith in
        sym (lookup-number es k ∙ ap (slot_at es) at.number
        ∙ ap (λ o. option_map (λ x. x.1) o) (slice_some es p within ∙ ap (λ x. Some x) (sym at.is)))

    pub slot_written : (s : V) → IsWritten es (set es p (e.0, s)) k s
    slot_written s = subst (λ x. IsWritten es (set es p (x.0, s)) k s) (sym at.is)
        ((λ q. updates-written k q e s es p at.number), keys-written e s es p)

    pub still_numbered : (pages : List (List ℕ)) (s : V) → AreNumbered pages es → AreNumbered pages (set es p (e.0, s))
    still_numbered pages s are =
        subst (λ x. AreNumbered pages (set es p (x.0, s))) (sym at.is) (λ q. are q ∙ sym (numbers-kept e s es p q))

  -- ---- the place of an open id, by the number that the pages have

  module _ (pages : List (List ℕ)) (es : List (ℕ × V)) (k n : ℕ) (are : AreNumbered pages es)
      (is : n ≡ number_at pages k) (there : contains (keys_of {R = nat_cmp} es) k ≡ true) where
    counted : n ≡ slot_number es k
    counted = is ∙ are k

    pub at_least_one : 1 ≤ n
    at_least_one = omega (arith, counted, number_open es k there)

    pub place_within : n - 1 < length es
    place_within = omega (arith, at_least_one, counted, number-small es k)

    pub stands_at : (e : ℕ × V) → e ≡ get_or es (n - 1) e → IsSlotOf k (n - 1) e es
    stands_at e read =
        let next : slot_number es k ≡ suc (n - 1) = omega (arith, at_least_one, counted) in
        record { number = next; is = read }

-- an id that has an object is open
pub object_open : (es : List (ℕ × Slot)) (k : ℕ) → is_some (get (objects_in es) k) ≡ true
    → contains (keys_of {R = nat_cmp} es) k ≡ true
object_open es k h = contains-keys_of ids es k
    ∙ by (lookup (at_id k) es) (sym (ap (λ o. is_some o) (get-read (λ s. s.object) es k)) ∙ h)
  where
    by : (o : Option Slot) → is_some (option_and_then (λ s. s.object) o) ≡ true → is_some o ≡ true
    by None e = absurd (false≢true e)
    by (Some s) e = refl

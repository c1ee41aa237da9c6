-- Values that a part gets for each of some cards, and lists of ids by a test.
use Rattle.std.proofs.Common.{◌≡◌, ℕ, ◌-◌, ◌≤◌, Bool, true, false, cond, ◌&&◌, ◌||◌, List, [], ◌∷◌, ◌++◌, filter, map}
use Rattle.std.proofs.Common.{nat_eq, refl, sym, ap, ◌∙◌, arith, Option, Some, None, is_some, zero, suc, ◌<◌, length}
use Rattle.std.proofs.Common.{get_or}
use Rattle.std.proofs.lemmas.Bool.{false≢true}
use Rattle.std.proofs.lemmas.Bool.Decides.{nat_tests}
use Rattle.std.specs.Ordering.{nat_cmp, eq_by_cmp}
use Rattle.std.specs.declared.cmp.Ordering.{Ordering}
use Rattle.std.specs.Cmp.{IsTotalOrder, Equal-is, nat_cmp_total, unsigned_tied}
use Rattle.std.specs.FinMap.{FinMap, IsAntisymmetric, get, keys, remove, len, len-remove, contains_key-keys}
use Rattle.std.specs.FinMap.{nat_cmp-IsAntisymmetric}
use Rattle.std.specs.List.{list_any, AllByRecursion}
use Rattle.std.proofs.Math.Bool.{or-true}
use Rattle.std.proofs.lemmas.Cmp.{tied_itself}
use Rattle.ht_values.specs.declared.word.PartKind.{PartKind}
use Rattle.ht_values.specs.declared.word.PartKind.TheVariants.{Button, Field}
use Rattle.structural_changes.specs.Prepared.{has_content, pairs_kept}
use Rattle.object_table.specs.Content.{Content}
use Rattle.object_table.specs.Maps.{put_option}
use Rattle.object_table.specs.Objects.{object_at, contains_id}
use Rattle.object_table.specs.Pairs.{Pair, PairMap}
use Rattle.object_table.proofs.Maps.{get-put_option, put_option_again, put_option_apart}
use Rattle.object_table.proofs.Pairs.{pair_cmp_total, pair_cmp-IsAntisymmetric, pair_tied}
use Rattle.object_table.proofs.Slots.{nat_eq_sym}
use Rattle.stack_places.specs.Places.{put, field_text, button_hilite, whole, layer_parts, text, logical}
use Rattle.structural_changes.specs.Writes.{StackWrite, write, clear, put_each, empty_texts, false_hilites, ids_where}

unfoldable pub filled : {X : Type 0} → PairMap X → ℕ → List ℕ → X → PairMap X
filled m part [] v = m
filled m part (card ∷ cards) v = filled (put_option m (part, card) (Some v)) part cards v

pub texts_filled : (s : Content) (field : ℕ) (cards : List ℕ)
    → put_each s (empty_texts field cards) ≡ record s { texts = filled s.texts field cards [] }
unfolding put filled
texts_filled s field [] = refl
texts_filled s field (card ∷ cards) =
    texts_filled (record s { texts = put_option s.texts (field, card) (Some []) }) field cards

pub hilites_filled : (s : Content) (button : ℕ) (cards : List ℕ)
    → put_each s (false_hilites button cards) ≡ record s { hilites = filled s.hilites button cards false }
unfolding put filled
hilites_filled s button [] = refl
hilites_filled s button (card ∷ cards) =
    hilites_filled (record s { hilites = put_option s.hilites (button, card) (Some false) }) button cards

first_or : {X : Type 0} (a b c : Bool) (v f : X) → cond (a && c) v (cond (a && b) v f) ≡ cond (a && (b || c)) v f
first_or true true true v f = refl
first_or true true false v f = refl
first_or true false c v f = refl
first_or false b c v f = refl

pub get-filled : {X : Type 0} (m : PairMap X) (part : ℕ) (cards : List ℕ) (v : X) (q : Pair)
    → get (filled m part cards v) q ≡ cond (nat_eq q.0 part && contains_id q.1 cards) (Some v) (get m q)
unfolding filled
get-filled m part [] v q = by (nat_eq q.0 part)
  where
    by : (b : Bool) → get m q ≡ cond (b && false) (Some v) (get m q)
    by true = refl
    by false = refl
get-filled m part (card ∷ cards) v q =
    get-filled (put_option m (part, card) (Some v)) part cards v q
    ∙ ap (λ x. cond (nat_eq q.0 part && contains_id q.1 cards) (Some v) x)
    (get-put_option pair_cmp_total pair_cmp-IsAntisymmetric m (part, card) (Some v) q
    ∙ ap (λ b. cond b (Some v) (get m q))
    (pair_tied q (part, card) ∙ ap (λ b. nat_eq q.0 part && b) (nat_eq_sym q.1 card)))
    ∙ first_or (nat_eq q.0 part) (nat_eq card q.1) (contains_id q.1 cards) (Some v) (get m q)

-- ---- values that a card gets for each of some parts

unfoldable pub filled_for : {X : Type 0} → PairMap X → List ℕ → ℕ → X → PairMap X
filled_for m [] card v = m
filled_for m (part ∷ parts) card v = filled_for (put_option m (part, card) (Some v)) parts card v

pub texts_filled_for : (s : Content) (fields : List ℕ) (card : ℕ)
    → put_each s (map (λ field. write (field_text field card) (text [])) fields)
    ≡ record s { texts = filled_for s.texts fields card [] }
unfolding put filled_for
texts_filled_for s [] card = refl
texts_filled_for s (field ∷ fields) card =
    texts_filled_for (record s { texts = put_option s.texts (field, card) (Some []) }) fields card

pub hilites_filled_for : (s : Content) (buttons : List ℕ) (card : ℕ)
    → put_each s (map (λ button. write (button_hilite button card) (logical false)) buttons)
    ≡ record s { hilites = filled_for s.hilites buttons card false }
unfolding put filled_for
hilites_filled_for s [] card = refl
hilites_filled_for s (button ∷ buttons) card =
    hilites_filled_for (record s { hilites = put_option s.hilites (button, card) (Some false) }) buttons card

second_or : {X : Type 0} (a b c : Bool) (v f : X) → cond (c && a) v (cond (b && a) v f) ≡ cond ((b || c) && a) v f
second_or a true true v f = by a
  where
    by : (a : Bool) → cond a v (cond a v f) ≡ cond a v f
    by true = refl
    by false = refl
second_or a true false v f = refl
second_or a false c v f = refl

pub get-filled_for : {X : Type 0} (m : PairMap X) (parts : List ℕ) (card : ℕ) (v : X) (q : Pair)
    → get (filled_for m parts card v) q ≡ cond (contains_id q.0 parts && nat_eq q.1 card) (Some v) (get m q)
unfolding filled_for
get-filled_for m [] card v q = refl
get-filled_for m (part ∷ parts) card v q =
    get-filled_for (put_option m (part, card) (Some v)) parts card v q
    ∙ ap (λ x. cond (contains_id q.0 parts && nat_eq q.1 card) (Some v) x)
    (get-put_option pair_cmp_total pair_cmp-IsAntisymmetric m (part, card) (Some v) q
    ∙ ap (λ b. cond b (Some v) (get m q))
    (pair_tied q (part, card) ∙ ap (λ b. b && nat_eq q.1 card) (nat_eq_sym q.0 part)))
    ∙ second_or (nat_eq q.1 card) (nat_eq part q.0) (contains_id q.0 parts) (Some v) (get m q)

pub put_each-append : (s : Content) (xs ys : List StackWrite) → put_each s (xs ++ ys) ≡ put_each (put_each s xs) ys
put_each-append s [] ys = refl
put_each-append s (x ∷ xs) ys = put_each-append (put s x.place x.value) xs ys

pub contents_filled : (s : Content) (fields buttons : List ℕ) (card : ℕ)
    → put_each s (map (λ field. write (field_text field card) (text [])) fields
    ++ map (λ button. write (button_hilite button card) (logical false)) buttons) ≡ record s {
      texts =
          filled_for s.texts fields card [];
      hilites = filled_for s.hilites buttons card false;
    }
contents_filled s fields buttons card =
    put_each-append s (map (λ field. write (field_text field card) (text [])) fields)
    (map (λ button. write (button_hilite button card) (logical false)) buttons)
    ∙ ap (λ x. put_each x (map (λ button. write (button_hilite button card) (logical false)) buttons))
    (texts_filled_for s fields card)
    ∙ hilites_filled_for (record s { texts = filled_for s.texts fields card [] }) buttons card

-- ---- ids by a test

-- a key of a filtered list is one that passes
pub any-filter : {K : Type 0} {R : K → K → Ordering} → IsTotalOrder R → IsAntisymmetric R
    → (q : K) (p : K → Bool) (xs : List K) → list_any (eq_by_cmp R q) (filter p xs) ≡ p q && list_any (eq_by_cmp R q) xs
any-filter total same q p [] = no (p q)
  where
    no : (b : Bool) → false ≡ b && false
    no true = refl
    no false = refl
any-filter {R = R} total same q p (x ∷ xs) =
    by (any-filter total same q p xs) (p x) refl (eq_by_cmp R q x) refl (p q) refl
  where
    one : eq_by_cmp R q x ≡ true → q ≡ x
    one e = same q x ((Equal-is (R q x)).0 e)

    by : list_any (eq_by_cmp R q) (filter p xs) ≡ p q && list_any (eq_by_cmp R q) xs → (a : Bool) → p x ≡ a → (b : Bool)
        → eq_by_cmp R q x ≡ b → (c : Bool) → p q ≡ c
        → list_any (eq_by_cmp R q) (cond a (x ∷ filter p xs) (filter p xs)) ≡ c && (b || list_any (eq_by_cmp R q) xs)
    by rest true pa true e true pc = rw e refl
    by rest true pa true e false pc = absurd (false≢true (sym pc ∙ ap p (one e) ∙ pa))
    by rest true pa false e c pc = rw e (rest ∙ ap (λ b. b && list_any (eq_by_cmp R q) xs) pc)
    by rest false pa true e true pc = absurd (false≢true (sym pa ∙ ap p (sym (one e)) ∙ pc))
    by rest false pa true e false pc = rest ∙ ap (λ b. b && list_any (eq_by_cmp R q) xs) pc
    by rest false pa false e c pc = rest ∙ ap (λ b. b && list_any (eq_by_cmp R q) xs) pc

pub any-keys : (id : ℕ) (xs : List ℕ) → list_any (eq_by_cmp nat_cmp id) xs ≡ contains_id id xs
any-keys id [] = refl
any-keys id (x ∷ xs) =
    (λ i. unsigned_tied id x i || any-keys id xs i) ∙ ap (λ b. b || contains_id id xs) (nat_eq_sym id x)

-- an object that is there is among those that pass where it passes
pub contains-ids_where : (s : Content) (p : ℕ → Bool) (id : ℕ)
    → contains_id id (ids_where s p) ≡ p id && is_some (object_at s id)
contains-ids_where s p id = sym (any-keys id (filter p (keys s.objects)))
    ∙ any-filter nat_cmp_total nat_cmp-IsAntisymmetric id p (keys s.objects)
    ∙ ap (λ b. p id && b) (sym (contains_key-keys s.objects id))

-- ---- values that go

unfoldable pub cleared : {K X : Type 0} {R : K → K → Ordering} → FinMap R X → List K → FinMap R X
cleared m [] = m
cleared m (k ∷ ks) = cleared (put_option m k None) ks

get-cleared : {K X : Type 0} {R : K → K → Ordering} → IsTotalOrder R → IsAntisymmetric R
    → (m : FinMap R X) (ks : List K) (q : K) → get (cleared m ks) q ≡ cond (list_any (eq_by_cmp R q) ks) None (get m q)
unfolding cleared
get-cleared total same m [] q = refl
get-cleared {R = R} total same m (k ∷ ks) q = get-cleared total same (put_option m k None) ks q
    ∙ ap (λ x. cond (list_any (eq_by_cmp R q) ks) None x) (get-put_option total same m k None q)
    ∙ by (list_any (eq_by_cmp R q) ks) (eq_by_cmp R q k)
  where
    by : (a b : Bool) → cond a None (cond b None (get m q)) ≡ cond (b || a) None (get m q)
    by true true = refl
    by true false = refl
    by false true = refl
    by false false = refl

-- the keys that pass go
pub get-cleared_where : {K X : Type 0} {R : K → K → Ordering} → IsTotalOrder R → IsAntisymmetric R
    → (m : FinMap R X) (p : K → Bool) (q : K) → get (cleared m (filter p (keys m))) q ≡ cond (p q) None (get m q)
get-cleared_where {R = R} total same m p q =
    get-cleared total same m (filter p (keys m)) q
    ∙ ap (λ b. cond b None (get m q))
    (any-filter total same q p (keys m) ∙ ap (λ b. p q && b) (sym (contains_key-keys m q)))
    ∙ by (p q) (get m q)
  where
    by : {X : Type 0} (b : Bool) (found : Option X) → cond (b && is_some found) None found ≡ cond b None found
    by true None = refl
    by true (Some x) = refl
    by false found = refl

-- no more values are left
fewer : {X : Type 0} (m : FinMap nat_cmp X) (k : ℕ) → len (remove (remove m k) 0) ≤ len (remove m 0)
fewer m k = by (nat_eq k 0) refl
  where
    less : (b : Bool) (n : ℕ) → cond b (n - 1) n ≤ n
    less true n = omega arith
    less false n = omega arith

    by : (b : Bool) → nat_eq k 0 ≡ b → len (remove (remove m k) 0) ≤ len (remove m 0)
    by true q = let e : k ≡ 0 = grind (arith, nat_tests, q) in rw e
        (rw (put_option_again nat_cmp_total nat_cmp-IsAntisymmetric m 0 None None) (omega arith))
    by false q = let apart : k ≡ 0 → ⊥ = λ e. false≢true (sym q ∙ ap (λ x. nat_eq x 0) e) in
        rw (put_option_apart nat_cmp_total nat_cmp-IsAntisymmetric m k 0 None None apart)
        (rw (len-remove nat_cmp_total (remove m 0) k) (less _ (len (remove m 0))))

pub len-cleared : {X : Type 0} (m : FinMap nat_cmp X) (ks : List ℕ) → len (remove (cleared m ks) 0) ≤ len (remove m 0)
unfolding cleared
len-cleared m [] = omega arith
len-cleared m (k ∷ ks) = let first = len-cleared (put_option m k None) ks in let rest = fewer m k in omega arith

objects_cleared : (s : Content) (ids : List ℕ)
    → put_each s (map (λ id. clear (whole id)) ids) ≡ record s { objects = cleared s.objects ids }
unfolding put cleared
objects_cleared s [] = refl
objects_cleared s (id ∷ ids) = objects_cleared (record s { objects = put_option s.objects id None }) ids

parts_cleared : (s : Content) (ids : List ℕ)
    → put_each s (map (λ id. clear (layer_parts id)) ids) ≡ record s { parts = cleared s.parts ids }
unfolding put cleared
parts_cleared s [] = refl
parts_cleared s (id ∷ ids) = parts_cleared (record s { parts = put_option s.parts id None }) ids

texts_cleared : (s : Content) (pairs : List Pair)
    → put_each s (map (λ p. clear (field_text p.0 p.1)) pairs) ≡ record s { texts = cleared s.texts pairs }
unfolding put cleared
texts_cleared s [] = refl
texts_cleared s (p ∷ pairs) = texts_cleared (record s { texts = put_option s.texts p None }) pairs

hilites_cleared : (s : Content) (pairs : List Pair)
    → put_each s (map (λ p. clear (button_hilite p.0 p.1)) pairs) ≡ record s { hilites = cleared s.hilites pairs }
unfolding put cleared
hilites_cleared s [] = refl
hilites_cleared s (p ∷ pairs) = hilites_cleared (record s { hilites = put_option s.hilites p None }) pairs

pub all_cleared : (s : Content) (ids layers : List ℕ) (texts hilites : List Pair)
    → put_each s (map (λ id. clear (whole id)) ids ++ map (λ id. clear (layer_parts id)) layers
    ++ map (λ p. clear (field_text p.0 p.1)) texts ++ map (λ p. clear (button_hilite p.0 p.1)) hilites)
    ≡ record s {
      objects = cleared s.objects ids;
      parts = cleared s.parts layers;
      texts = cleared s.texts texts;
      hilites = cleared s.hilites hilites;
    }
all_cleared s ids layers texts hilites =
    let of_texts : List StackWrite = map (λ p. clear (field_text p.0 p.1)) texts in
    let of_hilites : List StackWrite = map (λ p. clear (button_hilite p.0 p.1)) hilites in
    let of_layers : List StackWrite = map (λ id. clear (layer_parts id)) layers in
    let a : Content = record s { objects = cleared s.objects ids } in
    let b : Content = record a { parts = cleared s.parts layers } in
    let c : Content = record b { texts = cleared s.texts texts } in
    let of_objects : List StackWrite = map (λ id. clear (whole id)) ids in
    put_each-append s (of_objects ++ of_layers ++ of_texts) of_hilites
    ∙ ap (λ x. put_each x of_hilites) (
    put_each-append s (of_objects ++ of_layers) of_texts
    ∙ ap (λ x. put_each x of_texts) (
    put_each-append s of_objects of_layers
    ∙ ap (λ x. put_each x of_layers) (objects_cleared s ids)
    ∙ parts_cleared a layers)
    ∙ texts_cleared b texts)
    ∙ hilites_cleared c hilites

-- what holds of each member holds of all
all-members : {K : Type 0} {R : K → K → Ordering} → IsTotalOrder R → (P : K → Type 0) (xs : List K)
    → ((q : K) → list_any (eq_by_cmp R q) xs ≡ true → P q) → AllByRecursion P xs
all-members total P [] f = tt
all-members {R = R} total P (x ∷ xs) f = (
  f x (ap (λ b. b || list_any (eq_by_cmp R x) xs) ((Equal-is (R x x)).1 (tied_itself total x))),
  all-members total P xs (λ q h. f q (ap (λ b. eq_by_cmp R q x || b) h ∙ or-true (eq_by_cmp R q x))),
)

-- each key that passes has a value
values-at_keys : {K X : Type 0} {R : K → K → Ordering} → IsTotalOrder R → IsAntisymmetric R → (m : FinMap R X)
    (p : K → Bool) → AllByRecursion (λ q. is_some (get m q) ≡ true) (filter p (keys m))
values-at_keys {R = R} total same m p = all-members {R = R} total (λ q. is_some (get m q) ≡ true) (filter p (keys m))
    (λ q h. second (p q) (is_some (get m q))
    (sym (any-filter total same q p (keys m) ∙ ap (λ b. p q && b) (sym (contains_key-keys m q))) ∙ h))
  where
    second : (a b : Bool) → a && b ≡ true → b ≡ true
    second true b h = h
    second false b h = absurd (false≢true h)

-- the pairs that pass have what is kept for them
pub contents-kept : (kind : PartKind) (s : Content) (p : Pair → Bool)
    → AllByRecursion (λ q. has_content kind s q ≡ true) (filter p (pairs_kept kind s))
contents-kept Field s p = values-at_keys pair_cmp_total pair_cmp-IsAntisymmetric s.texts p
contents-kept Button s p = values-at_keys pair_cmp_total pair_cmp-IsAntisymmetric s.hilites p

-- what holds of all holds of the one at a place
pub all-at : {X : Type 0} (P : X → Type 0) (xs : List X) (i : ℕ) (d : X) → i < length xs → AllByRecursion P xs
    → P (get_or xs i d)
all-at P [] i d h all = absurd (omega arith)
all-at P (x ∷ xs) zero d h all = all.0
all-at P (x ∷ xs) (suc i) d h all = all-at P xs i d (omega arith) all.1

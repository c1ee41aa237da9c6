-- Where a name stands, by the places that are kept.
use Rattle.std.proofs.Common.{◌≡◌, ℕ, ◌+◌, ◌<◌, ◌≤◌, Bool, true, false, cond, List, [], ◌∷◌, ◌++◌, length, refl, sym}
use Rattle.std.proofs.Common.{◌∙◌, ap, arith, take, subst, drop_of_length-le, append-nil}
use Rattle.std.specs.Prelude.{Option, Some, None, IfSome, position, map}
use Rattle.std.specs.List.{position_from}
use Rattle.std.specs.Option.{option_or}
use Rattle.std.specs.Str.{bytes_eq}
use Rattle.std.proofs.lemmas.List.{take-append-le, take-append-drop, take-map, length-append}
use Rattle.std.proofs.lemmas.List.Quantifiers.{position-Some}
use Rattle.std.proofs.lemmas.Iterator.Adapters.{position_from-zero}
use Rattle.std.proofs.lemmas.Slice.Eq.{bytes_eq-Decides}
use Rattle.std.proofs.lemmas.Map.Text.{is_eq-slice_cmp}
use Rattle.std.proofs.lemmas.Cmp.{eq_by_cmp_equiv, nat_list_cmp_total, nat_list_eq_equiv}
use Rattle.std.specs.Cmp.Lexicographic.{slice_cmp}
use Rattle.std.specs.Map.{lookup, AreApart, KeepsOthers}
use Rattle.std.specs.Ordering.{is_eq, nat_cmp, eq_by_cmp}
use Rattle.std.specs.declared.cmp.Ordering.{Ordering}
use Rattle.std.specs.declared.vec.Vec.{Vec}
use Rattle.ht_values.specs.Text.{folded, same}
use Rattle.ht_values.proofs.Folding.{folded_is_folded, folded_stays}
use Rattle.ht_values.proofs.Positions.{placed, position-push}
use Rattle.name_lists.specs.Places.{place_of_name}

from_map : {X Y : Type 0} (f : X → Y) (p : Y → Bool) (i : ℕ) (xs : List X)
    → position_from (λ x. p (f x)) i xs ≡ position_from p i (map f xs)
from_map f p i [] = refl
from_map f p i (x ∷ xs) = ap (cond (p (f x)) (Some i)) (from_map f p (i + 1) xs)

pub position_of-map : {X Y : Type 0} (f : X → Y) (p : Y → Bool) (xs : List X)
    → position (λ x. p (f x)) xs ≡ position p (map f xs)
position_of-map f p xs =
    position_from-zero (λ x. p (f x)) xs ∙ from_map f p 0 xs ∙ sym (position_from-zero p (map f xs))

-- names that stand nowhere among the first
pub near_missing : {X : Type 0} (f : X → List ℕ) (name : List ℕ) (k : ℕ) (xs : List X)
    → position (λ x. same (f x) name) (take k xs) ≡ None → place_of_name name (take k (map f xs)) ≡ None
near_missing f name k xs e =
    ap (place_of_name name) (take-map f k xs) ∙ sym (position_of-map f (λ n. same n name) (take k xs)) ∙ e

-- a place is one of the list
pub position_within : {X : Type 0} (p : X → Bool) (xs : List X) (i : ℕ) → position p xs ≡ Some i → i < length xs
position_within p [] i e = cc
position_within p (x ∷ xs) i e = (position-Some p (x ∷ xs) i x e).0

pub place_is_within : {X : Type 0} (p : X → Bool) (xs : List X) (o : Option ℕ) → o ≡ position p xs
    → IfSome o (λ i. i < length xs)
place_is_within p xs None e = tt
place_is_within p xs (Some i) e = position_within p xs i (sym e)

take_all : {X : Type 0} (k : ℕ) (xs : List X) → length xs ≤ k → take k xs ≡ xs
take_all k xs h =
    sym (append-nil (take k xs)) ∙ ap (λ ys. take k xs ++ ys) (sym (drop_of_length-le xs h)) ∙ take-append-drop k xs

unplaced : (b : Bool) (o : Option ℕ) (n : ℕ) → placed b o n ≡ None → o ≡ None
unplaced b None n e = refl
unplaced b (Some i) n e = cc

abbrev Indexes : (List ℕ → Option ℕ) → ℕ → List (List ℕ) → Type 0
Indexes kept most names =
    (name : List ℕ) → place_of_name name (take most names) ≡ None → kept name ≡ place_of_name name names

module _ (most : ℕ) (names : List (List ℕ)) (added : List ℕ) where
  -- one of the first names is added, and no place is kept of it
  pub near_added : (kept : List ℕ → Option ℕ) → Indexes kept most names → length names < most
      → Indexes kept most (names ++ added ∷ [])
  near_added kept is few name missing =
      let all : take most (names ++ added ∷ []) ≡ names ++ added ∷ [] =
      take_all most _ (omega (arith, length-append names (added ∷ []), few)) in
      let nowhere : place_of_name name (names ++ added ∷ []) ≡ None = ap (place_of_name name) (sym all) ∙ missing in
      let before : place_of_name name names ≡ None =
      unplaced _ _ _ (sym (position-push (λ n. same n name) names added) ∙ nowhere) in
      is name (ap (place_of_name name) (take_all most names (omega (arith, few))) ∙ before) ∙ before ∙ sym nowhere

  -- another one is added, and its place is kept
  pub far_added : (old new : List ℕ → Option ℕ) → Indexes old most names → most ≤ length names
      → (spelled : List ℕ) → added ≡ folded spelled → place_of_name spelled names ≡ None
      → ((name : List ℕ) → new name ≡ cond (bytes_eq (folded spelled) (folded name)) (Some (length names)) (old name))
      → Indexes new most (names ++ added ∷ [])
  far_added old new is many spelled is_added absent updates name missing =
      let near : place_of_name name (take most names) ≡ None =
      ap (place_of_name name) (sym (take-append-le most names (added ∷ []) many)) ∙ missing in
      let asked : same added name ≡ bytes_eq (folded spelled) (folded name) =
      ap (λ t. bytes_eq t (folded name))
      (ap folded is_added ∙ folded_stays (folded spelled) (folded_is_folded spelled)) in
      updates name ∙ by (bytes_eq (folded spelled) (folded name)) refl (is name near)
      ∙ ap (λ b. placed b (place_of_name name names) (length names)) (sym asked)
      ∙ sym (position-push (λ n. same n name) names added)
    where
      by : (b : Bool) → bytes_eq (folded spelled) (folded name) ≡ b → old name ≡ place_of_name name names
          → cond b (Some (length names)) (old name) ≡ placed b (place_of_name name names) (length names)
      by true e found =
          let same_text : folded spelled ≡ folded name = (bytes_eq-Decides (folded spelled) (folded name)).0 e in
          let gone : place_of_name name names ≡ None =
          ap (λ t. position (λ n. bytes_eq (folded n) t) names) (sym same_text) ∙ absent in
          rw gone refl
      by false e found = found ∙ other (place_of_name name names)
        where
          other : (o : Option ℕ) → o ≡ placed false o (length names)
          other None = refl
          other (Some i) = refl

abbrev key_order : {Z : Type 0} → Vec ℕ Z → Vec ℕ Z → Ordering
key_order x y = slice_cmp nat_cmp x.items y.items

abbrev at_key : {Z : Type 0} → List ℕ → Vec ℕ Z → Bool
at_key bs k = is_eq (slice_cmp nat_cmp bs k.items)

apart : {Z : Type 0} (bs cs : List ℕ) → bytes_eq bs cs ≡ false → AreApart (at_key {Z = Z} bs) (at_key {Z = Z} cs)
apart bs cs n k y =
    is_eq-slice_cmp cs k.items ∙ nat_list_eq_equiv.symm cs k.items
    ∙ sym (nat_list_eq_equiv.congr bs k.items cs (sym (is_eq-slice_cmp bs k.items) ∙ y)) ∙ n

others : {Z X : Type 0} (bs cs : List ℕ) (old new : List (Vec ℕ Z × X))
    → KeepsOthers (eq_by_cmp key_order) (at_key bs) old new → bytes_eq bs cs ≡ false
    → lookup (at_key cs) new ≡ lookup (at_key cs) old
unfolding KeepsOthers
others bs cs old new h n =
    h (at_key cs) (λ x y. (eq_by_cmp_equiv nat_list_cmp_total).congr cs x.items y.items) (apart bs cs n)

-- what a map has at any bytes after it was changed at some
pub kept_after : {Z X : Type 0} (bs cs : List ℕ) (old new : List (Vec ℕ Z × X)) (w : Option X)
    → lookup (λ k. is_eq (slice_cmp nat_cmp bs k.items)) new ≡ w
    → KeepsOthers (eq_by_cmp key_order) (at_key bs) old new
    → lookup (λ k. is_eq (slice_cmp nat_cmp cs k.items)) new
    ≡ cond (bytes_eq bs cs) w (lookup (λ k. is_eq (slice_cmp nat_cmp cs k.items)) old)
kept_after bs cs old new w here h = by (bytes_eq bs cs) refl
  where
    by : (b : Bool) → bytes_eq bs cs ≡ b → lookup (at_key cs) new ≡ cond b w (lookup (at_key cs) old)
    by true e = subst (λ ds. lookup (at_key ds) new ≡ w) ((bytes_eq-Decides bs cs).0 e) here
    by false e = others bs cs old new h e

-- a place that is kept, where others are beside it
pub or_kept : (b : Bool) (i : ℕ) (o shared : Option ℕ)
    → option_or (cond b (Some i) o) shared ≡ cond b (Some i) (option_or o shared)
or_kept true i o shared = refl
or_kept false i o shared = refl

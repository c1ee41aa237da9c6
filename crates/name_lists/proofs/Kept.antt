-- Places that are kept beside shared ones.
use Rattle.std.proofs.Common.{◌≡◌, ℕ, Bool, true, false, cond, List, [], ◌∷◌, ◌++◌, map, Option, Some, None, refl, ap}
use Rattle.std.proofs.Common.{◌∙◌, option_and_then}
use Rattle.std.specs.Map.{lookup}
use Rattle.std.specs.Option.{option_or}
use Rattle.std.specs.Ordering.{is_eq, nat_cmp}
use Rattle.std.specs.Cmp.Lexicographic.{slice_cmp}
use Rattle.std.specs.declared.vec.Vec.{Vec}
use Rattle.ht_values.specs.Text.{folded}
use Rattle.name_lists.specs.declared.places.PlaceMap.{PlaceMap}
use Rattle.name_lists.specs.Parameters.{bindings_of, names_bound}
use Rattle.name_lists.specs.Places.{pairs_in, pairs_shared, place_in, place_kept, place_of_name}
use Rattle.name_lists.proofs.Found.{kept_placed}
use Rattle.name_lists.proofs.Right.{names_folded}

module _ {Z : Type 0} (t : List ℕ → Bool) where
  kept_beside : (es : List (Vec ℕ Z × ℕ)) (rest : List (List ℕ × ℕ))
      → lookup t (map (λ e. (e.0.items, e.1)) es ++ rest) ≡ option_or (lookup (λ k. t k.items) es) (lookup t rest)
  kept_beside [] rest = refl
  kept_beside (e ∷ es) rest = by (t e.0.items) _ _ _ (kept_beside es rest)
    where
      by : (b : Bool) (o o1 r : Option ℕ) → o ≡ option_or o1 r
          → cond b (Some e.1) o ≡ option_or (cond b (Some e.1) o1) r
      by true o o1 r h = refl
      by false o o1 r h = h

-- the place of a name among those of one's own and shared ones
pub kept_is : (own : PlaceMap) (shared : Option (List (List ℕ))) (name : List ℕ)
    → place_kept (pairs_in own ++ pairs_shared shared) name
    ≡ option_or (place_in own name) (option_and_then (λ written. place_of_name name (names_bound (bindings_of written))) shared)
kept_is own shared name =
    kept_beside (λ n. is_eq (slice_cmp nat_cmp (folded name) n)) own.entries.entries (pairs_shared shared)
    ∙ ap (option_or (place_in own name)) (among shared)
  where
    among : (shared : Option (List (List ℕ))) → place_kept (pairs_shared shared) name
        ≡ option_and_then (λ written. place_of_name name (names_bound (bindings_of written))) shared
    among None = refl
    among (Some written) = kept_placed name (names_bound (bindings_of written)) (names_folded written)

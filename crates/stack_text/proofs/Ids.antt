-- Ids that are each new in their turn are distinct ids within the limits.
use Rattle.std.proofs.Common.{◌≡◌, ℕ, suc, ◌+◌, ◌<◌, ◌≤◌, false, eqb, List, [], ◌∷◌, ◌++◌, length, refl, sym, ◌∙◌}
use Rattle.std.proofs.Common.{arith, nat_eq, ◌||◌, ◌==◌, length-append}
use Rattle.std.specs.List.{AllByRecursion, IsDistinct}
use Rattle.std.proofs.lemmas.List.Folds.{list_any-append}
use Rattle.std.proofs.lemmas.Bool.{or_parts}
use Rattle.stack_text.specs.Document.{contains_id}
use Rattle.stack_text.proofs.Elements.{each_so, each_both}
use Rattle.stack_text.proofs.Forms.{adding}
use Rattle.stack_text.proofs.Productions.{IsNew}

-- ---- new ids

-- each is new in its turn, where these were used before
abbrev pub News : ℕ → List ℕ → List ℕ → Type 0
News next used [] = Unit {0}
News next used (id ∷ ids) = IsNew next used id × News next (used ++ id ∷ []) ids

pub News-parts : (next : ℕ) (used a b : List ℕ) → News next used (a ++ b)
    → News next used a × News next (adding used a) b
News-parts next used [] b h = (tt, h)
News-parts next used (i ∷ a) b h = let p = News-parts next (used ++ i ∷ []) a b h.1 in ((h.0, p.0), p.1)

pub News-joined : (next : ℕ) (used a b : List ℕ) → News next used a → News next (adding used a) b
    → News next used (a ++ b)
News-joined next used [] b h k = k
News-joined next used (i ∷ a) b h k = (h.0, News-joined next (used ++ i ∷ []) a b h.1 k)

pub News-room : (next : ℕ) (used ids : List ℕ) → News next used ids → length used ≤ 10000
    → length used + length ids ≤ 10000
News-room next used [] h few = omega arith
News-room next used (i ∷ ids) h few =
    let one : length (used ++ i ∷ []) ≡ length used + 1 = length-append used (i ∷ []) in
    let room : length used < 10000 = h.0.room in
    let others = News-room next (used ++ i ∷ []) ids h.1 (omega arith) in
    omega arith

pub News-range : (next : ℕ) (used ids : List ℕ) → News next used ids → AllByRecursion (λ id. (0 < id) × (id < next)) ids
News-range next used [] h = tt
News-range next used (i ∷ ids) h = ((h.0.some, h.0.below), News-range next (used ++ i ∷ []) ids h.1)

contains-push : (y x : ℕ) (used : List ℕ) → contains_id y (used ++ x ∷ []) ≡ (contains_id y used || (eqb x y || false))
contains-push y x used = list_any-append (λ z. z == y) used (x ∷ [])

-- none is among those before
News-apart : (next : ℕ) (used ids : List ℕ) → News next used ids
    → AllByRecursion (λ id. contains_id id used ≡ false) ids
News-apart next used [] h = tt
News-apart next used (i ∷ ids) h = (
  h.0.new,
  each_so (λ y e. (or_parts _ _ (sym (contains-push y i used) ∙ e)).0) ids
      (News-apart next (used ++ i ∷ []) ids h.1),
)

pub News-once : (next : ℕ) (used ids : List ℕ) → News next used ids → IsDistinct nat_eq ids
unfolding IsDistinct
News-once next used [] h = tt
News-once next used (i ∷ ids) h = (
  each_so (λ y e. (or_parts _ _ (or_parts _ _ (sym (contains-push y i used) ∙ e)).1).0) ids
      (News-apart next (used ++ i ∷ []) ids h.1),
  News-once next (used ++ i ∷ []) ids h.1,
)

pushed : (i : ℕ) (used : List ℕ) (y : ℕ) → contains_id y used ≡ false → eqb i y ≡ false
    → contains_id y (used ++ i ∷ []) ≡ false
pushed i used y e f = contains-push y i used ∙ rw (e, f) refl

pub News-from : (next : ℕ) (used ids : List ℕ) → AllByRecursion (λ id. (0 < id) × (id < next)) ids
    → AllByRecursion (λ id. contains_id id used ≡ false) ids → IsDistinct nat_eq ids → length used + length ids ≤ 10000
    → News next used ids
unfolding IsDistinct
News-from next used [] range apart once few = tt
News-from next used (i ∷ ids) range apart once few =
    let one : length (used ++ i ∷ []) ≡ length used + 1 = length-append used (i ∷ []) in
    let fits : length used + suc (length ids) ≤ 10000 = few in (
      record { room = omega arith; some = range.0.0; below = range.0.1; new = apart.0 },
      News-from next (used ++ i ∷ []) ids range.1 (each_both (pushed i used) ids apart.1 once.0) once.1 (omega arith),
    )

pub apart_from_none : (ids : List ℕ) → AllByRecursion (λ id. contains_id id [] ≡ false) ids
apart_from_none [] = tt
apart_from_none (i ∷ ids) = (refl, apart_from_none ids)

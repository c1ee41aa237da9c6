-- How many entries a batch has.
use Rattle.std.proofs.Common.{◌≡◌, ℕ, ◌+◌, ◌*◌, ◌≤◌, Bool, true, false, ◌||◌, if◌then◌else◌, nat_eq, List, [], ◌∷◌}
use Rattle.std.proofs.Common.{length, refl, sym, ap, ◌∙◌, arith}
use Rattle.std.specs.List.{list_any}
use Rattle.std.proofs.lemmas.Bool.{and_parts, or_left, or_right, eqb-true, eq-eqb}
use Rattle.std.proofs.Math.Nat.{add-mul}
use Rattle.std.proofs.lemmas.Slice.Eq.{bytes_eq-Decides}
use Rattle.stack_places.proofs.Exchanging.{false_true}
use Rattle.stack_places.proofs.Places as stack
use Rattle.journal_entries.specs.Places.{Place, same_place, global, in_stack, current_card, cell}
use Rattle.journal_entries.specs.Trails.{Mark, at, structural, turned, holds, IsOnce, structural_count, turn_count}
use Rattle.journal_entries.specs.Trails.{AreAmong, places_in, different, IsShort}

pub same_place-same : (p : Place) → same_place p p ≡ true
same_place-same (global n) = (bytes_eq-Decides n n).1 refl
same_place-same (in_stack p) = stack.same_place-same p
same_place-same current_card = refl
same_place-same (cell i c) = rw (eq-eqb i i refl, eq-eqb c c refl) refl

same_place-is : (p q : Place) → same_place p q ≡ true → p ≡ q
same_place-is (global m) (global n) h = ap (λ x. global x) ((bytes_eq-Decides m n).0 h)
same_place-is (global m) (in_stack q) h = false_true h
same_place-is (global m) current_card h = false_true h
same_place-is (global m) (cell j d) h = false_true h
same_place-is (in_stack p) (global n) h = false_true h
same_place-is (in_stack p) (in_stack q) h = ap (λ x. in_stack x) (stack.same_place-equal p q h)
same_place-is (in_stack p) current_card h = false_true h
same_place-is (in_stack p) (cell j d) h = false_true h
same_place-is current_card (global n) h = false_true h
same_place-is current_card (in_stack q) h = false_true h
same_place-is current_card current_card h = refl
same_place-is current_card (cell j d) h = false_true h
same_place-is (cell i c) (global n) h = false_true h
same_place-is (cell i c) (in_stack q) h = false_true h
same_place-is (cell i c) current_card h = false_true h
same_place-is (cell i c) (cell j d) h =
    let parts = and_parts (nat_eq i j) (nat_eq c d) h in λ k. cell (eqb-true i j parts.0 k) (eqb-true c d parts.1 k)

-- 1 for a place that the segment doesn't hold
abbrev free_one : Bool → ℕ
free_one true = 0
free_one false = 1

-- how many of these places the segment doesn't hold
free : List Mark → List Place → ℕ
free trail [] = 0
free trail (p ∷ ps) = free_one (holds p trail) + free trail ps

free-all : (ps : List Place) → free [] ps ≡ length ps
unfolding free
free-all [] = refl
free-all (p ∷ ps) = omega (arith, free-all ps)

free-past : (trail : List Mark) (ps : List Place) → free (structural ∷ trail) ps ≡ length ps
unfolding free
free-past trail [] = refl
free-past trail (p ∷ ps) = omega (arith, free-past trail ps)

held_more : (a b : Bool) → free_one (a || b) ≤ free_one b
held_more true b = omega arith
held_more false b = omega arith

free-turned : (trail : List Mark) (ps : List Place) → free (turned ∷ trail) ps ≡ free trail ps
unfolding free
free-turned trail [] = refl
free-turned trail (p ∷ ps) = omega (arith, free-turned trail ps)

free-more : (trail : List Mark) (p : Place) (ps : List Place) → free (at p ∷ trail) ps ≤ free trail ps
unfolding free
free-more trail p [] = omega arith
free-more trail p (q ∷ ps) = omega (arith, free-more trail p ps, held_more (same_place q p) (holds q trail))

head_less : (trail : List Mark) (p q : Place) → same_place p q ≡ true → holds p trail ≡ false
    → (free_one (holds q (at p ∷ trail)) ≡ 0) × (free_one (holds q trail) ≡ 1)
head_less trail p q e new =
    let is : q ≡ p = sym (same_place-is p q e) in (
      ap (λ b. free_one (b || holds q trail)) (ap (λ x. same_place x p) is ∙ same_place-same p),
      ap (λ b. free_one b)
          (ap (λ x. holds x trail) is ∙ new),
    )

or_false_left : (a b : Bool) → a ≡ false → (a || b) ≡ true → b ≡ true
or_false_left true b e h = false_true (sym e)
or_false_left false b e h = h

-- a place that the segment holds now is free no more
free-less : (trail : List Mark) (p : Place) (ps : List Place) → list_any (same_place p) ps ≡ true
    → holds p trail ≡ false → free (at p ∷ trail) ps + 1 ≤ free trail ps
unfolding free
free-less trail p [] among new = false_true among
free-less trail p (q ∷ ps) among new =
    elim (same_place p q) as (λ b. same_place p q ≡ b
    → free_one (same_place q p || holds q trail) + free (at p ∷ trail) ps + 1
    ≤ free_one (holds q trail) + free trail ps) [
      | true ↦ λ e. let here = head_less trail p q e new in omega (arith, here.0, here.1, free-more trail p ps)
      | false ↦ λ e. omega (
        arith,
        held_more (same_place q p) (holds q trail),
        free-less trail p ps
            (or_false_left (same_place p q) (list_any (same_place p) ps) e among) new,
      )
    ] refl

counted : (trail : List Mark) (ps : List Place) → IsOnce trail → AreAmong ps trail
    → length trail + free trail ps ≤ turn_count trail + structural_count trail + (structural_count trail + 1) * length
    ps
counted [] ps once among = omega (arith, free-all ps)
counted (structural ∷ trail) ps once among =
    let rest = counted trail ps once among in
    let more : (structural_count trail + 1 + 1) * length ps ≡ (structural_count trail + 1) * length ps + length ps =
    omega (arith, add-mul (structural_count trail + 1) 1 (length ps)) in
    omega (arith, rest, more, free-past trail ps)
counted (turned ∷ trail) ps once among = omega (arith, counted trail ps once among, free-turned trail ps)
counted (at p ∷ trail) ps once among =
    omega (arith, counted trail ps once.1 among.1, free-less trail p ps among.0 once.0)

-- each of these places once: the last of those that are the same
last_ones : List Place → List Place
last_ones [] = []
last_ones (p ∷ ps) = if list_any (same_place p) ps then last_ones ps else p ∷ last_ones ps

length-last_ones : (ps : List Place) → length (last_ones ps) ≡ different ps
unfolding last_ones
length-last_ones [] = refl
length-last_ones (p ∷ ps) = elim (list_any (same_place p) ps)
    as (λ b. length (if b then last_ones ps else p ∷ last_ones ps) ≡ (if b then different ps else different ps + 1))
    [ true ↦ length-last_ones ps | false ↦ omega (arith, length-last_ones ps) ]

-- a place that is one of them is one of the last ones
any-last_ones : (p : Place) (ps : List Place) → list_any (same_place p) ps ≡ true
    → list_any (same_place p) (last_ones ps) ≡ true
unfolding last_ones
any-last_ones p [] h = h
any-last_ones p (q ∷ ps) h =
    elim (list_any (same_place q) ps)
    as (λ b. list_any (same_place q) ps ≡ b
    → list_any (same_place p) (if b then last_ones ps else q ∷ last_ones ps) ≡ true) [
      | true ↦ λ again. any-last_ones p ps (there again)
      | false ↦ λ last. first_or_later (any-last_ones p ps)
    ] refl
  where
    there : list_any (same_place q) ps ≡ true → list_any (same_place p) ps ≡ true
    there again = elim (same_place p q) as (λ b. same_place p q ≡ b → list_any (same_place p) ps ≡ true) [
      | true ↦ λ e. ap (λ x. list_any (same_place x) ps) (same_place-is p q e) ∙ again
      | false ↦ λ e. or_false_left (same_place p q) (list_any (same_place p) ps) e h
    ] refl

    first_or_later : (list_any (same_place p) ps ≡ true → list_any (same_place p) (last_ones ps) ≡ true)
        → (same_place p q || list_any (same_place p) (last_ones ps)) ≡ true
    first_or_later later = elim (same_place p q)
        as (λ b. same_place p q ≡ b → (same_place p q || list_any (same_place p) (last_ones ps)) ≡ true) [
          | true ↦ λ e. or_left (same_place p q) (list_any (same_place p) (last_ones ps)) e
          | false ↦ λ e. or_right (same_place p q) (list_any (same_place p) (last_ones ps))
              (later (or_false_left (same_place p q) (list_any (same_place p) ps) e h))
        ] refl

among-last_ones : (ps : List Place) (trail : List Mark) → AreAmong ps trail → AreAmong (last_ones ps) trail
among-last_ones ps [] h = tt
among-last_ones ps (structural ∷ trail) h = among-last_ones ps trail h
among-last_ones ps (turned ∷ trail) h = among-last_ones ps trail h
among-last_ones ps (at p ∷ trail) h = (any-last_ones p ps h.0, among-last_ones ps trail h.1)

-- a batch with t turns and s structural entries, in which each place stands once in each segment and is one of p
-- different places, has at most t + s + (s + 1) * p entries
pub short : (trail : List Mark) (ps : List Place) → IsOnce trail → AreAmong ps trail → IsShort trail (different ps)
short trail ps once among =
    rw (← length-last_ones ps) (omega (arith, counted trail (last_ones ps) once (among-last_ones ps trail among)))

-- the places of a trail are its own
among-more : (p : Place) (ps : List Place) (trail : List Mark) → AreAmong ps trail → AreAmong (p ∷ ps) trail
among-more p ps [] h = tt
among-more p ps (structural ∷ trail) h = among-more p ps trail h
among-more p ps (turned ∷ trail) h = among-more p ps trail h
among-more p ps (at q ∷ trail) h =
    (or_right (same_place q p) (list_any (same_place q) ps) h.0, among-more p ps trail h.1)

among-own : (trail : List Mark) → AreAmong (places_in trail) trail
among-own [] = tt
among-own (structural ∷ trail) = among-own trail
among-own (turned ∷ trail) = among-own trail
among-own (at p ∷ trail) = (
  or_left (same_place p p) (list_any (same_place p) (places_in trail)) (same_place-same p),
  among-more p (places_in trail) trail (among-own trail),
)

pub short-own : (trail : List Mark) → IsOnce trail → IsShort trail (different (places_in trail))
short-own trail once = short trail (places_in trail) once (among-own trail)

-- How many entries the batch of a line has, by the places that it replaced.
use Rattle.std.proofs.Common.{◌≡◌, true, false, if◌then◌else◌, List, [], ◌∷◌, refl, ap, ◌∙◌}
use Rattle.std.proofs.lemmas.Bool.{or_left, or_right}
use Rattle.std.specs.List.{list_any}
use Rattle.stack_places.specs.Places.{property, field_text, button_hilite, whole, card_order, background_order}
use Rattle.stack_places.specs.Places.{layer_parts, next_id}
use Rattle.journal_entries.specs.Places.{Place, same_place, global, in_stack, current_card, cell}
use Rattle.journal_entries.specs.Replaced.{Replacement, places_of}
use Rattle.journal_entries.specs.Trails.{Mark, at, structural, turned, holds, mark_at, marked, AreAmong}
use Rattle.journal_entries.proofs.Trails.{same_place-same}
use Rattle.change_journal.specs.Rising.{trail_after}

-- each place that is replaced is one of these
abbrev pub AreOf : List Place → List Replacement → Type 0
AreOf ps [] = Unit {0}
AreOf ps (r ∷ rs) = (list_any (same_place r.place) ps ≡ true) × AreOf ps rs

of-more : (p : Place) (ps : List Place) (rs : List Replacement) → AreOf ps rs → AreOf (p ∷ ps) rs
of-more p ps [] h = tt
of-more p ps (r ∷ rs) h = (or_right (same_place r.place p) (list_any (same_place r.place) ps) h.0, of-more p ps rs h.1)

pub of-own : (rs : List Replacement) → AreOf (places_of rs) rs
of-own [] = tt
of-own (r ∷ rs) = (
  or_left (same_place r.place r.place) (list_any (same_place r.place) (places_of rs))
      (same_place-same r.place),
  of-more r.place (places_of rs) rs (of-own rs),
)

among-marked : (ps : List Place) (m : Mark) (trail : List Mark)
    → ((p : Place) → m ≡ at p → list_any (same_place p) ps ≡ true) → AreAmong ps trail → AreAmong ps (marked m trail)
among-marked ps (at p) trail one h = elim (holds p trail) as (λ b. AreAmong ps (if b then trail else at p ∷ trail))
    [ true ↦ h | false ↦ (one p refl, h) ]
among-marked ps structural trail one h = h
among-marked ps turned trail one h = h

-- the place of a mark is the place that was written
placed : (q p : Place) → mark_at q ≡ at p → p ≡ q
placed (global n) p m = cc
placed (in_stack (property id k)) p m = cc
placed (in_stack (field_text f c)) p m = cc
placed (in_stack (button_hilite b c)) p m = cc
placed (in_stack (whole id)) p m = let none : structural ≡ at p → ⊥ = λ x. cc in absurd (none m)
placed (in_stack card_order) p m = cc
placed (in_stack background_order) p m = cc
placed (in_stack (layer_parts l)) p m = cc
placed (in_stack next_id) p m = cc
placed current_card p m = cc
placed (cell i c) p m = cc

pub among-after : (ps : List Place) (rs : List Replacement) (trail : List Mark) → AreOf ps rs → AreAmong ps trail
    → AreAmong ps (trail_after rs trail)
among-after ps [] trail of h = h
among-after ps (r ∷ rs) trail of h = among-after ps rs (marked (mark_at r.place) trail) of.1
    (among-marked ps (mark_at r.place) trail (λ p m. ap (λ q. list_any (same_place q) ps) (placed r.place p m) ∙ of.0)
    h)

-- When two places are one.
use Rattle.std.proofs.Common.{◌≡◌, ◌&&◌, ℕ, Bool, true, false, nat_eq, refl, sym, ap, ◌∙◌}
use Rattle.std.proofs.lemmas.Bool.{eqb-true, eq-eqb, false≢true}
use Rattle.ht_values.specs.declared.word.Prop.{Prop}
use Rattle.stack_places.specs.Places.{StackPlace, same_place, same_prop, prop_number, property, field_text}
use Rattle.stack_places.specs.Places.{button_hilite, whole, card_order, background_order, layer_parts, next_id}
use Rattle.stack_places.specs.Codes.{prop_numbered, prop_back}

no : {A : Type 0} → false ≡ true → A
no e = absurd (false≢true e)

both : (a b : Bool) → (a && b) ≡ true → (a ≡ true) × (b ≡ true)
both true b h = (refl, h)
both false b h = no h

itself : (n : ℕ) → nat_eq n n ≡ true
itself n = eq-eqb n n refl

same_prop-equal : (p q : Prop) → same_prop p q ≡ true → p ≡ q
same_prop-equal p q h = sym (prop_back p) ∙ ap prop_numbered (eqb-true (prop_number p) (prop_number q) h) ∙ prop_back q

pub same_place-same : (p : StackPlace) → same_place p p ≡ true
same_place-same (property i p) = λ k. itself i k && itself (prop_number p) k
same_place-same (field_text f c) = λ k. itself f k && itself c k
same_place-same (button_hilite b c) = λ k. itself b k && itself c k
same_place-same (whole i) = itself i
same_place-same card_order = refl
same_place-same background_order = refl
same_place-same (layer_parts i) = itself i
same_place-same next_id = refl

pub same_place-equal : (p q : StackPlace) → same_place p q ≡ true → p ≡ q
same_place-equal (property i p) (property j q) h = let parts = both (nat_eq i j) (same_prop p q) h in λ k. property
    (eqb-true i j parts.0 k) (same_prop-equal p q parts.1 k)
same_place-equal (field_text f c) (field_text g d) h =
    let parts = both (nat_eq f g) (nat_eq c d) h in λ k. field_text (eqb-true f g parts.0 k) (eqb-true c d parts.1 k)
same_place-equal (button_hilite b c) (button_hilite a d) h = let parts = both (nat_eq b a) (nat_eq c d) h in λ k.
    button_hilite (eqb-true b a parts.0 k) (eqb-true c d parts.1 k)
same_place-equal (whole i) (whole j) h = ap (λ x. whole x) (eqb-true i j h)
same_place-equal card_order card_order h = refl
same_place-equal background_order background_order h = refl
same_place-equal (layer_parts i) (layer_parts j) h = ap (λ x. layer_parts x) (eqb-true i j h)
same_place-equal next_id next_id h = refl
same_place-equal p q h = no h

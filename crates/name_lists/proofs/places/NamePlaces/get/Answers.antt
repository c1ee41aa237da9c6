use Rattle.std.proofs.Common.{◌≡◌, ℕ, List, Option, None, sym, ap, ◌∙◌, option_and_then, option_map}
use Rattle.std.specs.Option.{option_or}
use Rattle.name_lists.specs.Parameters.{bindings_of, names_bound}
use Rattle.name_lists.specs.Places.{place_in, place_kept, place_of_name}
use Rattle.name_lists.proofs.Kept.{kept_is}
use Rattle.name_lists.proofs.places.NamePlaces.get.Goals as goal

abbrev among : Option (List (List ℕ)) → List ℕ → Option ℕ
among shared name = option_and_then (λ written. place_of_name name (names_bound (bindings_of written))) shared

pub returns-in-Some : goal.returns-in-Some
returns-in-Some c =
    let shared = option_map (λ r. r.value) c.self.inside.shared in
    let name = c.args.name.now in
    ap (λ o. option_or o (among shared name)) (sym c.in-Some.is ∙ c.get.ensures name c.folded.ensures.value)
    ∙ sym (kept_is c.self.inside.own shared name) ∙ ap (λ ps. place_kept ps name) c.self.view_is

pub returns-in-Some-shared : goal.returns-in-Some-shared
returns-in-Some-shared c =
    let own = c.self.inside.own in
    let shared = option_map (λ r. r.value) c.self.inside.shared in
    let name = c.args.name.now in
    let none : place_in own name ≡ None = sym (c.get.ensures name c.folded.ensures.value) ∙ c.in_default.is in
    c.place_of.ensures ∙ ap (λ written. place_of_name name (names_bound (bindings_of written))) c.deref.ensures
    ∙ ap (λ s. among (option_map (λ r. r.value) s) name) (sym c.in-Some-shared.is)
    ∙ ap (λ o. option_or o (among shared name)) (sym none)
    ∙ sym (kept_is own shared name) ∙ ap (λ ps. place_kept ps name) c.self.view_is

pub returns-in-None : goal.returns-in-None
returns-in-None c =
    let own = c.self.inside.own in
    let shared = option_map (λ r. r.value) c.self.inside.shared in
    let name = c.args.name.now in
    let none : place_in own name ≡ None = sym (c.get.ensures name c.folded.ensures.value) ∙ c.in_default.is in
    ap (λ s. among (option_map (λ r. r.value) s) name) (sym c.in-None.is)
    ∙ ap (λ o. option_or o (among shared name)) (sym none)
    ∙ sym (kept_is own shared name) ∙ ap (λ ps. place_kept ps name) c.self.view_is

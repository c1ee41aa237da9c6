use Rattle.std.proofs.Common.{◌≡◌, None, ap, sym, ◌∙◌, position, map, take}
use Rattle.ht_values.specs.Text.{same}
use Rattle.name_lists.specs.Places.{place_of_name}
use Rattle.name_lists.specs.declared.places.TheConstants.{MOST_SCANNED}
use Rattle.name_lists.proofs.Indexed.{near_missing, place_is_within, position_of-map}
use Rattle.containers.proofs.indexed_locals.Locals.number_among_many.Goals as goal

pub returns-in-None-clause-value : goal.returns-in-None-clause-value
returns-in-None-clause-value c =
    let ls = c.self.inside.items.items in
    let name = c.args.name.now in
    let near : place_of_name name (take MOST_SCANNED (map (λ l. l.name) ls)) ≡ None =
    near_missing (λ l. l.name) name MOST_SCANNED ls
    (ap (λ xs. position (λ l. same l.name name) (take MOST_SCANNED xs)) (sym c.deref.ensures.value)
    ∙ sym c.in-None.ensures.value) in
    c.get.ensures ∙ c.self.invariant name near ∙ sym (position_of-map (λ l. l.name) (λ n. same n name) ls)
    ∙ ap (position (λ l. same l.name name)) c.self.view_is

pub returns-in-None-clause-within : goal.returns-in-None-clause-within
returns-in-None-clause-within c =
    place_is_within (λ l. same l.name c.args.name.now) c.args.self.now c.get.result (returns-in-None-clause-value c)

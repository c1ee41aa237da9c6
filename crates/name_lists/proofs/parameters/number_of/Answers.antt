use Rattle.std.proofs.Common.{◌≡◌, None, ap, sym, ◌∙◌, position, map, take}
use Rattle.std.specs.Str.{bytes_eq}
use Rattle.ht_values.specs.Text.{folded, same}
use Rattle.name_lists.specs.Places.{place_of_name}
use Rattle.name_lists.specs.declared.places.TheConstants.{MOST_SCANNED}
use Rattle.name_lists.proofs.Indexed.{near_missing, place_is_within, position_of-map}
use Rattle.name_lists.proofs.parameters.number_of.Goals as goal

pub returns-in-None-clause-value : goal.returns-in-None-clause-value
returns-in-None-clause-value c =
    let bs = c.args.bound.now.bindings.items in
    let name = c.args.name.now in
    let near : place_of_name name (take MOST_SCANNED (map (λ b. b.name) bs)) ≡ None =
    near_missing (λ b. b.name) name MOST_SCANNED bs
    (ap (λ t. position (λ b. bytes_eq (folded b.name) t) (take MOST_SCANNED bs)) (sym c.form-form.ensures.form)
    ∙ ap (λ xs. position (λ b. bytes_eq (folded b.name) c.form-form.result.now) (take MOST_SCANNED xs))
    (sym c.deref-2.ensures.value)
    ∙ sym c.in-None.ensures.value) in
    c.get.ensures name c.form-form.ensures.form ∙ c.requires name near
    ∙ sym (position_of-map (λ b. b.name) (λ n. same n name) bs)

pub returns-in-None-clause-within : goal.returns-in-None-clause-within
returns-in-None-clause-within c =
    place_is_within (λ b. same b.name c.args.name.now) c.args.bound.now.bindings.items c.get.result
    (returns-in-None-clause-value c)

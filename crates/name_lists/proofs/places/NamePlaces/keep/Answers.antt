use Rattle.std.proofs.Common.{Some, cond, ap, sym, ◌∙◌, option_and_then, option_map}
use Rattle.std.specs.Option.{option_or}
use Rattle.std.proofs.lemmas.Result.{on_ok_weaker, on_err_weaker}
use Rattle.std.specs.Str.{bytes_eq}
use Rattle.ht_values.specs.Text.{folded, same}
use Rattle.name_lists.specs.Parameters.{bindings_of, names_bound}
use Rattle.name_lists.specs.Places.{place_in, place_kept, place_of_name}
use Rattle.name_lists.proofs.Indexed.{or_kept}
use Rattle.name_lists.proofs.Kept.{kept_is}
use Rattle.name_lists.proofs.places.NamePlaces.keep.Goals as goal

pub returns-clause-ok : goal.returns-clause-ok
returns-clause-ok c =
    let own = c.self.inside.own in
    let shared = option_map (λ r. r.value) c.self.inside.shared in
    on_ok_weaker c.keep.result
    (λ h other.
    let among = option_and_then (λ written. place_of_name other (names_bound (bindings_of written))) shared in
    kept_is c.keep.new.self shared other ∙ ap (λ o. option_or o among) (h other
    ∙ ap (λ t. cond (bytes_eq t (folded other)) (Some c.args.place) (place_in own other)) c.folded.ensures.value)
    ∙ or_kept (same c.args.name.now other) c.args.place (place_in own other) among
    ∙ ap (cond (same c.args.name.now other) (Some c.args.place))
    (sym (kept_is own shared other) ∙ ap (λ ps. place_kept ps other) c.self.view_is))
    c.keep.ensures.ok

pub returns-clause-err : goal.returns-clause-err
returns-clause-err c =
    let shared = option_map (λ r. r.value) c.self.inside.shared in
    on_err_weaker c.keep.result
    (λ h other.
    let among = option_and_then (λ written. place_of_name other (names_bound (bindings_of written))) shared in
    kept_is c.keep.new.self shared other ∙ ap (λ o. option_or o among) (h other)
    ∙ sym (kept_is c.self.inside.own shared other) ∙ ap (λ ps. place_kept ps other) c.self.view_is)
    c.keep.ensures.err

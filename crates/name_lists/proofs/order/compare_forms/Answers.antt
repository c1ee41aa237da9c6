use Rattle.std.proofs.Common.{◌≡◌, refl, ap, ◌∙◌, rules}
use Rattle.std.specs.Char.{to_ascii_lowercase}
use Rattle.std.specs.Ordering.{nat_cmp}
use Rattle.std.specs.Iterator.Adapters.{map_callee, map_source}
use Rattle.std.specs.Slice.Iter.{iter_rest}
use Rattle.std.proofs.lemmas.Iterator.{YieldsList-from_map, YieldsList-from_slice}
use Rattle.std.proofs.lemmas.Iterator.Search.{cmp_from_yields_List}
use Rattle.name_lists.proofs.order.compare_forms.Goals as goal

pub returns : goal.returns
returns c =
    cmp_from_yields_List (λ x y. y ≡ x) _ nat_cmp _ c.cmp.ensures.ran
    (YieldsList-from_map _ to_ascii_lowercase (YieldsList-from_slice c.args.left.now cc) (cc) (λ x r q k. search rules))
    (λ it e. YieldsList-from_map _ to_ascii_lowercase
    (YieldsList-from_slice c.args.right.now (ap (λ m. iter_rest (map_source m)) e ∙ cc))
    (ap map_callee e ∙ c.map-2.ensures.closure) (λ x r q k. search rules))
    (λ x y. refl)

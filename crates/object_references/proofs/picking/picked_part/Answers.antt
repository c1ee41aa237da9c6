use Rattle.std.proofs.Common.{sym, ap, ◌∙◌}
use Rattle.object_references.specs.References.{parts_on, picked}
use Rattle.object_references.proofs.Last.{found_on}
use Rattle.object_references.proofs.picking.picked_part.Goals as goal

pub returns-in_err-by_id-in-ById : goal.returns-in_err-by_id-in-ById
returns-in_err-by_id-in-ById c =
    let s = c.args.stack.now.content in
    let ids = parts_on s c.args.layer c.args.kind in
    c.from_residual.ensures ∙ c.in_err-by_id-in-ById.ensures s ids ∙ ap (picked s ids) (sym c.in-ById.is)

pub returns-in_ok-by_id-in-ById : goal.returns-in_ok-by_id-in-ById
returns-in_ok-by_id-in-ById c =
    let s = c.args.stack.now.content in
    let ids = parts_on s c.args.layer c.args.kind in
    c.find_part.ensures ∙ found_on s c.args.layer c.args.kind c.in_ok-by_id-in-ById.field-0
    ∙ c.in_ok-by_id-in-ById.ensures s ids ∙ ap (picked s ids) (sym c.in-ById.is)

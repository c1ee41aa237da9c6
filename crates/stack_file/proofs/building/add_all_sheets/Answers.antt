use Rattle.std.proofs.Common.{◌∙◌, ap, map, true, false}
use Rattle.stack_file.specs.Building.{with_sheets, with_orders}
use Rattle.stack_file.specs.Views.{sheet_seen}
use Rattle.std.proofs.lemmas.Result.{on_ok_weaker}
use Rattle.stack_file.proofs.building.add_all_sheets.Goals as goal

pub returns : goal.returns
returns c =
    let s = c.args.stack.now.content in
    let bs = c.args.backgrounds.now.items in
    let cs = c.args.cards.now.items in
    let orders = c.in_ok-open_sheets.ensures ∙ c.in_ok-set_orders.ensures
    ∙ (λ i. with_orders (map sheet_seen (c.as_slice.ensures.value i))
    (map sheet_seen (c.as_slice-2.ensures.value i)) s) in
    on_ok_weaker c.add_sheets-2.result (λ last. last
    ∙ ap (with_sheets true (map sheet_seen bs))
    (c.in_ok-add_sheets.ensures ∙ ap (with_sheets false (map sheet_seen cs)) orders)) c.add_sheets-2.ensures

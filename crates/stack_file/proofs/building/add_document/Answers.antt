use Rattle.std.proofs.Common.{◌∙◌, ap}
use Rattle.stack_file.specs.Building.{with_all_sheets, with_stack}
use Rattle.stack_file.specs.Views.{text_seen}
use Rattle.std.proofs.lemmas.Result.{on_ok_weaker}
use Rattle.stack_file.proofs.building.add_document.Goals as goal

pub returns : goal.returns
returns c =
    let d = text_seen c.args.lines in
    let sheets = c.in_ok-add_all_sheets.ensures
    ∙ (λ i. with_all_sheets d.backgrounds d.cards (c.swap_next.ensures.stack i).content) in
    on_ok_weaker c.put_object.result (λ last. last ∙ ap (with_stack d.stack) sheets) c.put_object.ensures

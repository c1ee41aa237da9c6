use Rattle.std.proofs.Common.{◌∙◌, ap, List}
use Rattle.stack_text.specs.declared.sheets.Part.{Part}
use Rattle.stack_file.specs.Building.{with_parts, with_keepings, with_list}
use Rattle.std.proofs.lemmas.Result.{on_ok_weaker}
use Rattle.stack_file.proofs.building.add_rows.Goals as goal

pub returns : goal.returns
returns c =
    let s = c.args.stack.now.content in
    let list = c.in_ok-put_list.ensures ∙ ap (λ (ps : List Part). with_list c.args.id ps s) c.as_slice.ensures.value in
    on_ok_weaker c.add_parts.result (λ last. last
    ∙ ap (with_parts c.args.card c.args.parts.now.items)
    (c.in_ok-add_keepings.ensures ∙ ap (with_keepings c.args.card c.args.keepings.now.items) list))
    c.add_parts.ensures

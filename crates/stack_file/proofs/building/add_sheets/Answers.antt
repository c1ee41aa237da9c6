use Rattle.std.proofs.Common.{ℕ, map, ◌∙◌, ap}
use Rattle.stack_file.specs.Building.{with_sheet, with_sheets}
use Rattle.stack_file.specs.Views.{sheet_seen}
use Rattle.stack_file.proofs.Built.{step}
use Rattle.stack_file.proofs.building.add_sheets.Goals as goal

pub loop-sheet-preserved : goal.loop-sheet-preserved
loop-sheet-preserved c =
    let sheet = sheet_seen c.in-Some.sheet in
    ap (with_sheets c.args.shared (map sheet_seen c.pop.new.self.items))
    (c.in_ok-add_sheet.ensures ∙ ap (λ (card : ℕ). with_sheet card sheet c.loop-sheet.stack.content)
    c.card_for.ensures)
    ∙ step sheet_seen c.args.shared c.pop.new.self.items c.loop-sheet.sheets.items c.in-Some.sheet
    c.loop-sheet.stack.content c.in-Some.ensures.items
    ∙ c.loop-sheet.invariant

use Rattle.std.proofs.Common.{◌≡◌, map, vec_len}
use Rattle.stack_file.specs.Building.{with_sheets}
use Rattle.stack_file.specs.Views.{sheet_seen}
use Rattle.stack_file.proofs.building.add_sheets.Given as goal

-- the sheets that are left still come in
abbrev pub invariant-loop-sheet : goal.invariant-loop-sheet
invariant-loop-sheet l = with_sheets l.shared (map sheet_seen l.sheets.items) l.stack.content
    ≡ with_sheets l.fn.shared (map sheet_seen l.fn.sheets.items) l.fn.stack.content

abbrev pub decreases-loop-sheet : goal.decreases-loop-sheet
decreases-loop-sheet l = vec_len l.sheets

use Rattle.std.proofs.Common.{◌≡◌, map, take}
use Rattle.stack_text.specs.Document.{sheet_ids}
use Rattle.stack_file.specs.Views.{sheet_seen}
use Rattle.stack_file.proofs.building.ids_of_sheets.Given as goal

abbrev pub invariant-loop-sheet : goal.invariant-loop-sheet
invariant-loop-sheet l = l.ids ≡ sheet_ids (map sheet_seen (take l.sheet-index l.sheets))

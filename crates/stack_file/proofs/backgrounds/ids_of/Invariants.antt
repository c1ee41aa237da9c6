use Rattle.std.proofs.Common.{◌≡◌, map, take}
use Rattle.stack_text.specs.Document.{sheet_ids}
use Rattle.stack_file.specs.Views.{sheet_seen}
use Rattle.stack_file.proofs.backgrounds.ids_of.Given as goal

abbrev pub invariant-loop-background : goal.invariant-loop-background
invariant-loop-background l = l.ids ≡ sheet_ids (map sheet_seen (take l.background-index l.backgrounds))

use Rattle.std.proofs.Common.{◌≡◌, map, drop}
use Rattle.std.specs.List.{list_all}
use Rattle.stack_text.specs.Document.{contains_id}
use Rattle.stack_file.specs.Views.{sheet_seen}
use Rattle.stack_file.proofs.backgrounds.each_among.Given as goal

-- whether each of the backgrounds that are left is among them
abbrev pub invariant-loop-background : goal.invariant-loop-background
invariant-loop-background l =
    list_all (λ b. contains_id b.id l.owners) (map sheet_seen (drop l.background-index l.backgrounds))
    ≡ list_all (λ b. contains_id b.id l.owners) (map sheet_seen l.backgrounds)
